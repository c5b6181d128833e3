use Rattle.td_trader_laws.proofs.WritingQueries.{refused-written, search-written}
use Rattle.td_trader_laws.proofs.group_laws.queries_begin_writably.Goals as goal

pub returns-clause-refused : goal.returns-clause-refused
returns-clause-refused c = refused-written

pub returns-clause-searches : goal.returns-clause-searches
returns-clause-searches c = search-written
