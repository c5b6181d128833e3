use Rattle.td_trader_laws.proofs.Reached.{reached-begin, reached-later, reached-search}
use Rattle.td_trader_laws.proofs.reaching.reached_traders_begin.Goals as goal

pub returns-clause-begin : goal.returns-clause-begin
returns-clause-begin c = reached-begin

pub returns-clause-search : goal.returns-clause-search
returns-clause-search c = reached-search

pub returns-clause-later : goal.returns-clause-later
returns-clause-later c = reached-later
