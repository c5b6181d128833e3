use Rattle.td_trader.proofs.Begun.{are_served, are_passed_on}
use Rattle.td_trader.proofs.begin_laws.queries_are_served.Goals as goal

pub returns-clause-searches : goal.returns-clause-searches
returns-clause-searches c = are_served

pub returns-clause-paths : goal.returns-clause-paths
returns-clause-paths c = are_passed_on
