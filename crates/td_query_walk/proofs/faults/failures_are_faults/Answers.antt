use Rattle.td_query_walk.proofs.Counting.{failed-all, failed-each}
use Rattle.td_query_walk.proofs.faults.failures_are_faults.Goals as goal

pub returns-clause-at_each : goal.returns-clause-at_each
returns-clause-at_each c = failed-each

pub returns-clause-in_all : goal.returns-clause-in_all
returns-clause-in_all c = failed-all
