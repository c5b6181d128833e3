use Rattle.td_ops.proofs.Named.{names-distinct, operations-found, second-found, repository-kept}
use Rattle.td_ops.proofs.laws.operations_are_named.Goals as goal

pub returns-clause-once : goal.returns-clause-once
returns-clause-once c = names-distinct

pub returns-clause-found : goal.returns-clause-found
returns-clause-found c = operations-found

pub returns-clause-second : goal.returns-clause-second
returns-clause-second c = second-found

pub returns-clause-not_implemented : goal.returns-clause-not_implemented
returns-clause-not_implemented c = repository-kept
