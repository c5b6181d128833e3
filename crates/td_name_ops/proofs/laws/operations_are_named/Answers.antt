use Rattle.td_name_ops.proofs.Named.{not_implemented, operations-found, second-found}
use Rattle.td_name_ops.proofs.laws.operations_are_named.Goals as goal

pub returns-clause-found : goal.returns-clause-found
returns-clause-found c = operations-found

pub returns-clause-second : goal.returns-clause-second
returns-clause-second c = second-found

pub returns-clause-not_implemented : goal.returns-clause-not_implemented
returns-clause-not_implemented c = not_implemented
