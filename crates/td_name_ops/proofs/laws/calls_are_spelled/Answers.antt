use Rattle.td_name_ops.specs.Operations.{row}
use Rattle.td_name_ops.proofs.Told.{call-found, call-only, call-unknown}
use Rattle.td_name_ops.proofs.laws.calls_are_spelled.Goals as goal

pub returns-clause-lawful : goal.returns-clause-lawful
returns-clause-lawful c = λ operation. (row operation).body.lawful

pub returns-clause-refused : goal.returns-clause-refused
returns-clause-refused c = λ operation. (row operation).body.refuses

pub returns-clause-found : goal.returns-clause-found
returns-clause-found c = call-found

pub returns-clause-only : goal.returns-clause-only
returns-clause-only c = call-only

pub returns-clause-unknown : goal.returns-clause-unknown
returns-clause-unknown c = call-unknown
