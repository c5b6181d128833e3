use Rattle.td_names.proofs.Worked.{calls, keys}
use Rattle.td_names.proofs.laws.worked_names.Goals as goal

pub returns-clause-calls : goal.returns-clause-calls
returns-clause-calls c = calls

pub returns-clause-keys : goal.returns-clause-keys
returns-clause-keys c = keys
