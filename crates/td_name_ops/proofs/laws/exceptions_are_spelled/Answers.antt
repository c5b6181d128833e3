use Rattle.td_name_ops.specs.Exceptions.{members_of}
use Rattle.td_name_ops.proofs.laws.exceptions_are_spelled.Goals as goal

pub returns : goal.returns
returns c = λ e. (members_of e).lawful
