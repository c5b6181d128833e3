use Rattle.td_exceptions.specs.Exceptions.{row_of}
use Rattle.td_ops.proofs.laws.exceptions_are_read_back.Goals as goal

pub returns : goal.returns
returns c = λ e. (row_of e).members.lawful
