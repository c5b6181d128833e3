use Rattle.td_ops.proofs.Told.{call-back}
use Rattle.td_ops.proofs.laws.calls_are_read_back.Goals as goal

pub returns : goal.returns
returns c = call-back
