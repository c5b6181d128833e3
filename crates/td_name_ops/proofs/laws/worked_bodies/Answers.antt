use Rattle.td_name_ops.proofs.Worked.{bodies, replies}
use Rattle.td_name_ops.proofs.laws.worked_bodies.Goals as goal

pub returns-clause-requests : goal.returns-clause-requests
returns-clause-requests c = bodies

pub returns-clause-replies : goal.returns-clause-replies
returns-clause-replies c = replies
