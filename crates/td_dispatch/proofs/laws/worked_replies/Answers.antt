use Rattle.td_dispatch.proofs.Worked.{replies}
use Rattle.td_dispatch.proofs.laws.worked_replies.Goals as goal

pub returns : goal.returns
returns c = record { replies = replies }
