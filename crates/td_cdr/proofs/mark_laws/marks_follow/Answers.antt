use Rattle.td_cdr.proofs.Marking.{follows}
use Rattle.td_cdr.proofs.mark_laws.marks_follow.Goals as goal

-- src/mark_laws.rt:15:1
pub returns : goal.returns
returns c = follows
