use Rattle.td_marks.proofs.Free.{fresh_follow}
use Rattle.td_marks.proofs.laws.fresh_marks_follow.Goals as goal

pub returns : goal.returns
returns c = fresh_follow
