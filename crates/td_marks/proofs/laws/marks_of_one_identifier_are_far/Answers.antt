use Rattle.td_marks.proofs.Free.{far}
use Rattle.td_marks.proofs.laws.marks_of_one_identifier_are_far.Goals as goal

pub returns : goal.returns
returns c = far
