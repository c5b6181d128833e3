use Rattle.std.proofs.Common.{refl}
use Rattle.td_walk.proofs.laws.worked_following.Goals as goal

pub returns : goal.returns
returns c = record {
  limited = λ a e. rw e refl;
  passed_on = λ a e. rw e refl;
  without_match = refl;
  with_match = refl;
}
