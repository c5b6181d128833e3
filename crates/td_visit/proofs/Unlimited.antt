-- Where no limit was met and no other trader was asked, no limit is named.
use Rattle.std.proofs.Common.{◌≡◌, ℕ, List, [], refl}
use Rattle.td_walk.specs.Answers.{limits_applied}
use Rattle.td_walk.specs.declared.answer.SubAnswer.{SubAnswer}

pub none_applied : (over : List (List ℕ)) (given : List SubAnswer) → over ≡ [] → given ≡ []
    → [] ≡ limits_applied over given
none_applied over given e f = rw (e, f) refl
