use Rattle.std.proofs.Common.{◌≡◌, ◌++◌, length}
use Rattle.std.specs.List.{flat_map}
use Rattle.std.specs.Vec.Iter.{into_iter_items, into_iter_len}
use Rattle.td_walk.specs.declared.answer.SubAnswer.{SubAnswer}
use Rattle.td_visit.proofs.joining.add_given.Given as goal

-- the offers so far and those of what is left are those of all
abbrev pub invariant-loop-answer : goal.invariant-loop-answer
invariant-loop-answer l =
    (l.offers.items ++ flat_map (λ (a : SubAnswer). a.offers) (into_iter_items l.answer-iterator)
    ≡ l.initial.offers.items ++ flat_map (λ (a : SubAnswer). a.offers) (into_iter_items l.initial.answer-iterator))
    × (into_iter_len l.answer-iterator ≡ length (into_iter_items l.answer-iterator))
