use Rattle.std.proofs.Common.{◌≡◌, ◌++◌, length, map}
use Rattle.std.specs.Vec.Iter.{into_iter_items, into_iter_len}
use Rattle.td_walk.specs.Visits.{sub_answer}
use Rattle.td_visit.proofs.ending.sub_answers.Given as goal

-- what is given so far and what is left give what all give
abbrev pub invariant-loop-answer : goal.invariant-loop-answer
invariant-loop-answer l =
    (l.given ++ map sub_answer (into_iter_items l.answer-iterator)
    ≡ map sub_answer (into_iter_items l.initial.answer-iterator))
    × (into_iter_len l.answer-iterator ≡ length (into_iter_items l.answer-iterator))
