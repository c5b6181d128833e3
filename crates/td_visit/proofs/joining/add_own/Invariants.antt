use Rattle.std.proofs.Common.{◌≡◌, ◌++◌, length}
use Rattle.std.specs.Vec.Iter.{into_iter_items, into_iter_len}
use Rattle.td_walk.specs.Answers.{own_offers}
use Rattle.td_visit.proofs.joining.add_own.Given as goal

-- the offers so far and those of what is left are those of all
abbrev pub invariant-loop-one : goal.invariant-loop-one
invariant-loop-one l =
    (l.offers.items ++ own_offers (into_iter_items l.one-iterator)
    ≡ l.initial.offers.items ++ own_offers (into_iter_items l.initial.one-iterator))
    × (into_iter_len l.one-iterator ≡ length (into_iter_items l.one-iterator))
