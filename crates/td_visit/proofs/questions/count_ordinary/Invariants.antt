use Rattle.std.proofs.Common.{◌≡◌, ℕ, ◌+◌, ◌≤◌, cond, drop, fold}
use Rattle.td_walk.specs.Visits.{is_ordinary}
use Rattle.td_walk.specs.declared.found.Found.{Found}
use Rattle.td_visit.proofs.questions.count_ordinary.Given as goal

-- the offers that are left make of the count what all make
abbrev pub invariant-loop-one : goal.invariant-loop-one
invariant-loop-one l =
    (l.count ≤ l.one-index)
    × (fold (λ (k : ℕ) (f : Found). k + cond (is_ordinary f.offer) 1 0) l.count (drop l.one-index l.found)
    ≡ fold (λ (k : ℕ) (f : Found). k + cond (is_ordinary f.offer) 1 0) 0 l.found)
