-- Numbers that never fall.
use Rattle.std.proofs.Common.{ℕ, ◌<◌, List, [], ◌∷◌, arith}
use Rattle.std.specs.List.{AllByRecursion}
use Rattle.td_fed.specs.Trails.{NeverFalls}

-- all lie above what lies below the first
pub rises-above : (bound low : ℕ) (ns : List ℕ) (high : ℕ) → bound < low → NeverFalls low ns high
    → AllByRecursion (λ n. bound < n) ns
rises-above bound low [] high less h = tt
rises-above bound low (n ∷ ns) high less h =
    let first = h.0 in
    let here : bound < n = omega (arith, less, first) in
    (here, rises-above bound n ns high here h.1)
