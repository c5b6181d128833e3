-- How many of some types an offer is of.
use Rattle.std.specs.Prelude.{ℕ, ◌==◌, if◌then◌else◌, List}
use Rattle.std.specs.List.{list_any}

-- 1 where the incarnation is one of these, 0 where not
abbrev pub count_among : List ℕ → (incarnation : ℕ) → ℕ
count_among types incarnation = if list_any (λ i. incarnation == i) types then 1 else 0
