use Rattle.std.proofs.Common.{◌≡◌, ℕ, ◌<◌, false, [], ◌∷◌}
use Rattle.td_types.specs.Reaching.{declares}
use Rattle.td_types.proofs.interfaces.place_of.Given as goal

-- none of the declarations so far is the interface's
abbrev pub invariant-loop-place : goal.invariant-loop-place
invariant-loop-place l = (place : ℕ) → place < l.place → declares l.declared (l.id ∷ []) place ≡ false
