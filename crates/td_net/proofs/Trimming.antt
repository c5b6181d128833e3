-- A list of words without the zeros at its end.
use Rattle.std.proofs.Common.{◌≡◌, ℕ, zero, suc, ◌+◌, List, [], ◌∷◌, ◌++◌, length, slice_index, refl, ap, ◌∙◌, arith}
use Rattle.td_net.specs.Supplies.{IsTrimmed, before_trimmed, without_zeros}

pub without-zero : (ws : List ℕ) → without_zeros (ws ++ 0 ∷ []) ≡ without_zeros ws
without-zero [] = refl
without-zero (w ∷ ws) = ap (before_trimmed w) (without-zero ws)

in-front : (x : ℕ) (ws : List ℕ) (w : ℕ) → before_trimmed x (ws ++ w ∷ []) ≡ x ∷ (ws ++ w ∷ [])
in-front zero [] w = refl
in-front (suc x) [] w = refl
in-front zero (y ∷ ws) w = refl
in-front (suc x) (y ∷ ws) w = refl

pub as-it-is : (ws : List ℕ) (w : ℕ) → (w ≡ 0 → ⊥) → without_zeros (ws ++ w ∷ []) ≡ ws ++ w ∷ []
as-it-is [] zero h = absurd (h refl)
as-it-is [] (suc w) h = refl
as-it-is (x ∷ ws) w h = ap (before_trimmed x) (as-it-is ws w h) ∙ in-front x ws w

behind : (w x : ℕ) (ws : List ℕ) → IsTrimmed (x ∷ ws) → IsTrimmed (w ∷ x ∷ ws)
behind w x ws h zero e z = absurd (omega (arith, e))
behind w x ws h (suc k) e z = h k (omega (arith, e)) z

alone : (n : ℕ) → IsTrimmed (suc n ∷ [])
alone n zero e z = omega (arith, z)
alone n (suc k) e z = omega (arith, e)

in-front-trimmed : (w : ℕ) (ws : List ℕ) → IsTrimmed ws → IsTrimmed (before_trimmed w ws)
in-front-trimmed zero [] h = h
in-front-trimmed (suc n) [] h = alone n
in-front-trimmed zero (x ∷ ws) h = behind zero x ws h
in-front-trimmed (suc n) (x ∷ ws) h = behind (suc n) x ws h

none-left : IsTrimmed []
none-left k e z = omega (arith, e)

pub last_word : (ws : List ℕ) → IsTrimmed (without_zeros ws)
last_word [] = none-left
last_word (w ∷ ws) = in-front-trimmed w (without_zeros ws) (last_word ws)
