-- The number of the trader of a name, as it is looked for one by one.
use Rattle.std.proofs.Common.{◌≡◌, ℕ, zero, suc, ◌+◌, ◌<◌, ◌≤◌, List, [], ◌∷◌, length, drop, refl, ap, subst, ◌∙◌}
use Rattle.std.proofs.Common.{arith, Bool, true, false}
use Rattle.std.specs.Prelude.{Option, None, Some}
use Rattle.std.specs.Option.{option_map}
use Rattle.std.specs.Str.{bytes_eq}
use Rattle.td_targets.specs.Targets.{place_of}
use Rattle.td_trader.specs.Worlds.{View, name_at}

-- what is left of the traders is looked through, and so many come before
abbrev pub placed : (before : ℕ) → Option ℕ → Option ℕ
placed n found = option_map (λ k. n + k) found

placed-more : (n : ℕ) (o : Option ℕ) → placed n (option_map suc o) ≡ placed (n + 1) o
placed-more n None = refl
placed-more n (Some k) = let e : n + suc k ≡ n + 1 + k = omega arith in ap Some e

-- the trader of this number has the name, or is passed over
found-by : (v : View) (vs : List View) (name : List ℕ) (n : ℕ) (b : Bool) → bytes_eq v.name name ≡ b → b ≡ true
    → placed n (place_of (v ∷ vs) name) ≡ Some n
unfolding place_of
found-by v vs name n b e is = let z : n + 0 ≡ n = omega arith in rw (e ∙ is) (ap Some z)

pub placed-here : (w : List View) (name : List ℕ) (n : ℕ) → n < length w → bytes_eq (name_at w n) name ≡ true
    → (m : ℕ) → placed m (place_of (drop n w) name) ≡ Some m
placed-here [] name n h e m = absurd (omega (arith, h))
placed-here (v ∷ vs) name zero h e m = found-by v vs name m (bytes_eq v.name name) refl e
placed-here (v ∷ vs) name (suc n) h e m = placed-here vs name n (omega (arith, h)) e m

passed-by : (v : View) (vs : List View) (name : List ℕ) (n : ℕ) → bytes_eq v.name name ≡ false
    → placed n (place_of (v ∷ vs) name) ≡ placed (n + 1) (place_of vs name)
unfolding place_of
passed-by v vs name n e = rw e (placed-more n (place_of vs name))

behind : (w : List View) (name : List ℕ) (n : ℕ) → n < length w → bytes_eq (name_at w n) name ≡ false
    → (m : ℕ) → placed m (place_of (drop n w) name) ≡ placed (m + 1) (place_of (drop (suc n) w) name)
behind [] name n h e m = absurd (omega (arith, h))
behind (v ∷ vs) name zero h e m = passed-by v vs name m e
behind (v ∷ vs) name (suc n) h e m = behind vs name n (omega (arith, h)) e m

pub placed-behind : (w : List View) (name : List ℕ) (n : ℕ) → n < length w → bytes_eq (name_at w n) name ≡ false
    → (m : ℕ) → placed m (place_of (drop n w) name) ≡ placed (m + 1) (place_of (drop (n + 1) w) name)
placed-behind w name n h e m =
    let s : suc n ≡ n + 1 = omega arith in
    subst (λ x. placed m (place_of (drop n w) name) ≡ placed (m + 1) (place_of (drop x w) name)) s
    (behind w name n h e m)

-- at the end
pub placed-last : (w : List View) (name : List ℕ) (n m : ℕ) → length w ≤ n → placed m (place_of (drop n w) name) ≡ None
unfolding place_of
placed-last [] name zero m h = refl
placed-last [] name (suc n) m h = refl
placed-last (v ∷ vs) name zero m h = absurd (omega (arith, h))
placed-last (v ∷ vs) name (suc n) m h = placed-last vs name n m (omega (arith, h))
