-- Numbers that never fall, and lists that are made item by item.
use Rattle.std.proofs.Common.{◌≡◌, ℕ, ◌≤◌, List, [], ◌∷◌, ◌++◌, append_assoc, refl, sym, ap, ◌∙◌, arith}
use Rattle.std.specs.List.{flat_map}
use Rattle.td_fed.specs.Trails.{NeverFalls}

pub rises-most : (low : ℕ) (ns : List ℕ) (high : ℕ) → NeverFalls low ns high → low ≤ high
rises-most low [] high h = h
rises-most low (n ∷ ns) high h =
    let first = h.0 in
    let rest = rises-most n ns high h.1 in
    omega (arith, first, rest)

rises-from : (less low : ℕ) (ns : List ℕ) (high : ℕ) → less ≤ low → NeverFalls low ns high → NeverFalls less ns high
rises-from less low [] high le h = omega (arith, le, h)
rises-from less low (n ∷ ns) high le h = let first = h.0 in (omega (arith, le, first), h.1)

-- one after the other
pub rises-on : (low : ℕ) (ns : List ℕ) (middle : ℕ) (ms : List ℕ) (high : ℕ) → NeverFalls low ns middle
    → NeverFalls middle ms high → NeverFalls low (ns ++ ms) high
rises-on low [] middle ms high a b = rises-from low middle ms high a b
rises-on low (n ∷ ns) middle ms high a b = (a.0, rises-on n ns middle ms high a.1 b)

pub flat-append : {A B : Type 0} (f : A → List B) (xs ys : List A)
    → flat_map f (xs ++ ys) ≡ flat_map f xs ++ flat_map f ys
flat-append f [] ys = refl
flat-append f (x ∷ xs) ys =
    ap (λ t. f x ++ t) (flat-append f xs ys) ∙ sym (append_assoc (f x) (flat_map f xs) (flat_map f ys))
