-- Lists of values that can be written: one of them, one put in place of another, a front, and what is left behind it.
use Rattle.std.proofs.Common.{◌≡◌, ℕ, zero, suc, ◌^◌, ◌<◌, ◌≤◌, Bool, true, false, List, [], ◌∷◌, length, take, drop}
use Rattle.std.proofs.Common.{slice_get, slice_set, Some, subst, arith, refl}
use Rattle.std.specs.List.{AllByRecursion}
use Rattle.td_cdr.specs.Sound.{Sound, sequence}
use Rattle.td_cdr.specs.declared.value_fault.ValueFault.{ValueFault}
use Rattle.td_typecode.specs.References.{profile, reference}
use Rattle.td_typecode.specs.declared.reference.Ior.{Ior}
use Rattle.td_iter.specs.Heads.{given_or_nil}
use Rattle.td_types.proofs.Sequences.{sequence-each, sequence-from}

-- ---- each of a list

pub each-at : {X : Type 0} (P : X → Type 0) (xs : List X) (k : ℕ) (x : X) → AllByRecursion P xs
    → slice_get xs k ≡ Some x → P x
each-at P [] k x h e = absurd (let bad : ⊥ = cc in bad)
each-at P (y ∷ xs) zero x h e = let same : y ≡ x = cc in subst P same h.0
each-at P (y ∷ xs) (suc k) x h e = each-at P xs k x h.1 e

pub each-set : {X : Type 0} (P : X → Type 0) (xs : List X) (k : ℕ) (x : X) → AllByRecursion P xs → P x
    → AllByRecursion P (slice_set xs k x)
each-set P [] k x h p = tt
each-set P (y ∷ xs) zero x h p = (p, h.1)
each-set P (y ∷ xs) (suc k) x h p = (h.0, each-set P xs k x h.1 p)

pub each-front : {X : Type 0} (P : X → Type 0) (n : ℕ) (xs : List X) → AllByRecursion P xs
    → AllByRecursion P (take n xs)
each-front P zero xs h = tt
each-front P (suc n) [] h = tt
each-front P (suc n) (x ∷ xs) h = (h.0, each-front P n xs h.1)

pub each-behind : {X : Type 0} (P : X → Type 0) (n : ℕ) (xs : List X) → AllByRecursion P xs
    → AllByRecursion P (drop n xs)
each-behind P zero xs h = h
each-behind P (suc n) [] h = tt
each-behind P (suc n) (x ∷ xs) h = each-behind P n xs h.1

-- ---- sequences

front-length : {X : Type 0} (n : ℕ) (xs : List X) → length (take n xs) ≤ length xs
front-length zero xs = omega arith
front-length (suc n) [] = omega arith
front-length (suc n) (x ∷ xs) = let h = front-length n xs in omega (arith, h)

behind-length : {X : Type 0} (n : ℕ) (xs : List X) → length (drop n xs) ≤ length xs
behind-length zero xs = omega arith
behind-length (suc n) [] = omega arith
behind-length (suc n) (x ∷ xs) = let h = behind-length n xs in omega (arith, h)

pub sequence-front : {X : Type 0} (g : Sound ValueFault X) (n : ℕ) (xs : List X) → (sequence g).format.admits xs
    → (sequence g).format.admits (take n xs)
sequence-front g n xs h =
    let few : length xs < 2 ^ 32 = h.0 in
    let fewer = front-length n xs in
    sequence-from g (take n xs) (omega (arith, few, fewer))
    (each-front g.format.admits n xs (sequence-each g xs h))

pub sequence-behind : {X : Type 0} (g : Sound ValueFault X) (n : ℕ) (xs : List X) → (sequence g).format.admits xs
    → (sequence g).format.admits (drop n xs)
sequence-behind g n xs h =
    let few : length xs < 2 ^ 32 = h.0 in
    let fewer = behind-length n xs in
    sequence-from g (drop n xs) (omega (arith, few, fewer))
    (each-behind g.format.admits n xs (sequence-each g xs h))

-- ---- references

-- one that the server makes, or nil where nothing is left
pub given-writes : (r : Ior) (more : Bool) → reference.format.admits r → reference.format.admits (given_or_nil r more)
given-writes r true h = h
given-writes r false h = (refl, sequence-from profile [] (omega arith) tt)
