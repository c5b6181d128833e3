-- Lists of octets, and the numbers that they spell.
use Rattle.std.proofs.Common.{ℕ, zero, suc, ◌+◌, ◌^◌, ◌<◌, List, [], ◌∷◌, ◌++◌, drop, get_or, subst, arith}
use Rattle.std.proofs.lemmas.List.{get_or-drop}
use Rattle.byteorder.specs.Numbers.{big_from-lt, little_from-lt}
use Rattle.td_cdr.specs.declared.order.Order.{Order}
use Rattle.td_cdr.specs.declared.order.Order.TheVariants.{Big, Little}
use Rattle.td_cdr.specs.Reading.{number}
use Rattle.td_cdr.specs.Spelling.{SpellsNumber, SpellsSigned}
use Rattle.std.specs.Prelude.{ℤ, ◌≤◌}
use Rattle.std.specs.Int.{Width}
use Rattle.std.specs.Int.RustNames.{FitsSigned}
use Rattle.std.proofs.Math.Facts.{sfits_to_z, Fits-of_lt}
use mir.Val.{bits}
use Rattle.td_cdr.specs.Gap.{gap}
use Rattle.td_cdr.specs.Lawful.{AreOctets}

each_front : (xs ys : List ℕ) (i : ℕ) → ((k : ℕ) → get_or (xs ++ ys) k 0 < 256)
    → get_or xs i 0 < 256
each_front [] ys i h = omega arith
each_front (x ∷ xs) ys zero h = h 0
each_front (x ∷ xs) ys (suc i) h = each_front xs ys i (λ k. h (suc k))

each_back : (xs ys : List ℕ) (i : ℕ) → ((k : ℕ) → get_or (xs ++ ys) k 0 < 256) → get_or ys i 0 < 256
each_back [] ys i h = h i
each_back (x ∷ xs) ys i h = each_back xs ys i (λ k. h (suc k))

pub octets-front : (xs ys : List ℕ) → AreOctets (xs ++ ys) → AreOctets xs
octets-front xs ys o = record { each = λ i. each_front xs ys i o.each }

pub octets-back : (xs ys : List ℕ) → AreOctets (xs ++ ys) → AreOctets ys
octets-back xs ys o = record { each = λ i. each_back xs ys i o.each }

pub octets-drop : (n : ℕ) (xs : List ℕ) → AreOctets xs → AreOctets (drop n xs)
octets-drop n xs o = record { each = λ i. rw get_or-drop (o.each (n + i)) }

number-lt : (order : Order) (n : ℕ) (xs : List ℕ) → AreOctets xs → number order n xs < 256 ^ n
number-lt Big n xs o = big_from-lt 0 n xs o.each
number-lt Little n xs o = little_from-lt 0 n xs o.each

pub number-admitted : (size : ℕ) (order : Order) (place v : ℕ) (b : List ℕ) → AreOctets b
    → SpellsNumber size order place v b → v < 256 ^ size
number-admitted size order place v b o s =
    subst (λ (n : ℕ). n < 256 ^ size) s.value
    (number-lt order size (drop (gap size place) b) (octets-drop (gap size place) b o))

pub signed-admitted : (width : Width) (size : ℕ) → 256 ^ size ≤ 2 ^ bits width
    → (order : Order) (place : ℕ) (v : ℤ) (b : List ℕ) → AreOctets b
    → SpellsSigned width size order place v b → FitsSigned width v
signed-admitted width size fits order place v b o s =
    let n = number order size (drop (gap size place) b) in
    let low : n < 256 ^ size = number-lt order size (drop (gap size place) b)
    (octets-drop (gap size place) b o) in
    subst (λ (z : ℤ). FitsSigned width z) s.value
    (sfits_to_z {w = width} {n = n} (Fits-of_lt {w = width} {n = n} (omega arith)))
