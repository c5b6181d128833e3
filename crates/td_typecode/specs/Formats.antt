-- A few more words for formats of CORBA's common data representation.
use Rattle.std.specs.Prelude.{◌≡◌, ℕ, zero, suc, Bool, true, false, List, [], ◌∷◌, length}
use Rattle.std.proofs.Common.{ap, ◌∙◌}
use Rattle.td_cdr.specs.Reading.{next_aligned}
use Rattle.td_cdr.specs.Format.{Format, array_format}
use Rattle.td_cdr.specs.Sound.{Sound, sequence, restriction}
use Rattle.td_cdr.specs.declared.value_fault.ValueFault.{ValueFault}
use Rattle.td_cdr.specs.declared.value_fault.ValueFault.TheVariants as fault

-- whether there is one at least
abbrev pub is_nonempty : {X : Type 0} → List X → Bool
is_nonempty [] = false
is_nonempty (x ∷ xs) = true

-- a sequence of at least one
abbrev pub nonempty_sequence : {X : Type 0} → Sound ValueFault X → Sound ValueFault (List X)
nonempty_sequence g = restriction is_nonempty (λ xs a. fault.BadValue (next_aligned 4 a))
    (sequence g)

-- so many values as are admitted
pub array-size : {F X : Type 0} (g : Format F X) (n : ℕ) (xs : List X)
    → (array_format g n).admits xs → n ≡ length xs
array-size {X = X} g zero xs ok = ap (length {A = X}) ok
array-size {X = X} g (suc n) xs ok = ap suc (array-size g n ok.0.1 ok.2.1)
    ∙ ap (length {A = X}) ok.1
