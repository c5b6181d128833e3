-- The first line of a log.
use Rattle.std.proofs.Common.{◌≡◌, ℕ, suc, ◌≤◌, Bool, true, false, List, [], ◌∷◌, length, nat_eq, refl, ap, sym}
use Rattle.std.proofs.Common.{arith, subst}
use Rattle.std.specs.List.{onto_first, slice_split}
use Rattle.std.proofs.lemmas.List.Splits.{slice_split-cons_no, slice_split-cons_yes}
use Rattle.td_log.specs.Words.{lines_of, without_end}
use Rattle.td_audit.specs.Auditing.{opening_of}

-- how long the first of these texts is
abbrev first_length : List (List ℕ) → ℕ
first_length [] = 0
first_length (x ∷ xs) = length x

onto-first : (x : ℕ) (parts : List (List ℕ)) → first_length (onto_first x parts) ≡ suc (first_length parts)
onto-first x [] = refl
onto-first x (part ∷ parts) = refl

part-by : (p : ℕ → Bool) (x : ℕ) (xs : List ℕ) (b : Bool) → p x ≡ b → first_length (slice_split p xs) ≤ length xs
    → first_length (slice_split p (x ∷ xs)) ≤ length (x ∷ xs)
part-by p x xs true e h = omega (arith, ap first_length (slice_split-cons_yes p x xs e))
part-by p x xs false e h =
    omega (arith, ap first_length (slice_split-cons_no p x xs e), onto-first x (slice_split p xs))

part-within : (p : ℕ → Bool) (xs : List ℕ) → first_length (slice_split p xs) ≤ length xs
part-within p [] = omega arith
part-within p (x ∷ xs) = part-by p x xs (p x) refl (part-within p xs)

end-within : (lines : List (List ℕ)) → first_length (without_end lines) ≤ first_length lines
end-within [] = omega arith
end-within ([] ∷ []) = omega arith
end-within ((b ∷ bytes) ∷ []) = omega arith
end-within (line ∷ next ∷ lines) = omega arith

-- it is no longer than the log
pub line-within : (log line : List ℕ) (after : List (List ℕ)) → lines_of log ≡ line ∷ after → length line ≤ length log
unfolding lines_of
line-within log line after e =
    let parts = slice_split (λ b. nat_eq b 10) log in
    omega (arith, ap first_length e, end-within parts, part-within (λ b. nat_eq b 10) log)

-- an empty log has none
pub no-lines : (log : List ℕ) → log ≡ [] → lines_of log ≡ []
unfolding lines_of
no-lines log e = ap lines_of e

pub none-opened : (log ws : List ℕ) → log ≡ [] → ws ≡ []
    → opening_of (lines_of log) ≡ record { words = ws; number = 0; lines = lines_of log }
unfolding lines_of
none-opened log ws e w =
    subst (λ (l : List ℕ). opening_of (lines_of l) ≡ record { words = ws; number = 0; lines = lines_of l }) (sym e)
    (subst (λ (vs : List ℕ). opening_of [] ≡ record { words = vs; number = 0; lines = [] }) (sym w) refl)
