-- A list that is cut at the elements that pass a test.
use Rattle.std.proofs.Common.{◌≡◌, ℕ, ◌+◌, ◌<◌, ◌≤◌, Bool, true, false, cond, ltb, ltb-false, List, [], ◌∷◌, length}
use Rattle.std.proofs.Common.{take, drop, Option, Some, None, refl, sym, ap, ◌∙◌, arith}
use Rattle.std.specs.List.{All, position, position_or_len, slice_split}
use Rattle.std.proofs.lemmas.List.{drop-drop}
use Rattle.std.proofs.lemmas.List.Splits.{slice_split_none, slice_split_first}
use Rattle.std.proofs.lemmas.List.Sums.{fails_before_first, position_or_len_is}
use Rattle.std.proofs.lemmas.List.Quantifiers.{position-Some}

false-from_None : (t : Bool) (n : ℕ) → cond t (Some n) None ≡ None → t ≡ false
false-from_None true n e = cc
false-from_None false n e = refl

-- where the first place isn't found, no element passes
none-All : (p : ℕ → Bool) (xs : List ℕ) → position p xs ≡ None → All (λ x. p x ≡ false) xs
none-All p xs e k d l =
    let far : length xs ≤ position_or_len p xs =
    ltb-false _ _ (false-from_None (ltb (position_or_len p xs) (length xs)) _ e) in
    fails_before_first p xs k d (omega arith)

-- then the list is one part
pub split-None : (p : ℕ → Bool) (xs : List ℕ) → position p xs ≡ None → slice_split p xs ≡ xs ∷ []
split-None p xs e = slice_split_none p xs (none-All p xs e)

-- where it is found, it ends the first part
pub split-Some : (p : ℕ → Bool) (xs : List ℕ) (i : ℕ) → position p xs ≡ Some i
    → slice_split p xs ≡ take i xs ∷ slice_split p (drop (i + 1) xs)
split-Some p xs i e =
    let h = position-Some p xs i 0 e in
    let at : position_or_len p xs ≡ i = position_or_len_is p xs i 0 (omega arith) h.2 (λ _. h.1) in
    let cut : slice_split p xs ≡ take (position_or_len p xs) xs ∷ slice_split p (drop (position_or_len p xs + 1) xs) =
    slice_split_first p xs 0 (rw at h.0) in
    rw at at cut

-- the same of the pieces that two cuts made
pub split-pieces : (p : ℕ → Bool) (xs front back after : List ℕ) (i : ℕ) → Some i ≡ position p xs → front ≡ take i xs
    → back ≡ drop i xs → after ≡ drop 1 back → slice_split p xs ≡ front ∷ slice_split p after
split-pieces p xs front back after i e f b a =
    let same : drop 1 back ≡ drop (i + 1) xs =
    ap (drop 1) b ∙ drop-drop 1 i xs ∙ ap (λ n. drop n xs) (omega arith) in
    split-Some p xs i (sym e) ∙ ap (λ x. x ∷ slice_split p (drop (i + 1) xs)) (sym f)
    ∙ ap (λ x. front ∷ slice_split p x) (sym same ∙ sym a)
