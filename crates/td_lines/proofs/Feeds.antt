-- The lines of a text, from its cuts at LFs.
use Rattle.std.proofs.Common.{◌≡◌, ℕ, ◌+◌, ◌<◌, ◌==◌, List, [], ◌∷◌, length, take, drop, Some, None, refl, sym, ap}
use Rattle.std.proofs.Common.{◌∙◌, arith}
use Rattle.std.specs.List.{position}
use Rattle.std.specs.Str.Lines.{lines, lines_of_parts, strip_carriage_return}
use Rattle.std.proofs.lemmas.List.{drop-drop}
use Rattle.std.proofs.lemmas.List.Splits.{length-slice_split}
use Rattle.td_forms.proofs.Splitting.{split-None, split-Some}

lines-one_part : (text : List ℕ) → 0 < length text → lines_of_parts (text ∷ []) ≡ text ∷ []
lines-one_part [] h = absurd (omega arith)
lines-one_part (b ∷ bytes) h = grind arith

lines-more_parts : (part : List ℕ) (parts : List (List ℕ)) → 0 < length parts
    → lines_of_parts (part ∷ parts) ≡ strip_carriage_return part ∷ lines_of_parts parts
lines-more_parts part [] h = absurd (omega arith)
lines-more_parts part (next ∷ parts) h = refl

-- a text without LF is one line
pub lines-one : (text : List ℕ) → position (λ b. b == 10) text ≡ None → 0 < length text → lines text ≡ text ∷ []
lines-one text e h = ap lines_of_parts (split-None (λ b. b == 10) text e) ∙ lines-one_part text h

-- the first LF ends the first line
lines-cut : (text : List ℕ) (i : ℕ) → position (λ b. b == 10) text ≡ Some i
    → lines text ≡ strip_carriage_return (take i text) ∷ lines (drop (i + 1) text)
lines-cut text i e =
    ap lines_of_parts (split-Some (λ b. b == 10) text i e)
    ∙ lines-more_parts (take i text) _ (omega (arith, length-slice_split (λ b. b == 10) (drop (i + 1) text)))

pub lines-step : (text line rest kept after : List ℕ) (i : ℕ) → Some i ≡ position (λ b. b == 10) text
    → line ≡ take i text → rest ≡ drop i text → kept ≡ strip_carriage_return line → after ≡ drop 1 rest
    → lines text ≡ kept ∷ lines after
lines-step text line rest kept after i e l r k a =
    let same : drop 1 rest ≡ drop (i + 1) text =
    ap (drop 1) r ∙ drop-drop 1 i text ∙ ap (λ n. drop n text) (omega arith) in
    lines-cut text i (sym e) ∙ ap (λ x. x ∷ lines (drop (i + 1) text)) (ap strip_carriage_return (sym l) ∙ sym k)
    ∙ ap (λ x. kept ∷ lines x) (sym same ∙ sym a)
