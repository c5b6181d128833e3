-- The lines of texts that are joined.
use Rattle.std.proofs.Common.{◌≡◌, ℕ, ◌<◌, Bool, true, false, cond, List, [], ◌∷◌, ◌++◌, length, map, refl}
use Rattle.std.proofs.Common.{sym}
use Rattle.std.proofs.Common.{ap, ◌∙◌, append_assoc, append-nil, arith}
use Rattle.std.proofs.lemmas.List.Splits.{length-slice_split}
use Rattle.std.specs.List.{onto_first, slice_split}
use Rattle.std.specs.Prelude.{◌==◌}
use Rattle.std.specs.Str.Lines.{lines, lines_of_parts, strip_carriage_return}

abbrev is_feed : ℕ → Bool
is_feed b = b == 10

abbrev parts : List ℕ → List (List ℕ)
parts text = slice_split is_feed text

onto-joined : (c : ℕ) (ps qs : List (List ℕ)) → 0 < length ps → onto_first c (ps ++ qs) ≡ onto_first c ps ++ qs
onto-joined c [] qs some = absurd (omega arith)
onto-joined c (p ∷ ps) qs some = refl

parts-joined : (x y : List ℕ) → parts (x ++ 10 ∷ y) ≡ parts x ++ parts y
parts-joined [] y = refl
parts-joined (c ∷ x) y = by_byte (is_feed c) (parts-joined x y)
  where
    by_byte : (b : Bool) → parts (x ++ 10 ∷ y) ≡ parts x ++ parts y
        → cond b ([] ∷ parts (x ++ 10 ∷ y)) (onto_first c (parts (x ++ 10 ∷ y)))
        ≡ cond b ([] ∷ parts x) (onto_first c (parts x)) ++ parts y
    by_byte true h = ap (λ (ps : List (List ℕ)). [] ∷ ps) h
    by_byte false h =
        let count = length-slice_split is_feed x in
        let some : 0 < length (parts x) = omega (arith, count) in
        ap (λ (ps : List (List ℕ)). onto_first c ps) h ∙ onto-joined c (parts x) (parts y) some

lines-of-joined : (ps : List (List ℕ)) (q : List ℕ) (qs : List (List ℕ))
    → lines_of_parts (ps ++ q ∷ qs) ≡ map strip_carriage_return ps ++ lines_of_parts (q ∷ qs)
lines-of-joined [] q qs = refl
lines-of-joined (p ∷ []) q qs = refl
lines-of-joined (p ∷ r ∷ ps) q qs =
    ap (λ (ls : List (List ℕ)). strip_carriage_return p ∷ ls) (lines-of-joined (r ∷ ps) q qs)

lines-some : (ps qs : List (List ℕ)) → 0 < length qs
    → lines_of_parts (ps ++ qs) ≡ map strip_carriage_return ps ++ lines_of_parts qs
lines-some ps [] some = absurd (omega arith)
lines-some ps (q ∷ qs) some = lines-of-joined ps q qs

-- behind a line feed the lines of what follows come
lines-behind : (x y : List ℕ) → lines (x ++ 10 ∷ y) ≡ map strip_carriage_return (parts x) ++ lines y
lines-behind x y =
    let count = length-slice_split is_feed y in
    let some : 0 < length (parts y) = omega (arith, count) in
    ap (λ (ps : List (List ℕ)). lines_of_parts ps) (parts-joined x y) ∙ lines-some (parts x) (parts y) some

-- the text ends with a line feed
pub record Ends (text : List ℕ) : Type 0 where
  pub front : List ℕ
  pub is : text ≡ front ++ 10 ∷ []

pub ends-joined : (x y : List ℕ) → Ends y → Ends (x ++ y)
ends-joined x y e = record {
  front = x ++ e.front;
  is = ap (λ (t : List ℕ). x ++ t) e.is ∙ sym (append_assoc x e.front (10 ∷ []));
}

-- so the lines of what follows come behind its own
pub lines-joined : (x y : List ℕ) → Ends x → lines (x ++ y) ≡ lines x ++ lines y
lines-joined x y e =
    let own : lines x ≡ map strip_carriage_return (parts e.front) =
    ap (λ (t : List ℕ). lines t) e.is
    ∙ (lines-behind e.front [] ∙ append-nil (map strip_carriage_return (parts e.front))) in
    ap (λ (t : List ℕ). lines (t ++ y)) e.is
    ∙ (ap (λ (t : List ℕ). lines t) (append_assoc e.front (10 ∷ []) y)
    ∙ (lines-behind e.front y ∙ ap (λ (ls : List (List ℕ)). ls ++ lines y) (sym own)))
