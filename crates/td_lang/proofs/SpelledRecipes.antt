-- A text's recipe is the parts that it spells, where it isn't too long.
use Rattle.std.proofs.Common.{◌≡◌, ℕ, zero, suc, ◌+◌, ◌<◌, ◌≤◌, nat_le, inl, inr, List, [], ◌∷◌}
use Rattle.std.proofs.Common.{length, take, drop, Option, Some, None, refl, sym, ap, subst, ◌∙◌, arith}
use Rattle.std.proofs.Common.{option_map}
use Rattle.std.proofs.lemmas.Bool.{cases_Bool, le-leb, leb-true, lt-leb}
use Rattle.std.proofs.lemmas.List.{take-append-drop, length-append}
use Rattle.td_lang.specs.declared.expr.Part.{Part}
use Rattle.td_lang.specs.Recipes.{SpellsParts, BeginsWithPart, IsRefusedAt, part_in_front, part_before, parts_of}
use Rattle.td_lang.specs.Recipes.{recipe_of}
use Rattle.td_lang.proofs.RecipeParts.{begins-front, begins-rest, front-found, not_both}

empty : (most : ℕ) → parts_of most [] ≡ Some []
empty zero = refl
empty (suc most) = refl

shorter : (bytes : List ℕ) (p : Part) (rest : List ℕ) (b : BeginsWithPart bytes p rest) → length rest < length bytes
shorter bytes p rest b =
    let f = front-found bytes p (length b.piece) (begins-front bytes p rest b) in
    let long : length bytes ≡ length b.piece + length rest = ap length b.whole ∙ length-append b.piece rest in
    omega (arith, f.some, long)

nothing-begins : (p : Part) (rest : List ℕ) → BeginsWithPart [] p rest → ⊥
nothing-begins p rest b = let h = begins-front [] p rest b in absurd cc

complete : (ps : List Part) (most : ℕ) (text : List ℕ) → SpellsParts ps text → length text ≤ most
    → parts_of most text ≡ Some ps
complete [] most text h le = ap (parts_of most) h ∙ empty most
complete (p ∷ ps) most [] h le = absurd (nothing-begins p h.0 h.1)
complete (p ∷ ps) zero (b ∷ text) h le = absurd (omega arith)
complete (p ∷ ps) (suc most) (b ∷ text) h le =
    ap (part_before (parts_of most) (b ∷ text)) (begins-front (b ∷ text) p h.0 h.1)
    ∙ ap (λ (rest : List ℕ). option_map (λ (parts : List Part). p ∷ parts) (parts_of most rest))
    (begins-rest (b ∷ text) p h.0 h.1)
    ∙ ap (option_map (λ (parts : List Part). p ∷ parts))
    (complete ps most h.0 h.2 (omega (arith, le, shorter (b ∷ text) p h.0 h.1)))

abbrev Sounds : ℕ → Type 0
Sounds most = (rest : List ℕ) (qs : List Part) → parts_of most rest ≡ Some qs → SpellsParts qs rest

sound : (most : ℕ) (text : List ℕ) (ps : List Part) → parts_of most text ≡ Some ps → SpellsParts ps text
sound zero [] ps e = let is : [] ≡ ps = cc in subst (λ (qs : List Part). SpellsParts qs []) is refl
sound zero (b ∷ text) ps e = absurd cc
sound (suc most) [] ps e = let is : [] ≡ ps = cc in subst (λ (qs : List Part). SpellsParts qs []) is refl
sound (suc most) (b ∷ text) ps e = by_front (sound most) (part_in_front (b ∷ text)) refl e
  where
    by_rest : Sounds most → (p : Part) (size : ℕ) → part_in_front (b ∷ text) ≡ Some (p, size) → (o : Option (List Part))
        → parts_of most (drop size (b ∷ text)) ≡ o → option_map (λ (parts : List Part). p ∷ parts) o ≡ Some ps
        → SpellsParts ps (b ∷ text)
    by_rest below p size front None is e = absurd cc
    by_rest below p size front (Some qs) is e =
        let whole : p ∷ qs ≡ ps = cc in
        let f = front-found (b ∷ text) p size front in
        subst (λ (rs : List Part). SpellsParts rs (b ∷ text)) whole (
          drop size (b ∷ text),
          record { piece = take size (b ∷ text); spells = f.spells; whole = sym (take-append-drop size (b ∷ text)) },
          below (drop size (b ∷ text)) qs is,
        )

    by_front : Sounds most → (o : Option (Part × ℕ)) → part_in_front (b ∷ text) ≡ o
        → part_before (parts_of most) (b ∷ text) o ≡ Some ps → SpellsParts ps (b ∷ text)
    by_front below None is e = absurd cc
    by_front below (Some found) is e =
        by_rest below found.0 found.1 is (parts_of most (drop found.1 (b ∷ text))) refl e

pub spelled : (ps : List Part) (text : List ℕ) → length text ≤ 4096 → SpellsParts ps text → Some ps ≡ recipe_of text
unfolding recipe_of
spelled ps text short h =
    rw (le-leb (length text) 4096 short) (sym (complete ps (length text) text h (omega arith)))

pub too_long : (text : List ℕ) → 4096 < length text → recipe_of text ≡ None
unfolding recipe_of
too_long text h = rw (lt-leb (length text) 4096 h) refl

pub refused : (text : List ℕ) (place : ℕ) → length text ≤ 4096 → IsRefusedAt text place → recipe_of text ≡ None
unfolding recipe_of
refused text place short h = rw (le-leb (length text) 4096 short) (by_parts (parts_of (length text) text) refl)
  where
    by_parts : (o : Option (List Part)) → parts_of (length text) text ≡ o → o ≡ None
    by_parts None e = refl
    by_parts (Some ps) e = absurd (not_both text place ps h (sound (length text) text ps e))

pub spelled_by : (text : List ℕ) (ps : List Part) → recipe_of text ≡ Some ps → (length text ≤ 4096) × SpellsParts ps text
unfolding recipe_of
spelled_by text ps e =
    elim (cases_Bool (nat_le (length text) 4096)) [
      | inl short ↦ (leb-true (length text) 4096 short, sound (length text) text ps (rw short at e))
      | inr long ↦ let none : None ≡ Some ps = rw long at e in absurd cc
    ]
