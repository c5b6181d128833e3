-- Rows of TypeCodes that are alike, one after the other.
use Rattle.std.proofs.Common.{◌≡◌, ℕ, suc, ◌+◌, ◌<◌, ◌≤◌, Bool, true, false, ◌&&◌, List, [], ◌∷◌, length, map, drop}
use Rattle.std.proofs.Common.{get_or, refl, sym, ap, ◌∙◌, arith}
use Rattle.std.proofs.lemmas.List.{drop_more, drop_all, length-map}
use Rattle.std.proofs.Math.Bool.{and-false}
use Rattle.td_typecode.specs.Same.{Component, row, alike, entry_like}

row-long : (ds es : List Component) → (length ds ≡ length es → ⊥) → alike (row ds) (row es) ≡ false
row-long [] [] no_match = absurd (no_match refl)
row-long [] (e ∷ es) no_match = refl
row-long (d ∷ ds) [] no_match = refl
row-long (d ∷ ds) (e ∷ es) no_match = rw (row-long ds es (λ e. no_match (ap suc e))) (and-false (entry_like d e))

module _ {X : Type 0} (entry : X → Component) where
  abbrev pub here : List X → List X → Bool
  here a b = alike (row (map entry a)) (row (map entry b))

  pub here-long : (a b : List X) → (length a ≡ length b → ⊥) → here a b ≡ false
  here-long a b no_match =
      row-long (map entry a) (map entry b) (λ e. no_match (sym (length-map a entry) ∙ e ∙ length-map b entry))

  here-at : (i : ℕ) (a b : List X) (m n : X) → i < length a → i < length b → m ≡ get_or a i m → n ≡ get_or b i n
      → here (drop i a) (drop i b) ≡ (entry_like (entry m) (entry n) && here (drop (i + 1) a) (drop (i + 1) b))
  here-at i a b m n la lb ma nb =
      let da : drop i a ≡ m ∷ drop (i + 1) a = drop_more a i m la ∙ ap (λ (x : X). x ∷ drop (i + 1) a) (sym ma) in
      let db : drop i b ≡ n ∷ drop (i + 1) b = drop_more b i n lb ∙ ap (λ (x : X). x ∷ drop (i + 1) b) (sym nb) in
      rw (da, db) refl

  pub here-end : (i : ℕ) (a b : List X) → length a ≡ length b → length a ≤ i → here (drop i a) (drop i b) ≡ true
  here-end i a b e le = rw (drop_all i a le, drop_all i b (omega (arith, e, le))) refl

  pub here-fails : (i : ℕ) (a b : List X) (m n : X) → i < length a → i < length b → m ≡ get_or a i m → n ≡ get_or b i n
      → false ≡ entry_like (entry m) (entry n) → false ≡ here (drop i a) (drop i b)
  here-fails i a b m n la lb ma nb e =
      sym (here-at i a b m n la lb ma nb ∙ ap (λ (x : Bool). x && here (drop (i + 1) a) (drop (i + 1) b)) (sym e))

  pub here-next : (i : ℕ) (a b : List X) (m n : X) → i < length a → i < length b → m ≡ get_or a i m → n ≡ get_or b i n
      → true ≡ entry_like (entry m) (entry n) → here (drop (i + 1) a) (drop (i + 1) b) ≡ here (drop i a) (drop i b)
  here-next i a b m n la lb ma nb e =
      sym (here-at i a b m n la lb ma nb ∙ ap (λ (x : Bool). x && here (drop (i + 1) a) (drop (i + 1) b)) (sym e))
