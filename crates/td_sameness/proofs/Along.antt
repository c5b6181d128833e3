-- Rows of TypeCodes that are the same as the places to which edges lead, one after the other.
use Rattle.std.proofs.Common.{◌≡◌, ℕ, suc, ◌+◌, ◌-◌, ◌<◌, ◌≤◌, Bool, true, false, ◌&&◌, List, [], ◌∷◌, length, map, drop}
use Rattle.std.proofs.Common.{take, get_or, slice_index, refl, sym, ap, ◌∙◌, arith}
use Rattle.std.proofs.lemmas.List.{drop_more, drop_all, length-map, take_rest}
use Rattle.std.proofs.Math.Bool.{and-false}
use Rattle.tc_graph.specs.declared.node.Node.{Node}
use Rattle.td_typecode.specs.Same.{Shapes, Component, row, alike_at, alike_along}
use Rattle.td_sameness.specs.Graphs.{LeadsWithin, others_alike}

along-long : (g : List Node) (ds : List Component) (es : List ℕ) → (length ds ≡ length es → ⊥)
    → alike_along g (row ds) es ≡ false
along-long g [] [] no_match = absurd (no_match refl)
along-long g [] (e ∷ es) no_match = refl
along-long g (d ∷ ds) [] no_match = refl
along-long g (d ∷ ds) (e ∷ es) no_match =
    rw (along-long g ds es (λ e. no_match (ap suc e))) (and-false (alike_at g d.shape e))

-- no edge behind the first one leads out of the graph, where none does
pub behind_first : (g : List Node) (es : List ℕ) → LeadsWithin g es → LeadsWithin g (take (length es - 1) (drop 1 es))
behind_first g [] w = record { each = λ k h. absurd (omega (arith, h)) }
behind_first g (e ∷ es) w = rw (take_rest (e ∷ es) 1) (record { each = λ k h. w.each (suc k) (omega (arith, h)) })

pub others_along : (g : List Node) (x : Shapes) (es : List ℕ) (r : Bool) → 1 ≤ length es
    → r ≡ alike_along g x (take (length es - 1) (drop 1 es)) → r ≡ others_alike g x es
others_along g x [] r some others = absurd (omega (arith, some))
others_along g x (e ∷ es) r some others =
    others ∙ ap (λ (xs : List ℕ). alike_along g x xs) (take_rest (e ∷ es) 1)

module _ {X : Type 0} (entry : X → Component) (g : List Node) where
  abbrev pub along : List X → List ℕ → Bool
  along a es = alike_along g (row (map entry a)) es

  pub along-lengths : (a : List X) (es : List ℕ) → (length a ≡ length es → ⊥) → along a es ≡ false
  along-lengths a es no_match = along-long g (map entry a) es (λ e. no_match (sym (length-map a entry) ∙ e))

  along-at : (i : ℕ) (a : List X) (es : List ℕ) (m : X) → i < length a → i < length es → m ≡ get_or a i m
      → along (drop i a) (drop i es)
      ≡ (alike_at g (entry m).shape (slice_index es i) && along (drop (i + 1) a) (drop (i + 1) es))
  along-at i a es m la le ma =
      let da : drop i a ≡ m ∷ drop (i + 1) a = drop_more a i m la ∙ ap (λ (x : X). x ∷ drop (i + 1) a) (sym ma) in
      let de : drop i es ≡ slice_index es i ∷ drop (i + 1) es = drop_more es i 0 le in
      rw (da, de) refl

  pub along-end : (i : ℕ) (a : List X) (es : List ℕ) → length a ≡ length es → length a ≤ i
      → along (drop i a) (drop i es) ≡ true
  along-end i a es e le = rw (drop_all i a le, drop_all i es (omega (arith, e, le))) refl

  pub along-fails : (i : ℕ) (a : List X) (es : List ℕ) (m : X) → i < length a → i < length es → m ≡ get_or a i m
      → false ≡ alike_at g (entry m).shape (slice_index es i) → false ≡ along (drop i a) (drop i es)
  along-fails i a es m la le ma other =
      sym (along-at i a es m la le ma
      ∙ ap (λ (x : Bool). x && along (drop (i + 1) a) (drop (i + 1) es)) (sym other))

  pub along-next : (i : ℕ) (a : List X) (es : List ℕ) (m : X) → i < length a → i < length es → m ≡ get_or a i m
      → true ≡ alike_at g (entry m).shape (slice_index es i)
      → along (drop (i + 1) a) (drop (i + 1) es) ≡ along (drop i a) (drop i es)
  along-next i a es m la le ma same =
      sym (along-at i a es m la le ma
      ∙ ap (λ (x : Bool). x && along (drop (i + 1) a) (drop (i + 1) es)) (sym same))
