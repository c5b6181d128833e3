-- An expression has one value over two maps that have the same properties under its names.
use Rattle.std.proofs.Common.{◌≡◌, ℤ, ℕ, List, [], ◌∷◌, ◌++◌, Bool, Some, is_some, ap, sym, subst, ◌∙◌}
use Rattle.std.specs.Option.{option_and_then}
use Rattle.td_lang.specs.declared.expr.Op.{Op}
use Rattle.td_lang.specs.declared.expr.Expr.{Expr, Expr-F, ind-Expr, fold-roll-Expr, roll-Expr}
use Rattle.td_lang.specs.declared.expr.Expr.TheFolds.{map-Expr}
use Rattle.td_lang.specs.declared.expr.Expr.TheVariants as expr
use Rattle.td_lang.specs.declared.expr.Expr.TheOpen as layer
use Rattle.td_value.specs.declared.structures.Property.{Property}
use Rattle.td_eval.specs.declared.simple.Simple.TheVariants.{Truth}
use Rattle.td_eval.specs.Kinds.{content_of}
use Rattle.td_eval.specs.Mentioning.{Names, names_layer, names_in}
use Rattle.td_eval.specs.Properties.{property, content_named}
use Rattle.td_eval.specs.Reading.{Agree}
use Rattle.td_eval.specs.Values.{operand, binary, within, negation, simple_value}
use Rattle.td_eval.proofs.Evaluating.{of_binary, of_within, of_not, of_exist, of_name, of_number, of_text, of_truth}

names-Binary : (o : Op) (a b : Expr) → names_in (expr.Binary o a b) ≡ names_in a ++ names_in b
unfolding names_in
names-Binary o a b = ap names_in (sym (expr.rolls-Binary o a b)) ∙ fold-roll-Expr Names names_layer (layer.Binary o a b)

names-Within : (a : Expr) (name : List ℕ) → names_in (expr.Within a name) ≡ names_in a ++ name ∷ []
unfolding names_in
names-Within a name =
    ap names_in (sym (expr.rolls-Within a name)) ∙ fold-roll-Expr Names names_layer (layer.Within a name)

names-Not : (a : Expr) → names_in (expr.Not a) ≡ names_in a
unfolding names_in
names-Not a = ap names_in (sym (expr.rolls-Not a)) ∙ fold-roll-Expr Names names_layer (layer.Not a)

names-Exist : (name : List ℕ) → names_in (expr.Exist name) ≡ name ∷ []
unfolding names_in
names-Exist name = ap names_in (sym (expr.rolls-Exist name)) ∙ fold-roll-Expr Names names_layer (layer.Exist name)

names-Name : (name : List ℕ) → names_in (expr.Name name) ≡ name ∷ []
unfolding names_in
names-Name name = ap names_in (sym (expr.rolls-Name name)) ∙ fold-roll-Expr Names names_layer (layer.Name name)

module _ (m n : List Property) where
  front : (xs ys : Names) → Agree m n (xs ++ ys) → Agree m n xs
  front [] ys h = tt
  front (x ∷ xs) ys h = (h.0, front xs ys h.1)

  back : (xs ys : Names) → Agree m n (xs ++ ys) → Agree m n ys
  back [] ys h = h
  back (x ∷ xs) ys h = back xs ys h.1

  Same : Expr → Type 0
  Same e = Agree m n (names_in e) → simple_value m e ≡ simple_value n e

  same_content : (name : List ℕ) → property m name ≡ property n name → content_named m name ≡ content_named n name
  unfolding content_named
  same_content name h = ap (option_and_then content_of) h

  same-Binary : (o : Op) (a b : Expr) → Same a → Same b → Same (expr.Binary o a b)
  unfolding Same
  same-Binary o a b pa pb h =
      let both : Agree m n (names_in a ++ names_in b) = subst (Agree m n) (names-Binary o a b) h in
      let x = pa (front (names_in a) (names_in b) both) in
      let y = pb (back (names_in a) (names_in b) both) in
      of_binary m o a b ∙ ap (λ l. binary o l (simple_value m b)) x ∙ ap (binary o (simple_value n a)) y
      ∙ sym (of_binary n o a b)

  same-Within : (a : Expr) (name : List ℕ) → Same a → Same (expr.Within a name)
  unfolding Same
  same-Within a name pa h =
      let both : Agree m n (names_in a ++ name ∷ []) = subst (Agree m n) (names-Within a name) h in
      let x = pa (front (names_in a) (name ∷ []) both) in
      let y = same_content name (back (names_in a) (name ∷ []) both).0 in
      of_within m a name ∙ ap (λ l. within l (content_named m name)) x ∙ ap (within (simple_value n a)) y
      ∙ sym (of_within n a name)

  same-Not : (a : Expr) → Same a → Same (expr.Not a)
  unfolding Same
  same-Not a pa h =
      of_not m a ∙ ap (option_and_then negation) (pa (subst (Agree m n) (names-Not a) h)) ∙ sym (of_not n a)

  same-Exist : (name : List ℕ) → Same (expr.Exist name)
  unfolding Same
  same-Exist name h =
      let there : Agree m n (name ∷ []) = subst (Agree m n) (names-Exist name) h in
      of_exist m name ∙ ap (λ o. Some (Truth (is_some o))) there.0 ∙ sym (of_exist n name)

  same-Name : (name : List ℕ) → Same (expr.Name name)
  unfolding Same
  same-Name name h =
      let there : Agree m n (name ∷ []) = subst (Agree m n) (names-Name name) h in
      of_name m name ∙ ap operand (same_content name there.0) ∙ sym (of_name n name)

  same-Number : (z : ℤ) → Same (expr.Number z)
  unfolding Same
  same-Number z h = of_number m z ∙ sym (of_number n z)

  same-Str : (t : List ℕ) → Same (expr.Str t)
  unfolding Same
  same-Str t h = of_text m t ∙ sym (of_text n t)

  same-Truth : (p : Bool) → Same (expr.Truth p)
  unfolding Same
  same-Truth p h = of_truth m p ∙ sym (of_truth n p)

  abbrev Kept : Type 0
  Kept = (e : Expr) × Same e

  step : (y : Expr-F Kept) → Same (roll-Expr (map-Expr Kept Expr (λ k. k.0) y))
  step (layer.Binary o a b) = rw (expr.rolls-Binary o a.0 b.0) (same-Binary o a.0 b.0 a.1 b.1)
  step (layer.Within a name) = rw (expr.rolls-Within a.0 name) (same-Within a.0 name a.1)
  step (layer.Not a) = rw (expr.rolls-Not a.0) (same-Not a.0 a.1)
  step (layer.Exist name) = rw (expr.rolls-Exist name) (same-Exist name)
  step (layer.Name name) = rw (expr.rolls-Name name) (same-Name name)
  step (layer.Number z) = rw (expr.rolls-Number z) (same-Number z)
  step (layer.Str t) = rw (expr.rolls-Str t) (same-Str t)
  step (layer.Truth p) = rw (expr.rolls-Truth p) (same-Truth p)

  all_same : (e : Expr) → Same e
  all_same = ind-Expr Same (λ x y is. subst (λ (z : Expr-F Expr). Same (roll-Expr z)) is (step y))

  pub reads : (e : Expr) → Agree m n (names_in e) → simple_value m e ≡ simple_value n e
  unfolding Same
  reads e h = all_same e h
