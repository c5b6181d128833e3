-- Walks along a name.
use Rattle.std.proofs.Common.{◌≡◌, ℕ, ◌+◌, ◌<◌, Bool, true, false, cond, ◌==◌, List, [], ◌∷◌, length, drop, get_or}
use Rattle.std.proofs.Common.{Option, None, Some, Result, Ok, Err}
use Rattle.std.proofs.Common.{refl, ap, sym, ◌∙◌, arith, inl, inr, true≢false}
use Rattle.std.specs.Prelude.{IfOk}
use Rattle.std.proofs.lemmas.List.{drop_more}
use Rattle.std.proofs.Math.ListN.{drop_of_length-le}
use Rattle.std.proofs.lemmas.Bool.{cases_Bool}
use Rattle.td_names.specs.References.{context_of_reference}
use Rattle.td_names.specs.Stores.{Store, bound_in, is_live}
use Rattle.td_names.specs.Walking.{holder, if_live, next_context, nobody, not_context, not_found, through}
use Rattle.td_names.specs.Walking.{through_context}
use Rattle.td_names.specs.declared.act.NameAnswer.{NameAnswer}
use Rattle.td_names.specs.declared.component.Bound.{Bound}
use Rattle.td_names.specs.declared.component.NameComponent.{NameComponent}

-- one step along a name of more than one component
pub by_parts : (s : Store) (c : ℕ) (xs ys : List NameComponent) (k l : NameComponent) (ks : List NameComponent)
    → xs ≡ k ∷ ys
    → ys ≡ l ∷ ks → holder s c xs ≡ through s (bound_in s c k) xs ys (λ e. holder s e ys)
by_parts s c xs ys k l ks p q = rw (p, q) refl

pub one_step : (s : Store) (c : ℕ) (name : List NameComponent) (i : ℕ) (k : NameComponent) → i + 1 < length name
    → k ≡ get_or name i k
    → holder s c (drop i name) ≡ through s (bound_in s c k) (drop i name) (drop (i + 1) name)
    (λ e. holder s e (drop (i + 1) name))
one_step s c name i k lt is =
    let first : drop i name ≡ get_or name i k ∷ drop (i + 1) name = drop_more name i k (omega arith) in
    let second : drop (i + 1) name ≡ get_or name (i + 1) k ∷ drop (i + 1 + 1) name = drop_more name (i + 1) k lt in
    let head : drop i name ≡ k ∷ drop (i + 1) name = first ∙ ap (λ (x : NameComponent). x ∷ drop (i + 1) name)
    (sym is) in
    by_parts s c (drop i name) (drop (i + 1) name) k (get_or name (i + 1) k) (drop (i + 1 + 1) name) head second

pub some_components : (name : List NameComponent) → false ≡ (length name == 0) → 0 < length name
some_components [] h = absurd (true≢false (sym h))
some_components (k ∷ ks) h = omega arith

-- the last step
pub at_last : (s : Store) (c : ℕ) (name : List NameComponent) (i : ℕ) → i + 1 ≡ length name
    → holder s c (drop i name) ≡ Ok c
at_last s c name i end =
    let first : drop i name ≡ get_or name i nobody ∷ drop (i + 1) name = drop_more name i nobody (omega arith) in
    let none : drop (i + 1) name ≡ [] = drop_of_length-le name (omega arith) in
    rw (first, none) refl

-- ---- a walk from a live context ends in one

ok_same : (c d : ℕ) → ◌≡◌ {A = Result ℕ NameAnswer} (Ok c) (Ok d) → c ≡ d
ok_same c d h = cc

on_live : (s : Store) (o : Option ℕ) (d : ℕ) → if_live s o ≡ Some d → is_live s d ≡ true
on_live s None d h = absurd (let no_way : ⊥ = cc in no_way)
on_live s (Some n) d h = elim (cases_Bool (is_live s n)) [
  | inl live ↦
      let same : Some n ≡ Some d = (rw live at h) in
      let is : n ≡ d = cc in
      rw is at live
  | inr dead ↦ let bad : None ≡ Some d = (rw dead at h) in absurd (let no_way : ⊥ = cc in no_way)
]

-- on through a binding, where so it is from each context behind it
onto_live : (s : Store) (o : Option ℕ) (b : Bound) (rest : List NameComponent) (go : ℕ → Result ℕ NameAnswer) (d : ℕ)
    → if_live s (context_of_reference s.home b.object) ≡ o → ((n : ℕ) → is_live s n ≡ true → go n ≡ Ok d → is_live s d ≡ true)
    → through_context o b rest go ≡ Ok d → is_live s d ≡ true
onto_live s None b rest go d e more h = absurd (let no_way : ⊥ = cc in no_way)
onto_live s (Some n) b rest go d e more h = more n (on_live s (context_of_reference s.home b.object) n e) h

onto_or_not : (flag : Bool) (s : Store) (b : Bound) (name rest : List NameComponent) (go : ℕ → Result ℕ NameAnswer)
    (d : ℕ)
    → ((n : ℕ) → is_live s n ≡ true → go n ≡ Ok d → is_live s d ≡ true)
    → cond flag (through_context (next_context s b) b rest go) (Err (not_found not_context name)) ≡ Ok d
    → is_live s d ≡ true
onto_or_not true s b name rest go d more h = onto_live s (next_context s b) b rest go d refl more h
onto_or_not false s b name rest go d more h = absurd (let no_way : ⊥ = cc in no_way)

through_live : (s : Store) (o : Option Bound) (name rest : List NameComponent) (go : ℕ → Result ℕ NameAnswer) (d : ℕ)
    → ((n : ℕ) → is_live s n ≡ true → go n ≡ Ok d → is_live s d ≡ true) → through s o name rest go ≡ Ok d
    → is_live s d ≡ true
through_live s None name rest go d more h = absurd (let no_way : ⊥ = cc in no_way)
through_live s (Some b) name rest go d more h = onto_or_not b.context s b name rest go d more h

pub holder_live : (s : Store) (c : ℕ) (name : List NameComponent) (d : ℕ) → is_live s c ≡ true → holder s c name ≡ Ok d
    → is_live s d ≡ true
holder_live s c [] d live h = absurd (let no_way : ⊥ = cc in no_way)
holder_live s c (k ∷ []) d live h = rw (ok_same c d h) at live
holder_live s c (k ∷ l ∷ ks) d live h =
    through_live s (bound_in s c k) (k ∷ l ∷ ks) (l ∷ ks) (λ e. holder s e (l ∷ ks)) d
    (λ n alive g. holder_live s n (l ∷ ks) d alive g) h

pub held_if : (s : Store) (c : ℕ) (name : List NameComponent) (r : Result ℕ NameAnswer) → is_live s c ≡ true
    → r ≡ holder s c name → IfOk r (λ d. is_live s d ≡ true)
held_if s c name (Ok d) live e = holder_live s c name d live (sym e)
held_if s c name (Err x) live e = tt
