-- What a type's removal leaves as it was: everything of the other types, where none of them has it as a supertype.
use Rattle.std.proofs.Common.{◌≡◌, ℕ, zero, suc, ◌≤◌, ◌<◌, Bool, true, false, ◌&&◌, ◌||◌, not, cond, inl, inr, List, []}
use Rattle.std.proofs.Common.{◌∷◌, ◌++◌, length, get_or, reverse, refl, sym, ap, subst, ◌∙◌, arith, Option, None, Some}
use Rattle.std.specs.List.{list_any, find, filter, flat_map, AllByRecursion}
use Rattle.std.specs.Str.{bytes_eq}
use Rattle.std.proofs.lemmas.Bool.{both_ways, cases_Bool, or_cases, or_parts, or_from, or_left, or_right, and_from}
use Rattle.std.proofs.lemmas.Bool.{false_from_ne_true, not_from_false}
use Rattle.std.proofs.lemmas.List.{reverse-append, append-nil}
use Rattle.std.proofs.lemmas.List.Elements.{filter-append}
use Rattle.std.proofs.lemmas.List.Folds.{list_any-append}
use Rattle.td_value.specs.declared.structures.PropStruct.{PropStruct}
use Rattle.td_types.specs.Conforming.{walk}
use Rattle.td_types.specs.Properties.{full, with_inherited}
use Rattle.td_types.specs.Repository.{ServiceType, is_named, type_named, has_type, is_among, top, IsWellFounded}
use Rattle.td_types.proofs.Chains.{same-bytes, bytes-same}

-- ---- lists from their other end

reversed : {X : Type 0} (x : X) (xs : List X) → reverse (x ∷ xs) ≡ reverse xs ++ x ∷ []
reversed x xs = reverse-append (x ∷ []) xs

filter_end : {X : Type 0} (x : X) (xs : List X) (b : Bool)
    → reverse xs ++ cond b (x ∷ []) [] ≡ reverse (cond b (x ∷ xs) xs)
filter_end x xs true = sym (reversed x xs)
filter_end x xs false = append-nil (reverse xs)

pub filter-reverse : {X : Type 0} (test : X → Bool) (xs : List X) → filter test (reverse xs) ≡ reverse (filter test xs)
filter-reverse test [] = refl
filter-reverse test (x ∷ xs) =
    ap (filter test) (reversed x xs) ∙ filter-append test (reverse xs) (x ∷ [])
    ∙ ap (λ ys. ys ++ cond (test x) (x ∷ []) []) (filter-reverse test xs) ∙ filter_end x (filter test xs) (test x)

or_turned : (a b : Bool) → (b || (a || false)) ≡ (a || b)
or_turned true true = refl
or_turned true false = refl
or_turned false true = refl
or_turned false false = refl

pub any-reverse : {X : Type 0} (test : X → Bool) (xs : List X) → list_any test (reverse xs) ≡ list_any test xs
any-reverse test [] = refl
any-reverse test (x ∷ xs) =
    ap (list_any test) (reversed x xs) ∙ list_any-append test (reverse xs) (x ∷ [])
    ∙ ap (λ (b : Bool). b || (test x || false)) (any-reverse test xs) ∙ or_turned (test x) (list_any test xs)

pub any-agree : {X : Type 0} (p q : X → Bool) (xs : List X) → AllByRecursion (λ x. p x ≡ q x) xs
    → list_any p xs ≡ list_any q xs
any-agree p q [] h = refl
any-agree p q (x ∷ xs) h =
    ap (λ (b : Bool). b || list_any p xs) h.0 ∙ ap (λ (b : Bool). q x || b) (any-agree p q xs h.1)

pub any-implies : {X : Type 0} (p q : X → Bool) (xs : List X) → ((x : X) → p x ≡ true → q x ≡ true)
    → list_any p xs ≡ true → list_any q xs ≡ true
any-implies p q [] f h = h
any-implies p q (x ∷ xs) f h =
    elim (or_cases (p x) (list_any p xs) h) [
      | inl here ↦ or_left (q x) (list_any q xs) (f x here)
      | inr there ↦ or_right (q x) (list_any q xs) (any-implies p q xs f there)
    ]

found_none : {X : Type 0} (x : X) (b : Bool) (later : Option X) → cond b (Some x) later ≡ None
    → (b ≡ false) × (later ≡ None)
found_none x true later h = absurd (let bad : ⊥ = cc in bad)
found_none x false later h = (refl, h)

pub none-found : {X : Type 0} (test : X → Bool) (xs : List X) → find test xs ≡ None → list_any test xs ≡ false
none-found test [] h = refl
none-found test (x ∷ xs) h =
    let p = found_none x (test x) (find test xs) h in
    or_from (test x) (list_any test xs) p.0 (none-found test xs p.1)

pub among-at : (names : List (List ℕ)) (i : ℕ) (d : List ℕ) → i < length names
    → is_among (get_or names i d) names ≡ true
among-at [] i d h = absurd (omega (arith, h))
among-at (name ∷ names) zero d h = or_left (bytes_eq name name) (is_among name names) (bytes-same name name refl)
among-at (name ∷ names) (suc i) d h =
    or_right (bytes_eq (get_or names i d) name) (is_among (get_or names i d) names)
    (among-at names i d (omega (arith, h)))

-- ---- the types that don't have a name

abbrev pub others : List ℕ → ServiceType → Bool
others gone t = not (is_named gone t)

-- another type has this one as a supertype
abbrev pub lists_super : List ℕ → ServiceType → Bool
lists_super gone t = others gone t && is_among gone t.supers

abbrev pub IsNoSuper : List ℕ → List ServiceType → Type 0
IsNoSuper gone ts = list_any (lists_super gone) ts ≡ false

pub named-otherwise : (t : ServiceType) (gone name : List ℕ) → (name ≡ gone → ⊥) → is_named gone t ≡ true
    → is_named name t ≡ false
named-otherwise t gone name differs h =
    false_from_ne_true (is_named name t) (λ e. differs (sym (same-bytes t.name name e) ∙ same-bytes t.name gone h))

-- what is a supertype of another type isn't the one that is gone
differs_from : (t : ServiceType) (gone super : List ℕ) → lists_super gone t ≡ false → is_named gone t ≡ false
    → is_among super t.supers ≡ true → super ≡ gone → ⊥
differs_from t gone super h other among e =
    both_ways (lists_super gone t) h
    (and_from (others gone t) (is_among gone t.supers) (not_from_false (is_named gone t) other)
    (subst (λ (s : List ℕ). is_among s t.supers ≡ true) e among))

pub has-others : (gone name : List ℕ) (ts : List ServiceType) → (name ≡ gone → ⊥)
    → has_type (filter (others gone) ts) name ≡ has_type ts name
has-others gone name [] differs = refl
has-others gone name (t ∷ ts) differs =
    elim (cases_Bool (is_named gone t)) [
      | inl here ↦ rw (here, named-otherwise t gone name differs here) (has-others gone name ts differs)
      | inr other ↦ rw other (ap (λ (b : Bool). is_named name t || b) (has-others gone name ts differs))
    ]

pub named-others : (gone name : List ℕ) (ts : List ServiceType) → (name ≡ gone → ⊥)
    → type_named (filter (others gone) ts) name ≡ type_named ts name
named-others gone name [] differs = refl
named-others gone name (t ∷ ts) differs =
    elim (cases_Bool (is_named gone t)) [
      | inl here ↦ rw (here, named-otherwise t gone name differs here) (named-others gone name ts differs)
      | inr other ↦ rw other (ap (λ (o : Option ServiceType). cond (is_named name t) (Some t) o)
          (named-others gone name ts differs))
    ]

pub has-not_gone : (gone : List ℕ) (ts : List ServiceType) → has_type (filter (others gone) ts) gone ≡ false
has-not_gone gone [] = refl
has-not_gone gone (t ∷ ts) =
    elim (cases_Bool (is_named gone t)) [
      | inl here ↦ rw here (has-not_gone gone ts)
      | inr other ↦ rw other (or_from (is_named gone t) (has_type (filter (others gone) ts) gone) other
          (has-not_gone gone ts))
    ]

lacks-others : (gone name : List ℕ) (ts : List ServiceType) → has_type ts name ≡ false
    → has_type (filter (others gone) ts) name ≡ false
lacks-others gone name [] h = h
lacks-others gone name (t ∷ ts) h =
    let p = or_parts (is_named name t) (has_type ts name) h in
    elim (cases_Bool (is_named gone t)) [
      | inl here ↦ rw here (lacks-others gone name ts p.1)
      | inr other ↦ rw other (or_from (is_named name t) (has_type (filter (others gone) ts) name) p.0
          (lacks-others gone name ts p.1))
    ]

pub top-others : (gone : List ℕ) {ts : List ServiceType} → IsWellFounded ts → top (filter (others gone) ts) ≤ top ts
top-others gone IsWellFounded.none = omega arith
top-others gone (IsWellFounded.more t older fresh supers higher f) =
    let i = top-others gone f in
    elim (cases_Bool (is_named gone t)) [
      | inl here ↦ rw here (omega (arith, i, higher))
      | inr other ↦ rw other (omega arith)
    ]

pub founded-others : (gone : List ℕ) {ts : List ServiceType} → IsWellFounded ts → IsNoSuper gone ts
    → IsWellFounded (filter (others gone) ts)
founded-others gone IsWellFounded.none h = IsWellFounded.none
founded-others gone (IsWellFounded.more t older fresh supers higher f) h =
    let p = or_parts (lists_super gone t) (list_any (lists_super gone) older) h in
    let rest = founded-others gone f p.1 in
    elim (cases_Bool (is_named gone t)) [
      | inl here ↦ rw here rest
      | inr other ↦
          rw other (IsWellFounded.more t (filter (others gone) older) (lacks-others gone t.name older fresh)
          (λ k d b. has-others gone (get_or t.supers k d) older
          (differs_from t gone (get_or t.supers k d) p.0 other (among-at t.supers k d b))
          ∙ supers k d b)
          (let i = top-others gone f in omega (arith, i, higher)) rest)
    ]

-- ---- what a type has from its supertypes

-- two ways to go on that agree on these names
abbrev pub Agree : {X : Type 0} → List (List ℕ) → (List ℕ → List X) → (List ℕ → List X) → Type 0
Agree names f g = (name : List ℕ) → is_among name names ≡ true → f name ≡ g name

-- a function by recursion on the types, from the youngest on, that finds a type and goes on to its supertypes
pub record Descends {X : Type 0} (F : List ServiceType → List ℕ → List X)
    (step : ServiceType → (List ℕ → List X) → List X) : Type 0 where
  pub nothing : (name : List ℕ) → F [] name ≡ []
  pub finds : (t : ServiceType) (older : List ServiceType) (name : List ℕ)
      → F (t ∷ older) name ≡ cond (is_named name t) (step t (F older)) (F older name)
  pub agrees : (t : ServiceType) (f g : List ℕ → List X) → Agree t.supers f g → step t f ≡ step t g

flat_map-agree : {X : Type 0} (f g : List ℕ → List X) (names : List (List ℕ)) → Agree names f g
    → flat_map f names ≡ flat_map g names
flat_map-agree f g [] h = refl
flat_map-agree f g (name ∷ names) h =
    ap (λ xs. xs ++ flat_map f names)
    (h name (or_left (bytes_eq name name) (is_among name names) (bytes-same name name refl)))
    ∙ ap (λ xs. g name ++ xs) (flat_map-agree f g names (λ n a. h n (or_right (bytes_eq n name) (is_among n names) a)))

abbrev pub full-step : ServiceType → (List ℕ → List PropStruct) → List PropStruct
full-step t f = with_inherited t.props (flat_map f t.supers)

pub full-descends : Descends full full-step
full-descends = record {
  nothing = λ name. refl;
  finds = λ t older name. refl;
  agrees = λ t f g h. ap (with_inherited t.props) (flat_map-agree f g t.supers h);
}

abbrev pub walk-step : ServiceType → (List ℕ → List (List ℕ)) → List (List ℕ)
walk-step t f = flat_map (λ s. s ∷ f s) t.supers

pub walk-descends : Descends walk walk-step
walk-descends = record {
  nothing = λ name. refl;
  finds = λ t older name. refl;
  agrees = λ t f g h. flat_map-agree (λ s. s ∷ f s) (λ s. s ∷ g s) t.supers (λ name a. ap (λ xs. name ∷ xs) (h name a));
}

cond-both : {X : Type 0} (b : Bool) (x y z w : X) → x ≡ z → y ≡ w → cond b x y ≡ cond b z w
cond-both b x y z w e f = rw (e, f) refl

-- no other type sees that this one is gone
pub descends-others : {X : Type 0} (F : List ServiceType → List ℕ → List X)
    (step : ServiceType → (List ℕ → List X) → List X)
    → Descends F step → (gone : List ℕ) (ts : List ServiceType) → IsNoSuper gone ts → (name : List ℕ)
    → (name ≡ gone → ⊥) → F (filter (others gone) ts) name ≡ F ts name
descends-others F step d gone [] h name differs = refl
descends-others F step d gone (t ∷ older) h name differs =
    let p = or_parts (lists_super gone t) (list_any (lists_super gone) older) h in
    let rest = descends-others F step d gone older p.1 in
    elim (cases_Bool (is_named gone t)) [
      | inl here ↦ rw here (rest name differs
          ∙ sym (d.finds t older name ∙ rw (named-otherwise t gone name differs here) refl))
      | inr other ↦
          rw other (d.finds t (filter (others gone) older) name
          ∙ cond-both (is_named name t) (step t (F (filter (others gone) older))) (F (filter (others gone) older) name)
          (step t (F older)) (F older name)
          (d.agrees t (F (filter (others gone) older)) (F older) (λ s a. rest s (differs_from t gone s p.0 other a)))
          (rest name differs)
          ∙ sym (d.finds t older name))
    ]
