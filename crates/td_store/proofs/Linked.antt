-- Links under their names, as the map keeps them.
use Rattle.std.proofs.Common.{◌≡◌, ℕ, Bool, true, false, cond, inl, inr, List, [], ◌∷◌, ◌++◌, map, refl, sym, ap}
use Rattle.std.proofs.Common.{◌∙◌, Option, None, Some, Vec, Global}
use Rattle.std.specs.List.{AllByRecursion, IsDistinct}
use Rattle.std.specs.Map.{keys_of, values_of, lookup, set_value, remove_entry}
use Rattle.std.specs.Str.{bytes_eq}
use Rattle.std.proofs.lemmas.Bool.{cases_Bool}
use Rattle.std.proofs.lemmas.List.{map-append}
use Rattle.std.proofs.lemmas.Map.Keys.{IsDistinct-head, IsDistinct-tail}
use Rattle.td_value.specs.declared.enumerations.FollowOption.{FollowOption}
use Rattle.td_store.specs.declared.record.LinkRecord.{LinkRecord}
use Rattle.td_store.specs.LinkNames.{same_key}
use Rattle.td_store.specs.LinkLists.{is_linked, link_of, without_link, with_follow_rules}
use Rattle.td_types.proofs.Equal.{bytes_same, bytes_eq-sym}

abbrev pub Pairs : Type 0
Pairs = List (Vec ℕ Global × LinkRecord)

-- a key that is this name
abbrev pub is_key : List ℕ → Vec ℕ Global → Bool
is_key name key = bytes_eq name key.items

abbrev pub HaveNames : Pairs → Type 0
HaveNames pairs = AllByRecursion (λ p. p.0.items ≡ p.1.name) pairs

key_is : (name : List ℕ) (key : Vec ℕ Global) (e : LinkRecord) → key.items ≡ e.name → is_key name key ≡ is_linked name e
key_is name key e h = ap (bytes_eq name) h ∙ bytes_eq-sym name e.name

chosen : {X : Type 0} (a b : Bool) (x y z : X) → a ≡ b → y ≡ z → cond a x y ≡ cond b x z
chosen a b x y z p q = rw (p, q) refl

-- ---- looking up

pub found : (pairs : Pairs) (name : List ℕ) → HaveNames pairs
    → lookup (is_key name) pairs ≡ link_of (values_of pairs) name
found [] name h = refl
found (p ∷ pairs) name h =
    chosen (is_key name p.0) (is_linked name p.1) (Some p.1) (lookup (is_key name) pairs)
    (link_of (values_of pairs) name)
    (key_is name p.0 p.1 h.0) (found pairs name h.1)

-- ---- adding

pub is_new : (pairs : Pairs) (name : List ℕ) (key : Vec ℕ Global) → HaveNames pairs → key.items ≡ name
    → link_of (values_of pairs) name ≡ None → lookup (λ k. bytes_eq key.items k.items) pairs ≡ None
is_new pairs name key h same fresh =
    ap (λ (n : List ℕ). lookup (is_key n) pairs) same ∙ (found pairs name h ∙ fresh)

pub names_push : (pairs : Pairs) (key : Vec ℕ Global) (e : LinkRecord) → HaveNames pairs → key.items ≡ e.name
    → HaveNames (pairs ++ (key, e) ∷ [])
names_push [] key e h k = (k, tt)
names_push (p ∷ pairs) key e h k = (h.0, names_push pairs key e h.1 k)

pub values_push : (pairs : Pairs) (key : Vec ℕ Global) (e : LinkRecord)
    → values_of (pairs ++ (key, e) ∷ []) ≡ values_of pairs ++ e ∷ []
values_push pairs key e = map-append (λ (p : Vec ℕ Global × LinkRecord). p.1) pairs ((key, e) ∷ [])

-- ---- removing

-- no key after an equal one is this name
apart : (name : List ℕ) (key : Vec ℕ Global) (pairs : Pairs) → HaveNames pairs
    → AllByRecursion (λ k. same_key key k ≡ false) (keys_of pairs) → name ≡ key.items
    → without_link name (values_of pairs) ≡ values_of pairs
apart name key [] h d same = refl
apart name key (p ∷ pairs) h d same =
    let other : is_linked name p.1 ≡ false =
    sym (key_is name p.0 p.1 h.0) ∙ (ap (λ (n : List ℕ). bytes_eq n p.0.items) same ∙ d.0) in
    rw other (ap (λ (es : List LinkRecord). p.1 ∷ es) (apart name key pairs h.1 d.1 same))

pub removed : (pairs : Pairs) (name : List ℕ) → HaveNames pairs → IsDistinct same_key (keys_of pairs)
    → values_of (remove_entry (is_key name) pairs) ≡ without_link name (values_of pairs)
removed [] name h d = refl
removed (p ∷ pairs) name h d =
    let k = key_is name p.0 p.1 h.0 in
    elim (cases_Bool (is_key name p.0)) [
      | inl here ↦
          let named : is_linked name p.1 ≡ true = sym k ∙ here in
          rw (here, named) (sym (apart name p.0 pairs h.1 (IsDistinct-head same_key p.0 (keys_of pairs) d)
          (bytes_same name p.0.items here)))
      | inr other ↦
          let unnamed : is_linked name p.1 ≡ false = sym k ∙ other in
          rw (other, unnamed) (ap (λ (es : List LinkRecord). p.1 ∷ es)
          (removed pairs name h.1 (IsDistinct-tail same_key p.0 (keys_of pairs) d)))
    ]

pub names_removed : (pairs : Pairs) (name : List ℕ) → HaveNames pairs → HaveNames (remove_entry (is_key name) pairs)
names_removed [] name h = tt
names_removed (p ∷ pairs) name h =
    elim (cases_Bool (is_key name p.0)) [
      | inl here ↦ rw here h.1
      | inr other ↦ rw other (h.0, names_removed pairs name h.1)
    ]

-- ---- other rules

abbrev pub rule_so : (def_pass_on limiting : FollowOption) → LinkRecord → LinkRecord
rule_so d m l = record l { def_pass_on = d; limiting = m }

some_same : {X : Type 0} (x y : X) → ◌≡◌ {A = Option X} (Some x) (Some y) → x ≡ y
some_same x y h = cc

module _ (name : List ℕ) (d m : FollowOption) where
  unruled_apart : (key : Vec ℕ Global) (pairs : Pairs) → HaveNames pairs
      → AllByRecursion (λ k. same_key key k ≡ false) (keys_of pairs) → name ≡ key.items
      → map (with_follow_rules name d m) (values_of pairs) ≡ values_of pairs
  unruled_apart key [] h a same = refl
  unruled_apart key (p ∷ pairs) h a same =
      let other : is_linked name p.1 ≡ false =
      sym (key_is name p.0 p.1 h.0) ∙ (ap (λ (n : List ℕ). bytes_eq n p.0.items) same ∙ a.0) in
      rw other (ap (λ (es : List LinkRecord). p.1 ∷ es) (unruled_apart key pairs h.1 a.1 same))

  pub rules_set : (pairs : Pairs) (e : LinkRecord) → HaveNames pairs → IsDistinct same_key (keys_of pairs)
      → lookup (is_key name) pairs ≡ Some e
      → values_of (set_value (is_key name) pairs (rule_so d m e)) ≡ map (with_follow_rules name d m) (values_of pairs)
  rules_set [] e h a f = refl
  rules_set (p ∷ pairs) e h a f =
      let k = key_is name p.0 p.1 h.0 in
      elim (cases_Bool (is_key name p.0)) [
        | inl here ↦
            let named : is_linked name p.1 ≡ true = sym k ∙ here in
            let same : p.1 ≡ e = some_same p.1 e (rw here at f) in
            rw (here, named, same)
            (ap (λ (es : List LinkRecord). rule_so d m e ∷ es)
            (sym (unruled_apart p.0 pairs h.1 (IsDistinct-head same_key p.0 (keys_of pairs) a)
            (bytes_same name p.0.items here))))
        | inr other ↦
            let unnamed : is_linked name p.1 ≡ false = sym k ∙ other in
            rw (other, unnamed) (ap (λ (es : List LinkRecord). p.1 ∷ es)
            (rules_set pairs e h.1 (IsDistinct-tail same_key p.0 (keys_of pairs) a) (rw other at f)))
      ]

  pub nothing_ruled : (pairs : Pairs) → HaveNames pairs → lookup (is_key name) pairs ≡ None
      → map (with_follow_rules name d m) (values_of pairs) ≡ values_of pairs
  nothing_ruled [] h f = refl
  nothing_ruled (p ∷ pairs) h f =
      let k = key_is name p.0 p.1 h.0 in
      elim (cases_Bool (is_key name p.0)) [
        | inl here ↦ let bad : Some p.1 ≡ None = (rw here at f) in absurd (let no_way : ⊥ = cc in no_way)
        | inr other ↦
            let unnamed : is_linked name p.1 ≡ false = sym k ∙ other in
            rw unnamed (ap (λ (es : List LinkRecord). p.1 ∷ es) (nothing_ruled pairs h.1 (rw other at f)))
      ]

  pub names_ruled : (pairs : Pairs) (e : LinkRecord) → HaveNames pairs → lookup (is_key name) pairs ≡ Some e
      → HaveNames (set_value (is_key name) pairs (rule_so d m e))
  names_ruled [] e h f = tt
  names_ruled (p ∷ pairs) e h f =
      elim (cases_Bool (is_key name p.0)) [
        | inl here ↦
            let same : p.1 ≡ e = some_same p.1 e (rw here at f) in
            rw here (h.0 ∙ ap (λ (x : LinkRecord). x.name) same, h.1)
        | inr other ↦ rw other (h.0, names_ruled pairs e h.1 (rw other at f))
      ]
