-- Entries under their names, as the map keeps them.
use Rattle.std.proofs.Common.{◌≡◌, ℕ, Bool, true, false, cond, inl, inr, List, [], ◌∷◌, ◌++◌, map, refl, sym, ap}
use Rattle.std.proofs.Common.{◌∙◌, Option, None, Some, Vec, Global}
use Rattle.std.specs.List.{AllByRecursion, IsDistinct}
use Rattle.std.specs.Map.{keys_of, values_of, lookup, set_value, remove_entry}
use Rattle.std.specs.Option.{is_some}
use Rattle.std.specs.Str.{bytes_eq}
use Rattle.std.proofs.lemmas.Bool.{cases_Bool}
use Rattle.std.proofs.lemmas.List.{map-append}
use Rattle.std.proofs.lemmas.Map.Keys.{IsDistinct-head, IsDistinct-tail}
use Rattle.td_types.specs.declared.entry.TypeEntry.{TypeEntry}
use Rattle.td_types.specs.Kept.{entry_type}
use Rattle.td_types.specs.NamedEntries.{same_key}
use Rattle.td_types.specs.Removing.{without_entry, with_mask}
use Rattle.td_types.specs.Repository.{has_type, is_named}
use Rattle.td_types.specs.Sought.{entry_named}
use Rattle.td_types.proofs.Equal.{bytes_same, bytes_eq-sym}
use Rattle.td_types.proofs.Named.{is_found}

abbrev pub Pairs : Type 0
Pairs = List (Vec ℕ Global × TypeEntry)

-- a key that is this name
abbrev pub is_key : List ℕ → Vec ℕ Global → Bool
is_key name key = bytes_eq name key.items

abbrev pub HaveNames : Pairs → Type 0
HaveNames pairs = AllByRecursion (λ p. p.0.items ≡ p.1.service_type.name) pairs

key_is : (name : List ℕ) (key : Vec ℕ Global) (e : TypeEntry) → key.items ≡ e.service_type.name
    → is_key name key ≡ is_named name (entry_type e)
key_is name key e h = ap (bytes_eq name) h ∙ bytes_eq-sym name e.service_type.name

chosen : {X : Type 0} (a b : Bool) (x y z : X) → a ≡ b → y ≡ z → cond a x y ≡ cond b x z
chosen a b x y z p q = rw (p, q) refl

-- ---- looking up

pub found : (pairs : Pairs) (name : List ℕ) → HaveNames pairs
    → lookup (is_key name) pairs ≡ entry_named (values_of pairs) name
found [] name h = refl
found (p ∷ pairs) name h =
    chosen (is_key name p.0) (is_named name (entry_type p.1)) (Some p.1) (lookup (is_key name) pairs)
    (entry_named (values_of pairs) name)
    (key_is name p.0 p.1 h.0) (found pairs name h.1)

-- ---- adding

none_from : {X : Type 0} (o : Option X) → is_some o ≡ false → o ≡ None
none_from None h = refl
none_from (Some x) h = absurd (let bad : ⊥ = cc in bad)

pub not_found : (pairs : Pairs) (name : List ℕ) → HaveNames pairs → has_type (map entry_type (values_of pairs)) name ≡ false
    → lookup (is_key name) pairs ≡ None
not_found pairs name h fresh =
    found pairs name h ∙ none_from (entry_named (values_of pairs) name) (sym (is_found (values_of pairs) name) ∙ fresh)

pub is_new : (pairs : Pairs) (name : List ℕ) (key : Vec ℕ Global) → HaveNames pairs → key.items ≡ name
    → has_type (map entry_type (values_of pairs)) name ≡ false
    → lookup (λ k. bytes_eq key.items k.items) pairs ≡ None
is_new pairs name key h same fresh =
    ap (λ (n : List ℕ). lookup (is_key n) pairs) same ∙ not_found pairs name h fresh

pub names_push : (pairs : Pairs) (key : Vec ℕ Global) (e : TypeEntry) → HaveNames pairs → key.items ≡ e.service_type.name
    → HaveNames (pairs ++ (key, e) ∷ [])
names_push [] key e h k = (k, tt)
names_push (p ∷ pairs) key e h k = (h.0, names_push pairs key e h.1 k)

pub values_push : (pairs : Pairs) (key : Vec ℕ Global) (e : TypeEntry)
    → values_of (pairs ++ (key, e) ∷ []) ≡ values_of pairs ++ e ∷ []
values_push pairs key e = map-append (λ (p : Vec ℕ Global × TypeEntry). p.1) pairs ((key, e) ∷ [])

-- ---- removing

-- no key after an equal one is this name
apart : (name : List ℕ) (key : Vec ℕ Global) (pairs : Pairs) → HaveNames pairs
    → AllByRecursion (λ k. same_key key k ≡ false) (keys_of pairs) → name ≡ key.items
    → without_entry (values_of pairs) name ≡ values_of pairs
apart name key [] h d same = refl
apart name key (p ∷ pairs) h d same =
    let other : is_named name (entry_type p.1) ≡ false =
    sym (key_is name p.0 p.1 h.0) ∙ (ap (λ (n : List ℕ). bytes_eq n p.0.items) same ∙ d.0) in
    rw other (ap (λ (es : List TypeEntry). p.1 ∷ es) (apart name key pairs h.1 d.1 same))

pub removed : (pairs : Pairs) (name : List ℕ) → HaveNames pairs → IsDistinct same_key (keys_of pairs)
    → values_of (remove_entry (is_key name) pairs) ≡ without_entry (values_of pairs) name
removed [] name h d = refl
removed (p ∷ pairs) name h d =
    let k = key_is name p.0 p.1 h.0 in
    elim (cases_Bool (is_key name p.0)) [
      | inl here ↦
          let named : is_named name (entry_type p.1) ≡ true = sym k ∙ here in
          rw (here, named) (sym (apart name p.0 pairs h.1 (IsDistinct-head same_key p.0 (keys_of pairs) d)
          (bytes_same name p.0.items here)))
      | inr other ↦
          let unnamed : is_named name (entry_type p.1) ≡ false = sym k ∙ other in
          rw (other, unnamed) (ap (λ (es : List TypeEntry). p.1 ∷ es)
          (removed pairs name h.1 (IsDistinct-tail same_key p.0 (keys_of pairs) d)))
    ]

pub names_removed : (pairs : Pairs) (name : List ℕ) → HaveNames pairs → HaveNames (remove_entry (is_key name) pairs)
names_removed [] name h = tt
names_removed (p ∷ pairs) name h =
    elim (cases_Bool (is_key name p.0)) [
      | inl here ↦ rw here h.1
      | inr other ↦ rw other (h.0, names_removed pairs name h.1)
    ]

-- ---- masking

abbrev pub set_so : Bool → TypeEntry → TypeEntry
set_so masked e = record e { service_type = record e.service_type { masked = masked } }

unmasked-apart : (name : List ℕ) (masked : Bool) (key : Vec ℕ Global) (pairs : Pairs) → HaveNames pairs
    → AllByRecursion (λ k. same_key key k ≡ false) (keys_of pairs) → name ≡ key.items
    → with_mask (values_of pairs) name masked ≡ values_of pairs
unmasked-apart name masked key [] h d same = refl
unmasked-apart name masked key (p ∷ pairs) h d same =
    let other : is_named name (entry_type p.1) ≡ false =
    sym (key_is name p.0 p.1 h.0) ∙ (ap (λ (n : List ℕ). bytes_eq n p.0.items) same ∙ d.0) in
    rw other (ap (λ (es : List TypeEntry). p.1 ∷ es) (unmasked-apart name masked key pairs h.1 d.1 same))

some_same : {X : Type 0} (x y : X) → ◌≡◌ {A = Option X} (Some x) (Some y) → x ≡ y
some_same x y h = cc

pub masked : (pairs : Pairs) (name : List ℕ) (b : Bool) (e : TypeEntry) → HaveNames pairs
    → IsDistinct same_key (keys_of pairs) → lookup (is_key name) pairs ≡ Some e
    → values_of (set_value (is_key name) pairs (set_so b e)) ≡ with_mask (values_of pairs) name b
masked [] name b e h d f = refl
masked (p ∷ pairs) name b e h d f =
    let k = key_is name p.0 p.1 h.0 in
    elim (cases_Bool (is_key name p.0)) [
      | inl here ↦
          let named : is_named name (entry_type p.1) ≡ true = sym k ∙ here in
          let same : p.1 ≡ e = some_same p.1 e (rw here at f) in
          rw (here, named, same)
          (ap (λ (es : List TypeEntry). set_so b e ∷ es)
          (sym (unmasked-apart name b p.0 pairs h.1 (IsDistinct-head same_key p.0 (keys_of pairs) d)
          (bytes_same name p.0.items here))))
      | inr other ↦
          let unnamed : is_named name (entry_type p.1) ≡ false = sym k ∙ other in
          rw (other, unnamed) (ap (λ (es : List TypeEntry). p.1 ∷ es)
          (masked pairs name b e h.1 (IsDistinct-tail same_key p.0 (keys_of pairs) d) (rw other at f)))
    ]

pub nothing_masked : (pairs : Pairs) (name : List ℕ) (b : Bool) → HaveNames pairs → lookup (is_key name) pairs ≡ None
    → with_mask (values_of pairs) name b ≡ values_of pairs
nothing_masked [] name b h f = refl
nothing_masked (p ∷ pairs) name b h f =
    let k = key_is name p.0 p.1 h.0 in
    elim (cases_Bool (is_key name p.0)) [
      | inl here ↦ let bad : Some p.1 ≡ None = (rw here at f) in absurd (let no_way : ⊥ = cc in no_way)
      | inr other ↦
          let unnamed : is_named name (entry_type p.1) ≡ false = sym k ∙ other in
          rw unnamed (ap (λ (es : List TypeEntry). p.1 ∷ es) (nothing_masked pairs name b h.1 (rw other at f)))
    ]

pub names_masked : (pairs : Pairs) (name : List ℕ) (b : Bool) (e : TypeEntry) → HaveNames pairs
    → lookup (is_key name) pairs ≡ Some e → HaveNames (set_value (is_key name) pairs (set_so b e))
names_masked [] name b e h f = tt
names_masked (p ∷ pairs) name b e h f =
    elim (cases_Bool (is_key name p.0)) [
      | inl here ↦
          let same : p.1 ≡ e = some_same p.1 e (rw here at f) in
          rw here (h.0 ∙ ap (λ (x : TypeEntry). x.service_type.name) same, h.1)
      | inr other ↦ rw other (h.0, names_masked pairs name b e h.1 (rw other at f))
    ]
