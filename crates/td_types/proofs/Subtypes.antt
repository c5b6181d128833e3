-- Whether another type conforms to a type: by the ancestors that are kept, and what it means that none does.
use Rattle.std.proofs.Common.{◌≡◌, ℕ, Bool, true, false, ◌&&◌, ◌||◌, not, cond, inl, inr, List, [], ◌∷◌, ◌++◌, reverse}
use Rattle.std.proofs.Common.{map, refl, sym, ap, ◌∙◌, Option, None, Some}
use Rattle.std.specs.List.{list_any, find, flat_map, AllByRecursion}
use Rattle.std.specs.Option.{option_map}
use Rattle.std.specs.Str.{bytes_eq}
use Rattle.std.proofs.lemmas.Bool.{false≢true, both_ways, cases_Bool, or_cases, or_parts, or_left, or_right, and_parts}
use Rattle.std.proofs.lemmas.Bool.{and_from, false_from_ne_true}
use Rattle.std.proofs.lemmas.List.Folds.{list_any-append}
use Rattle.td_types.specs.declared.entry.TypeEntry.{TypeEntry}
use Rattle.td_types.specs.Calls.{sub_type}
use Rattle.td_types.specs.Conforming.{add_once, once, walk, ancestors, conforms}
use Rattle.td_types.specs.Kept.{entry_type, repository, IsValidEntry}
use Rattle.td_types.specs.Removing.{sub_entry}
use Rattle.td_types.specs.Repository.{ServiceType, InterfaceBases, is_named, has_type, is_among, IsWellFounded}
use Rattle.td_types.proofs.Chains.{same-bytes, bytes-same}
use Rattle.td_types.proofs.Others.{any-agree, any-reverse, none-found, others, lists_super, IsNoSuper}

-- ---- names that are met once

or_none : (b : Bool) → b ≡ (b || false)
or_none true = refl
or_none false = refl

or_none' : (b : Bool) → (b || false) ≡ b
or_none' true = refl
or_none' false = refl

added : (x name : List ℕ) (met : List (List ℕ)) (b : Bool) → is_among name met ≡ b
    → is_among x (cond b met (met ++ name ∷ [])) ≡ (is_among x met || bytes_eq x name)
added x name met true h =
    elim (cases_Bool (bytes_eq x name)) [
      | inl same ↦ rw (same-bytes x name same) (h ∙ sym (or_left (is_among name met) (bytes_eq name name) h))
      | inr other ↦ rw other (or_none (is_among x met))
    ]
added x name met false h =
    list_any-append (bytes_eq x) met (name ∷ []) ∙ ap (λ (b : Bool). is_among x met || b) (or_none' (bytes_eq x name))

add_once-among : (x name : List ℕ) (met : List (List ℕ))
    → is_among x (add_once met name) ≡ (is_among x met || bytes_eq x name)
add_once-among x name met = added x name met (is_among name met) refl

or_assoc : (a b c : Bool) → ((a || b) || c) ≡ (a || (b || c))
or_assoc true b c = refl
or_assoc false b c = refl

pub once-among : (x : List ℕ) (names met : List (List ℕ))
    → is_among x (once met names) ≡ (is_among x met || is_among x names)
once-among x [] met = or_none (is_among x met)
once-among x (name ∷ names) met =
    once-among x names (add_once met name) ∙ ap (λ (b : Bool). b || is_among x names) (add_once-among x name met)
    ∙ or_assoc (is_among x met) (bytes_eq x name) (is_among x names)

pub ancestor-walked : (types : List ServiceType) (a b : List ℕ)
    → is_among b (ancestors types a) ≡ is_among b (walk (reverse types) a)
unfolding ancestors
ancestor-walked types a b = once-among b (walk (reverse types) a) []

-- ---- a type that lists a supertype conforms to it

among-walked : (gone : List ℕ) (f : List ℕ → List (List ℕ)) (supers : List (List ℕ)) → is_among gone supers ≡ true
    → is_among gone (flat_map (λ s. s ∷ f s) supers) ≡ true
among-walked gone f [] h = h
among-walked gone f (s ∷ supers) h =
    list_any-append (bytes_eq gone) (s ∷ f s) (flat_map (λ s. s ∷ f s) supers)
    ∙ elim (or_cases (bytes_eq gone s) (is_among gone supers) h) [
      | inl here ↦ or_left (bytes_eq gone s || is_among gone (f s)) (is_among gone (flat_map (λ s. s ∷ f s) supers))
          (or_left (bytes_eq gone s) (is_among gone (f s)) here)
      | inr there ↦ or_right (bytes_eq gone s || is_among gone (f s)) (is_among gone (flat_map (λ s. s ∷ f s) supers))
          (among-walked gone f supers there)
    ]

-- a type that walks to a name
abbrev pub walks_to : List ℕ → List ServiceType → ServiceType → Bool
walks_to gone ts t = others gone t && is_among gone (walk ts t.name)

-- what older types walk to isn't changed by a type of a new name
older-walks : (gone : List ℕ) (t : ServiceType) (older ts : List ServiceType) → has_type ts t.name ≡ false
    → AllByRecursion (λ x. walks_to gone older x ≡ walks_to gone (t ∷ older) x) ts
older-walks gone t older [] h = tt
older-walks gone t older (x ∷ ts) h =
    let p = or_parts (is_named t.name x) (has_type ts t.name) h in
    let other : is_named x.name t ≡ false =
    false_from_ne_true (is_named x.name t)
    (λ e. both_ways (is_named t.name x) p.0 (bytes-same x.name t.name (sym (same-bytes t.name x.name e)))) in
    (rw other refl, older-walks gone t older ts p.1)

pub supers-walk : (gone : List ℕ) {ts : List ServiceType} → IsWellFounded ts → list_any (lists_super gone) ts ≡ true
    → list_any (walks_to gone ts) ts ≡ true
supers-walk gone IsWellFounded.none h = h
supers-walk gone (IsWellFounded.more t older fresh supers higher f) h =
    elim (or_cases (lists_super gone t) (list_any (lists_super gone) older) h) [
      | inl here ↦
          let p = and_parts (others gone t) (is_among gone t.supers) here in
          let w : is_among gone (walk (t ∷ older) t.name) ≡ true =
          rw (bytes-same t.name t.name refl) (among-walked gone (walk older) t.supers p.1) in
          or_left (walks_to gone (t ∷ older) t) (list_any (walks_to gone (t ∷ older)) older)
          (and_from (others gone t) (is_among gone (walk (t ∷ older) t.name)) p.0 w)
      | inr there ↦
          or_right (walks_to gone (t ∷ older) t) (list_any (walks_to gone (t ∷ older)) older)
          (sym (any-agree (walks_to gone older) (walks_to gone (t ∷ older)) older
          (older-walks gone t older older fresh))
          ∙ supers-walk gone f there)
    ]

-- ---- each type is there under its name

has-member : (ts more : List ServiceType) → ((name : List ℕ) → has_type ts name ≡ true → has_type more name ≡ true)
    → AllByRecursion (λ t. has_type more t.name ≡ true) ts
has-member [] more h = tt
has-member (t ∷ ts) more h = (
  h t.name (or_left (is_named t.name t) (has_type ts t.name) (bytes-same t.name t.name refl)),
  has-member ts more (λ name e. h name (or_right (is_named name t) (has_type ts name) e)),
)

pub has-each : (ts : List ServiceType) → AllByRecursion (λ t. has_type ts t.name ≡ true) ts
has-each ts = has-member ts ts (λ name e. e)

-- ---- what is searched for

-- another type that conforms, by its ancestors
abbrev pub is_sub : List ServiceType → List ℕ → ServiceType → Bool
is_sub types gone t = others gone t && conforms types t.name gone

sub-test : (h n a : Bool) → h ≡ true → (not n && (h && (n || a))) ≡ (not n && a)
sub-test true true a e = refl
sub-test true false a e = refl
sub-test false n a e = absurd (false≢true e)

subs-agree : (types : List ServiceType) (gone : List ℕ) (ts : List ServiceType)
    → AllByRecursion (λ t. has_type types t.name ≡ true) ts
    → AllByRecursion (λ t. is_sub types gone t ≡ walks_to gone (reverse types) t) ts
subs-agree types gone [] h = tt
subs-agree types gone (t ∷ ts) h = (
  sub-test (has_type types t.name) (is_named gone t) (is_among gone (ancestors types t.name)) h.0
      ∙ ap (λ (b : Bool). others gone t && b) (ancestor-walked types t.name gone),
  subs-agree types gone ts h.1,
)

-- where no other type conforms to it, no other type has it as a supertype
pub no-subtypes : (types : List ServiceType) (gone : List ℕ) → IsWellFounded (reverse types)
    → find (is_sub types gone) types ≡ None → IsNoSuper gone (reverse types)
no-subtypes types gone f h =
    false_from_ne_true (list_any (lists_super gone) (reverse types)) (λ e.
    both_ways (list_any (is_sub types gone) types) (none-found (is_sub types gone) types h)
    (any-agree (is_sub types gone) (walks_to gone (reverse types)) types (subs-agree types gone types (has-each types))
    ∙ (sym (any-reverse (walks_to gone (reverse types)) types) ∙ supers-walk gone f e)))

-- ---- the first one, by the entries

first_sub : (e : TypeEntry) (b c : Bool) (type : Option ServiceType) (entry : Option TypeEntry) → b ≡ c
    → type ≡ option_map entry_type entry → cond b (Some (entry_type e)) type ≡ option_map entry_type (cond c (Some e) entry)
first_sub e true true type entry same h = refl
first_sub e true false type entry same h = absurd (false≢true (sym same))
first_sub e false true type entry same h = absurd (false≢true same)
first_sub e false false type entry same h = h

sub-of_entries : (types : List ServiceType) (gone : List ℕ) (es : List TypeEntry)
    → AllByRecursion (λ t. has_type types t.name ≡ true) (map entry_type es) → AllByRecursion (IsValidEntry types) es
    → find (is_sub types gone) (map entry_type es) ≡ option_map entry_type (sub_entry es gone)
sub-of_entries types gone [] h k = refl
sub-of_entries types gone (e ∷ es) h k =
    first_sub e (is_sub types gone (entry_type e)) (not (bytes_eq e.service_type.name gone) && is_among gone e.ancestors)
    (find (is_sub types gone) (map entry_type es)) (sub_entry es gone)
    (sub-test (has_type types e.service_type.name) (bytes_eq e.service_type.name gone)
    (is_among gone (ancestors types e.service_type.name)) h.0
    ∙ ap (λ (names : List (List ℕ)). not (bytes_eq e.service_type.name gone) && is_among gone names)
    (sym k.0.ancestors))
    (sub-of_entries types gone es h.1 k.1)

pub sub_type-kept : (es : List TypeEntry) (interfaces : InterfaceBases) (last : ℕ) (gone : List ℕ)
    → AllByRecursion (IsValidEntry (map entry_type es)) es
    → sub_type (repository es interfaces last) gone ≡ option_map entry_type (sub_entry es gone)
sub_type-kept es interfaces last gone k = sub-of_entries (map entry_type es) gone es (has-each (map entry_type es)) k
