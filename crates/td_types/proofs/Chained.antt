-- Conforming as it is computed, and the chain of declared supertypes.
use Rattle.std.proofs.Common.{◌≡◌, ℕ, Bool, true, false, ◌||◌, cond, inl, inr, List, [], ◌∷◌, map, flat_map, reverse}
use Rattle.std.proofs.Common.{refl, sym, ap, ◌∙◌, Option, None, Some, subst}
use Rattle.std.proofs.lemmas.Bool.{false≢true, both_ways, cases_Bool, or_cases, or_left, or_right, and_parts, and_from}
use Rattle.std.proofs.lemmas.Bool.{false_from_ne_true}
use Rattle.std.proofs.lemmas.List.{reverse-append, reverse-reverse}
use Rattle.std.proofs.lemmas.List.Folds.{find-append}
use Rattle.std.specs.Option.{is_some, option_or}
use Rattle.std.specs.Str.{bytes_eq}
use Rattle.td_types.proofs.Adds.{kept_found, name_of_found}
use Rattle.td_types.proofs.Equal.{bytes_same, bytes_refl}
use Rattle.td_types.proofs.Named.{is_found}
use Rattle.td_types.proofs.Outcomes.{walks-when, met, met-from, has-super, conforms-itself, conforms-on}
use Rattle.td_types.proofs.Others.{any-reverse}
use Rattle.td_types.proofs.Subtypes.{ancestor-walked}
use Rattle.td_types.specs.Conforming.{IsSuper, IsSuperPath, Conforms, walk, ancestors, conforms}
use Rattle.td_types.specs.Judged.{AreKept}
use Rattle.td_types.specs.Kept.{entry_type, IsValidEntry, is_below}
use Rattle.td_types.specs.Repository.{ServiceType, IsWellFounded, has_type, is_named, type_named, is_among}
use Rattle.td_types.specs.Sought.{entry_named}
use Rattle.td_types.specs.declared.entry.TypeEntry.{TypeEntry}

-- ---- the types of names

there_when : (b any : Bool) (x t : ServiceType) (later : Option ServiceType) → (later ≡ Some t → any ≡ true)
    → cond b (Some x) later ≡ Some t → (b || any) ≡ true
there_when true any x t later h k = refl
there_when false any x t later h k = h k

named_has : (types : List ServiceType) (a : List ℕ) (t : ServiceType) → type_named types a ≡ Some t
    → has_type types a ≡ true
named_has [] a t h = absurd (let bad : ⊥ = cc in bad)
named_has (x ∷ types) a t h =
    there_when (is_named a x) (has_type types a) x t (type_named types a) (named_has types a t) h

none_when : (b any : Bool) (x : ServiceType) (later : Option ServiceType) → (any ≡ false → later ≡ None)
    → (b || any) ≡ false → cond b (Some x) later ≡ None
none_when true any x later h k = absurd (let bad : ⊥ = cc in bad)
none_when false any x later h k = h k

not_there : (types : List ServiceType) (a : List ℕ) → has_type types a ≡ false → type_named types a ≡ None
not_there [] a h = refl
not_there (x ∷ types) a h = none_when (is_named a x) (has_type types a) x (type_named types a) (not_there types a) h

-- a name that is there isn't that of a type that is new
not_new : (t : ServiceType) (older : List ServiceType) (a : List ℕ) → has_type older t.name ≡ false
    → has_type older a ≡ true → is_named a t ≡ false
not_new t older a fresh there =
    false_from_ne_true (is_named a t)
    (λ e. both_ways (has_type older t.name) fresh
    (subst (λ (n : List ℕ). has_type older n ≡ true) (sym (bytes_same t.name a e)) there))

joined_when : (b : Bool) (t : ServiceType) (older : Option ServiceType) → (b ≡ true → older ≡ None)
    → option_or older (cond b (Some t) None) ≡ cond b (Some t) older
joined_when true t older h = rw (h refl) refl
joined_when false t None h = refl
joined_when false t (Some x) h = refl

-- the order in which the types are listed plays no part
find_turned : {ts : List ServiceType} → IsWellFounded ts → (a : List ℕ) → type_named (reverse ts) a ≡ type_named ts a
find_turned IsWellFounded.none a = refl
find_turned (IsWellFounded.more t older fresh supers higher f) a =
    let turned : type_named (reverse (t ∷ older)) a
    ≡ option_or (type_named (reverse older) a) (cond (is_named a t) (Some t) None) =
    ap (λ (types : List ServiceType). type_named types a) (reverse-append (t ∷ []) older)
    ∙ find-append (is_named a) (reverse older) (t ∷ []) in
    turned ∙ (rw (find_turned f a)
    (joined_when (is_named a t) t (type_named older a)
    (λ e. not_there older a (subst (λ (n : List ℕ). has_type older n ≡ false) (bytes_same t.name a e) fresh))))

-- ---- from a walk to a chain

super_older : (t : ServiceType) (older : List ServiceType) (a b : List ℕ) → has_type older t.name ≡ false
    → IsSuper older a b → IsSuper (t ∷ older) a b
super_older t older a b fresh s =
    let other : is_named a t ≡ false = not_new t older a fresh (named_has older a s.type s.found) in
    record { type = s.type; found = rw other s.found; declared = s.declared }

leads_older : (t : ServiceType) (older : List ServiceType) (a : List ℕ) (cs : List (List ℕ)) (b : List ℕ)
    → has_type older t.name ≡ false → IsSuperPath older a cs b → IsSuperPath (t ∷ older) a cs b
leads_older t older a [] b fresh l = (or_right (is_named a t) (has_type older a) l.0, l.1)
leads_older t older a (c ∷ cs) b fresh l = (super_older t older a c fresh l.0, leads_older t older c cs b fresh l.1)

walk_leads : {ts : List ServiceType} → IsWellFounded ts → (a b : List ℕ) → is_among b (walk ts a) ≡ true → Conforms ts a b
walk_leads IsWellFounded.none a b h = absurd (false≢true h)
walk_leads (IsWellFounded.more t older fresh supers higher f) a b h =
    elim (cases_Bool (is_named a t)) [
      | inr other ↦
          let k : Conforms older a b =
          walk_leads f a b ((walks-when (is_named a t) b (flat_map (λ s. s ∷ walk older s) t.supers) (walk older a)
          h).0
          other) in
          record { names = k.names; leads = leads_older t older a k.names b fresh k.leads }
      | inl here ↦
          let m =
          met (walk older) t.supers b
          ((walks-when (is_named a t) b (flat_map (λ s. s ∷ walk older s) t.supers) (walk older a) h).1 here) in
          let step : IsSuper (t ∷ older) a m.0 = record { type = t; found = rw here refl; declared = m.1 } in
          elim (or_cases (bytes_eq b m.0) (is_among b (walk older m.0)) m.2) [
            | inl same ↦ record {
              names = m.0 ∷ [];
              leads = (
                step,
                (
                  or_right (is_named m.0 t) (has_type older m.0) (has-super older t.supers supers m.0 m.1),
                  sym (bytes_same b m.0 same),
                ),
              );
            }
            | inr further ↦
                let k : Conforms older m.0 b = walk_leads f m.0 b further in
                record { names = m.0 ∷ k.names; leads = (step, leads_older t older m.0 k.names b fresh k.leads) }
          ]
    ]

any_turned : {ts : List ServiceType} → IsWellFounded ts → (a : List ℕ) → has_type ts a ≡ true → has_type (reverse ts) a ≡ true
any_turned {ts} f a h = any-reverse (is_named a) ts ∙ h

leads_turned : {ts : List ServiceType} → IsWellFounded ts → (a : List ℕ) (cs : List (List ℕ)) (b : List ℕ) → IsSuperPath ts a cs b
    → IsSuperPath (reverse ts) a cs b
leads_turned f a [] b l = (any_turned f a l.0, l.1)
leads_turned f a (c ∷ cs) b l = (
  record { type = l.0.type; found = find_turned f a ∙ l.0.found; declared = l.0.declared },
  leads_turned f c cs b l.1,
)

pub chain_of : (types : List ServiceType) (a b : List ℕ) → IsWellFounded (reverse types) → conforms types a b ≡ true
    → Conforms types a b
chain_of types a b f h =
    let p = and_parts (has_type types a) (bytes_eq a b || is_among b (ancestors types a)) h in
    elim (or_cases (bytes_eq a b) (is_among b (ancestors types a)) p.1) [
      | inl same ↦ record { names = []; leads = (p.0, bytes_same a b same) }
      | inr above ↦
          let k : Conforms (reverse types) a b = walk_leads f a b (sym (ancestor-walked types a b) ∙ above) in
          record {
            names = k.names;
            leads =
                subst
                (λ (ts : List ServiceType). IsSuperPath ts a k.names b)
                (reverse-reverse types)
                (leads_turned f a k.names b k.leads);
          }
    ]

-- ---- from a chain to a walk

same_type_when : (b : Bool) (x t : ServiceType) (later : Option ServiceType) → b ≡ true → cond b (Some x) later ≡ Some t
    → x ≡ t
same_type_when true x t later e h = cc
same_type_when false x t later e h = absurd (false≢true e)

later_type_when : (b : Bool) (x t : ServiceType) (later : Option ServiceType) → b ≡ false
    → cond b (Some x) later ≡ Some t → later ≡ Some t
later_type_when true x t later e h = absurd (false≢true (sym e))
later_type_when false x t later e h = h

walk_super : {ts : List ServiceType} → IsWellFounded ts → (a c : List ℕ) (type : ServiceType) → type_named ts a ≡ Some type
    → is_among c type.supers ≡ true → is_among c (walk ts a) ≡ true
walk_super IsWellFounded.none a c type h d = absurd (let bad : ⊥ = cc in bad)
walk_super (IsWellFounded.more t older fresh supers higher f) a c type h d =
    elim (cases_Bool (is_named a t)) [
      | inr other ↦ rw other (walk_super f a c type (later_type_when (is_named a t) t type (type_named older a) other h)
          d)
      | inl here ↦
          let same : t ≡ type = same_type_when (is_named a t) t type (type_named older a) here h in
          rw here (met-from (walk older) t.supers c c
          (subst (λ (x : ServiceType). is_among c x.supers ≡ true) (sym same) d)
          (or_left (bytes_eq c c) (is_among c (walk older c)) (bytes_refl c)))
    ]

super_conforms : (types : List ServiceType) (a c : List ℕ) → IsWellFounded (reverse types) → IsSuper types a c
    → conforms types a c ≡ true
super_conforms types a c f s =
    let found : type_named (reverse types) a ≡ Some s.type =
    sym (find_turned f a) ∙ (ap (λ (ts : List ServiceType). type_named ts a) (reverse-reverse types) ∙ s.found) in
    and_from (has_type types a) (bytes_eq a c || is_among c (ancestors types a)) (named_has types a s.type s.found)
    (or_right (bytes_eq a c) (is_among c (ancestors types a))
    (ancestor-walked types a c ∙ walk_super f a c s.type found s.declared))

leads_conform : (types : List ServiceType) (a : List ℕ) (cs : List (List ℕ)) (b : List ℕ) → IsWellFounded (reverse types)
    → IsSuperPath types a cs b → conforms types a b ≡ true
leads_conform types a [] b f l = subst (λ (n : List ℕ). conforms types a n ≡ true) l.1 (conforms-itself types a l.0)
leads_conform types a (c ∷ cs) b f l =
    conforms-on types a c b f (super_conforms types a c f l.0) (leads_conform types c cs b f l.1)

pub of_chain : (types : List ServiceType) (a b : List ℕ) → IsWellFounded (reverse types) → Conforms types a b
    → conforms types a b ≡ true
of_chain types a b f k = leads_conform types a k.names b f k.leads

-- ---- by the entries

ancestors_found : (types : List ServiceType) (a : List ℕ) (e : TypeEntry) → IsValidEntry types e → e.service_type.name ≡ a
    → ancestors types a ≡ e.ancestors
ancestors_found types a e k same = rw (← same) (sym k.ancestors)

pub by_entry : (es : List TypeEntry) (a b : List ℕ) (e : TypeEntry) → AreKept es → entry_named es a ≡ Some e
    → (bytes_eq a b || is_among b e.ancestors) ≡ conforms (map entry_type es) a b
by_entry es a b e k h =
    let there : has_type (map entry_type es) a ≡ true = is_found es a ∙ ap (λ (o : Option TypeEntry). is_some o) h in
    rw (
      there,
      ancestors_found (map entry_type es) a e (kept_found (IsValidEntry (map entry_type es)) es a e k h)
          (name_of_found es a e h),
    )
    refl

pub no_entry : (es : List TypeEntry) (a b : List ℕ) → entry_named es a ≡ None → false ≡ conforms (map entry_type es) a b
no_entry es a b h =
    let there : has_type (map entry_type es) a ≡ false = is_found es a ∙ ap (λ (o : Option TypeEntry). is_some o) h in
    rw there refl

pub below_conforms : (es : List TypeEntry) (a b : List ℕ) (e : TypeEntry) → AreKept es → entry_named es a ≡ Some e
    → is_below b e ≡ conforms (map entry_type es) a b
below_conforms es a b e k h =
    ap (λ (n : List ℕ). bytes_eq n b || is_among b e.ancestors) (name_of_found es a e h) ∙ by_entry es a b e k h

-- the test is the chain
pub chain_iff : (es : List TypeEntry) (a sub b base : List ℕ) (r : Bool) → IsWellFounded (reverse (map entry_type es)) → sub ≡ a
    → base ≡ b → r ≡ conforms (map entry_type es) sub base
    → (r ≡ true → Conforms (map entry_type es) a b) × (Conforms (map entry_type es) a b → r ≡ true)
chain_iff es a sub b base r f q s is =
    let content : r ≡ conforms (map entry_type es) a b = rw (q, s) at is in
    (λ h. chain_of (map entry_type es) a b f (sym content ∙ h), λ k. content ∙ of_chain (map entry_type es) a b f k)
