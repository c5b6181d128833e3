-- The types that conform to a type.
use Rattle.std.proofs.Common.{◌≡◌, ℕ, Bool, true, false, ◌||◌, cond, inl, inr, List, [], ◌∷◌, map, reverse, refl, sym}
use Rattle.std.proofs.Common.{ap, subst, ◌∙◌, Result, Ok, Err}
use Rattle.std.specs.Prelude.{IfOk}
use Rattle.std.specs.List.{filter, AllByRecursion}
use Rattle.std.specs.Str.{bytes_eq}
use Rattle.std.proofs.lemmas.Bool.{both_ways, or_cases, and_parts, false_from_ne_true}
use Rattle.td_types.specs.declared.entry.TypeEntry.{TypeEntry}
use Rattle.td_types.specs.Conforming.{ancestors, conforms, subtypes}
use Rattle.td_types.specs.Judged.{AreKept}
use Rattle.td_types.specs.Kept.{entry_type, repository, IsValidEntry, AreEntries, is_below}
use Rattle.td_types.specs.Laws.{RisesAbove}
use Rattle.td_types.specs.Repository.{Repository, InterfaceBases, ServiceType, IsRepository, IsWellFounded, has_type}
use Rattle.td_types.specs.Repository.{is_named}
use Rattle.td_types.specs.Repository.{is_among}
use Rattle.td_types.proofs.Equal.{bytes_same}
use Rattle.td_types.proofs.Others.{any-reverse}
use Rattle.td_types.proofs.Outcomes.{walk-has}
use Rattle.td_types.proofs.Rising.{incarnations-rise}
use Rattle.td_types.proofs.Subtypes.{ancestor-walked, has-each}

chosen : {X : Type 0} (b c : Bool) (x y z : X) → b ≡ c → y ≡ z → cond b x y ≡ cond c x z
chosen b c x y z p q = rw (p, q) refl

conforms-below : (types : List ServiceType) (base : List ℕ) (e : TypeEntry) → has_type types e.service_type.name ≡ true
    → IsValidEntry types e → is_below base e ≡ conforms types e.service_type.name base
conforms-below types base e there k = rw (there, k.ancestors) refl

number-or : (b : Bool) (e : TypeEntry) (es : List TypeEntry)
    → map (λ (x : TypeEntry). x.service_type.incarnation) (cond b (e ∷ es) es)
    ≡ cond b (e.service_type.incarnation ∷ map (λ (x : TypeEntry). x.service_type.incarnation) es)
    (map (λ (x : TypeEntry). x.service_type.incarnation) es)
number-or true e es = refl
number-or false e es = refl

type-or : (b : Bool) (t : ServiceType) (ts : List ServiceType)
    → map (λ (x : ServiceType). x.incarnation) (cond b (t ∷ ts) ts)
    ≡ cond b (t.incarnation ∷ map (λ (x : ServiceType). x.incarnation) ts)
    (map (λ (x : ServiceType). x.incarnation) ts)
type-or true t ts = refl
type-or false t ts = refl

both-or : (b c : Bool) (n : ℕ) (ns ms : List ℕ) → b ≡ c → ns ≡ ms → cond b (n ∷ ns) ns ≡ cond c (n ∷ ms) ms
both-or b c n ns ms p q = rw (p, q) refl

below-among : (types : List ServiceType) (base : List ℕ) (es : List TypeEntry)
    → AllByRecursion (λ t. has_type types t.name ≡ true) (map entry_type es) → AllByRecursion (IsValidEntry types) es
    → map (λ (e : TypeEntry). e.service_type.incarnation) (filter (is_below base) es)
    ≡ map (λ (t : ServiceType). t.incarnation) (filter (λ t. conforms types t.name base) (map entry_type es))
below-among types base [] h k = refl
below-among types base (e ∷ es) h k =
    number-or (is_below base e) e (filter (is_below base) es)
    ∙ (both-or (is_below base e) (conforms types e.service_type.name base) e.service_type.incarnation _ _
    (conforms-below types base e h.0 k.0) (below-among types base es h.1 k.1)
    ∙ sym (type-or (conforms types e.service_type.name base) (entry_type e)
    (filter (λ t. conforms types t.name base) (map entry_type es))))

pub below-kept : (es : List TypeEntry) (base : List ℕ) → AreKept es
    → map (λ (e : TypeEntry). e.service_type.incarnation) (filter (is_below base) es) ≡ subtypes (map entry_type es) base
below-kept es base k = below-among (map entry_type es) base es (has-each (map entry_type es)) k

-- ---- what is conformed to is there

conformed : (types : List ServiceType) (a b : List ℕ) → IsWellFounded (reverse types) → conforms types a b ≡ true
    → has_type types b ≡ true
conformed types a b f h =
    let p = and_parts (has_type types a) (bytes_eq a b || is_among b (ancestors types a)) h in
    elim (or_cases (bytes_eq a b) (is_among b (ancestors types a)) p.1) [
      | inl same ↦ subst (λ (n : List ℕ). has_type types n ≡ true) (bytes_same a b same) p.0
      | inr above ↦ sym (any-reverse (is_named b) types) ∙ walk-has f a b (sym (ancestor-walked types a b) ∙ above)
    ]

none-filtered : {X : Type 0} (test : X → Bool) (xs : List X) → ((x : X) → test x ≡ false) → filter test xs ≡ []
none-filtered test [] h = refl
none-filtered test (x ∷ xs) h = rw (h x) (none-filtered test xs h)

pub no-subtypes : (types : List ServiceType) (base : List ℕ) → IsWellFounded (reverse types) → has_type types base ≡ false
    → subtypes types base ≡ []
no-subtypes types base f h =
    ap (map (λ (t : ServiceType). t.incarnation)) (none-filtered (λ (t : ServiceType). conforms types t.name base) types
    (λ t. false_from_ne_true (conforms types t.name base)
    (λ e. both_ways (has_type types base) h (conformed types t.name base f e))))

-- ---- what a call is told

pub content-when : {E : Type 0} (r : Result (List ℕ) E) (P Q : List ℕ → Type 0) → ((n : List ℕ) → P n → Q n) → IfOk r P
    → IfOk r Q
content-when (Ok x) P Q f h = f x h
content-when (Err e) P Q f h = h

module _ (es given : List TypeEntry) (interfaces : InterfaceBases) (last : ℕ) (base b : List ℕ) (r : Repository)
    (view : repository es interfaces last ≡ r) (same : given ≡ es) (called : b ≡ base)
    (are : AreEntries es interfaces last) where
  pub content : (n : List ℕ) → n ≡ map (λ (e : TypeEntry). e.service_type.incarnation) (filter (is_below b) given)
      → n ≡ subtypes r.types base
  content n e =
      e ∙ (ap (λ (xs : List TypeEntry). map (λ (x : TypeEntry). x.service_type.incarnation) (filter (is_below b) xs)) same
      ∙ (ap (λ (x : List ℕ). map (λ (y : TypeEntry). y.service_type.incarnation) (filter (is_below x) es)) called
      ∙ (below-kept es base are.kept ∙ ap (λ (x : Repository). subtypes x.types base) view)))

  valid : IsRepository r
  valid = subst IsRepository view are.valid

  pub content-rising : (n : List ℕ) → n ≡ map (λ (e : TypeEntry). e.service_type.incarnation) (filter (is_below b) given)
      → RisesAbove 0 n
  content-rising n e = subst (RisesAbove 0) (sym (content n e)) (incarnations-rise r (λ t. conforms r.types t.name base) valid)

  pub content-none : has_type r.types base ≡ false → (n : List ℕ)
      → n ≡ map (λ (e : TypeEntry). e.service_type.incarnation) (filter (is_below b) given) → n ≡ []
  content-none absent n e = content n e ∙ no-subtypes r.types base valid.founded absent
