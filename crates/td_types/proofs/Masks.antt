-- The repository with a type masked or not: everything but the mask stays.
use Rattle.std.proofs.Common.{◌≡◌, ℕ, ◌≤◌, Bool, true, false, ◌||◌, cond, inl, inr, List, [], ◌∷◌, ◌++◌}
use Rattle.std.proofs.Common.{get_or, reverse, map, refl, sym, ap, subst, ◌∙◌, arith, Option, Some}
use Rattle.std.specs.List.{flat_map, AllByRecursion}
use Rattle.std.specs.Str.{bytes_eq}
use Rattle.std.proofs.lemmas.Bool.{cases_Bool}
use Rattle.std.proofs.lemmas.List.{reverse-append, map-append}
use Rattle.td_types.specs.declared.entry.TypeEntry.{TypeEntry}
use Rattle.td_types.specs.Calls.{set_mask}
use Rattle.td_types.specs.Conforming.{once, walk, ancestors, conforms}
use Rattle.td_types.specs.Kept.{entry_type, repository, IsValidEntry, AreEntries}
use Rattle.td_types.specs.Laws.{without_mask}
use Rattle.td_types.specs.Properties.{full, full_properties}
use Rattle.td_types.specs.Removing.{with_mask}
use Rattle.td_types.specs.Repository.{Repository, ServiceType, InterfaceBases, is_named, has_type, type_named, mask_of}
use Rattle.td_types.specs.Repository.{top}
use Rattle.td_types.specs.Repository.{IsWellFounded, IsRepository}
use Rattle.td_types.proofs.Others.{named-otherwise, Descends, full-step, full-descends, walk-step, walk-descends}

-- ---- types that differ in the mask alone

abbrev pub masked_type : List ℕ → Bool → ServiceType → ServiceType
masked_type name masked t = cond (is_named name t) (record t { masked = masked }) t

-- all but the mask
pub record IsAlike (a b : ServiceType) : Type 0 where
  pub name : a.name ≡ b.name
  pub props : a.props ≡ b.props
  pub supers : a.supers ≡ b.supers
  pub incarnation : a.incarnation ≡ b.incarnation

alike-when : (b masked : Bool) (t : ServiceType) → IsAlike (cond b (record t { masked = masked }) t) t
alike-when true masked t = record { name = refl; props = refl; supers = refl; incarnation = refl }
alike-when false masked t = record { name = refl; props = refl; supers = refl; incarnation = refl }

pub alike-masked : (name : List ℕ) (masked : Bool) (t : ServiceType) → IsAlike (masked_type name masked t) t
alike-masked name masked t = alike-when (is_named name t) masked t

pub map-reversed : {X Y : Type 0} (f : X → Y) (xs : List X) → map f (reverse xs) ≡ reverse (map f xs)
map-reversed f [] = refl
map-reversed f (x ∷ xs) =
    ap (map f) (reverse-append (x ∷ []) xs) ∙ map-append f (reverse xs) (x ∷ [])
    ∙ ap (λ ys. ys ++ f x ∷ []) (map-reversed f xs) ∙ sym (reverse-append (f x ∷ []) (map f xs))

module _ (change : ServiceType → ServiceType) (alike : (t : ServiceType) → IsAlike (change t) t) where
  pub has-alike : (ts : List ServiceType) (name : List ℕ) → has_type (map change ts) name ≡ has_type ts name
  has-alike [] name = refl
  has-alike (t ∷ ts) name =
      ap (λ (n : List ℕ). bytes_eq n name || has_type (map change ts) name) (alike t).name
      ∙ ap (λ (b : Bool). is_named name t || b) (has-alike ts name)

  top-alike : (ts : List ServiceType) → top (map change ts) ≡ top ts
  top-alike [] = refl
  top-alike (t ∷ ts) = (alike t).incarnation

  pub founded-alike : {ts : List ServiceType} → IsWellFounded ts → IsWellFounded (map change ts)
  founded-alike IsWellFounded.none = IsWellFounded.none
  founded-alike (IsWellFounded.more t older fresh supers higher f) =
      IsWellFounded.more (change t) (map change older)
      (has-alike older (change t).name ∙ (ap (has_type older) (alike t).name ∙ fresh))
      (rw (alike t).supers (λ k d b. has-alike older (get_or t.supers k d) ∙ supers k d b))
      (let i = (alike t).incarnation in let e = top-alike older in omega (arith, i, e, higher))
      (founded-alike f)

  pub descends-alike : {X : Type 0} (F : List ServiceType → List ℕ → List X)
      (step : ServiceType → (List ℕ → List X) → List X)
      → Descends F step → ((t : ServiceType) (f : List ℕ → List X) → step (change t) f ≡ step t f)
      → (ts : List ServiceType) (name : List ℕ) → F (map change ts) name ≡ F ts name
  descends-alike F step d same [] name = refl
  descends-alike F step d same (t ∷ older) name =
      let rest = descends-alike F step d same older in
      let here : step (change t) (F (map change older)) ≡ step t (F older) =
      same t (F (map change older)) ∙ d.agrees t (F (map change older)) (F older) (λ s a. rest s) in
      let named : is_named name (change t) ≡ is_named name t = ap (λ (n : List ℕ). bytes_eq n name) (alike t).name in
      d.finds (change t) (map change older) name ∙ rw (named, here, rest name) (sym (d.finds t older name))

-- ---- what a type has from its supertypes

module _ (types : List ServiceType) (name : List ℕ) (masked : Bool) where
  pub full-masked : (n : List ℕ) → full_properties (map (masked_type name masked) types) n ≡ full_properties types n
  unfolding full_properties
  full-masked n =
      ap (λ (ts : List ServiceType). full ts n) (sym (map-reversed (masked_type name masked) types))
      ∙ descends-alike (masked_type name masked) (alike-masked name masked) full full-step full-descends
      (λ t f. rw ((alike-masked name masked t).props, (alike-masked name masked t).supers) refl) (reverse types) n

  pub ancestors-masked : (n : List ℕ) → ancestors (map (masked_type name masked) types) n ≡ ancestors types n
  unfolding ancestors
  ancestors-masked n =
      ap (once []) (ap (λ (ts : List ServiceType). walk ts n) (sym (map-reversed (masked_type name masked) types))
      ∙ descends-alike (masked_type name masked) (alike-masked name masked) walk walk-step walk-descends
      (λ t f. ap (λ (supers : List (List ℕ)). flat_map (λ s. s ∷ f s) supers) (alike-masked name masked t).supers)
      (reverse types) n)

  pub conforms-masked : (a b : List ℕ) → conforms (map (masked_type name masked) types) a b ≡ conforms types a b
  conforms-masked a b =
      rw (has-alike (masked_type name masked) (alike-masked name masked) types a, ancestors-masked a) refl

  still-kept_when : (e : TypeEntry) (b : Bool) → IsValidEntry types e
      → IsValidEntry (map (masked_type name masked) types)
      (cond b (record e { service_type = record e.service_type { masked = masked } }) e)
  still-kept_when e true k = record {
    ancestors = k.ancestors ∙ sym (ancestors-masked e.service_type.name);
    full = k.full ∙ sym (full-masked e.service_type.name);
  }
  still-kept_when e false k = record {
    ancestors = k.ancestors ∙ sym (ancestors-masked e.service_type.name);
    full = k.full ∙ sym (full-masked e.service_type.name);
  }

  still-kept : (es : List TypeEntry) → AllByRecursion (IsValidEntry types) es
      → AllByRecursion (IsValidEntry (map (masked_type name masked) types)) (with_mask es name masked)
  still-kept [] k = tt
  still-kept (e ∷ es) k = (still-kept_when e (bytes_eq e.service_type.name name) k.0, still-kept es k.1)

pub named-masked : (name : List ℕ) (masked : Bool) (ts : List ServiceType) (other : List ℕ) → (other ≡ name → ⊥)
    → type_named (map (masked_type name masked) ts) other ≡ type_named ts other
named-masked name masked [] other differs = refl
named-masked name masked (t ∷ ts) other differs =
    elim (cases_Bool (is_named name t)) [
      | inl here ↦ rw (here, named-otherwise t name other differs here) (named-masked name masked ts other differs)
      | inr unlike ↦ rw unlike (ap (λ (o : Option ServiceType). cond (is_named other t) (Some t) o)
          (named-masked name masked ts other differs))
    ]

pub mask-set : (name : List ℕ) (masked : Bool) (ts : List ServiceType) (t : ServiceType) → type_named ts name ≡ Some t
    → mask_of (map (masked_type name masked) ts) name ≡ Some masked
mask-set name masked [] t h = absurd (let bad : ⊥ = cc in bad)
mask-set name masked (x ∷ ts) t h =
    elim (cases_Bool (is_named name x)) [
      | inl here ↦ rw (here, here) refl
      | inr unlike ↦ rw (unlike, unlike) (mask-set name masked ts t (rw unlike at h))
    ]

unmasked-when : (b masked : Bool) (t : ServiceType) → without_mask (cond b (record t { masked = masked }) t) ≡ without_mask t
unmasked-when true masked t = refl
unmasked-when false masked t = refl

pub all-unmasked : (name : List ℕ) (masked : Bool) (ts : List ServiceType)
    → map without_mask (map (masked_type name masked) ts) ≡ map without_mask ts
all-unmasked name masked [] = refl
all-unmasked name masked (t ∷ ts) =
    ap (λ (x : ServiceType). x ∷ map without_mask (map (masked_type name masked) ts))
    (unmasked-when (is_named name t) masked t)
    ∙ ap (λ (xs : List ServiceType). without_mask t ∷ xs) (all-unmasked name masked ts)

pub valid-masked : (r : Repository) (name : List ℕ) (masked : Bool) → IsRepository r
    → IsRepository (set_mask r name masked)
valid-masked r name masked valid =
    let change = masked_type name masked in
    let alike = alike-masked name masked in
    record {
      founded = subst IsWellFounded (map-reversed change r.types) (founded-alike change alike valid.founded);
      counted =
          let c = valid.counted in
          let e = top-alike change alike (reverse r.types) in
          subst (λ (ts : List ServiceType). top ts ≤ r.last) (map-reversed change r.types) (omega (arith, c, e));
    }

-- ---- their entries

kept_when : (e : TypeEntry) (b masked : Bool)
    → entry_type (cond b (record e { service_type = record e.service_type { masked = masked } }) e)
    ≡ cond b (record (entry_type e) { masked = masked }) (entry_type e)
kept_when e true masked = refl
kept_when e false masked = refl

pub kept-masked : (es : List TypeEntry) (name : List ℕ) (masked : Bool)
    → map entry_type (with_mask es name masked) ≡ map (masked_type name masked) (map entry_type es)
kept-masked [] name masked = refl
kept-masked (e ∷ es) name masked =
    ap (λ (t : ServiceType). t ∷ map entry_type (with_mask es name masked))
    (kept_when e (bytes_eq e.service_type.name name) masked)
    ∙ ap (λ (ts : List ServiceType). masked_type name masked (entry_type e) ∷ ts) (kept-masked es name masked)

pub repository-masked : (es : List TypeEntry) (interfaces : InterfaceBases) (last : ℕ) (name : List ℕ) (masked : Bool)
    → repository (with_mask es name masked) interfaces last ≡ set_mask (repository es interfaces last) name masked
repository-masked es interfaces last name masked =
    ap (λ (ts : List ServiceType). record { types = ts; interfaces = interfaces; last = last })
    (kept-masked es name masked)

pub entries-masked : (es : List TypeEntry) (interfaces : InterfaceBases) (last : ℕ) (name : List ℕ) (masked : Bool)
    → AreEntries es interfaces last → AreEntries (with_mask es name masked) interfaces last
entries-masked es interfaces last name masked are = record {
  valid =
      subst IsRepository (sym (repository-masked es interfaces last name masked))
      (valid-masked (repository es interfaces last) name masked are.valid);
  kept =
      subst (λ (ts : List ServiceType). AllByRecursion (IsValidEntry ts) (with_mask es name masked))
      (sym (kept-masked es name masked)) (still-kept (map entry_type es) name masked es are.kept);
}
