-- The repository without a type that no other one has as a supertype.
use Rattle.std.proofs.Common.{◌≡◌, ℕ, ◌≤◌, Bool, true, false, not, cond, inl, inr, List, [], ◌∷◌, reverse, map, refl}
use Rattle.std.proofs.Common.{sym, ap, subst, ◌∙◌, arith, Option, None, Some, Ok}
use Rattle.std.specs.List.{filter, AllByRecursion}
use Rattle.std.specs.Option.{option_map}
use Rattle.std.specs.Str.{bytes_eq}
use Rattle.std.proofs.lemmas.Bool.{both_ways, cases_Bool}
use Rattle.td_types.specs.declared.entry.TypeEntry.{TypeEntry}
use Rattle.td_types.specs.declared.fault.RepoFault.TheVariants as fault
use Rattle.td_types.specs.declared.reply.TypesReply.TheVariants as reply
use Rattle.td_types.specs.Calls.{refuse, sub_type, remove_unless, without, remove_type}
use Rattle.td_types.specs.Conforming.{once, walk, ancestors, conforms}
use Rattle.td_types.specs.Kept.{entry_type, repository, IsValidEntry, AreEntries}
use Rattle.td_types.specs.Properties.{full, full_properties}
use Rattle.td_types.specs.Removing.{sub_entry, without_entry}
use Rattle.td_types.specs.Repository.{Repository, ServiceType, InterfaceBases, top, IsWellFounded, IsRepository}
use Rattle.td_types.specs.Sought.{find_entry, entry_named}
use Rattle.td_types.proofs.Chains.{same-bytes, bytes-same}
use Rattle.td_types.proofs.Found.{known_found, found_named}
use Rattle.td_types.proofs.Others.{others, IsNoSuper, filter-reverse, has-others, top-others, founded-others}
use Rattle.td_types.proofs.Others.{descends-others, full-step, full-descends, walk-step, walk-descends}
use Rattle.td_types.proofs.Subtypes.{no-subtypes, sub_type-kept}

-- ---- the other types

pub full-without : (types : List ServiceType) (gone name : List ℕ) → IsNoSuper gone (reverse types) → (name ≡ gone → ⊥)
    → full_properties (filter (others gone) types) name ≡ full_properties types name
unfolding full_properties
full-without types gone name h differs =
    ap (λ (ts : List ServiceType). full ts name) (sym (filter-reverse (others gone) types))
    ∙ descends-others full full-step full-descends gone (reverse types) h name differs

pub ancestors-without : (types : List ServiceType) (gone name : List ℕ) → IsNoSuper gone (reverse types)
    → (name ≡ gone → ⊥) → ancestors (filter (others gone) types) name ≡ ancestors types name
unfolding ancestors
ancestors-without types gone name h differs =
    ap (once []) (ap (λ (ts : List ServiceType). walk ts name) (sym (filter-reverse (others gone) types))
    ∙ descends-others walk walk-step walk-descends gone (reverse types) h name differs)

pub conforms-without : (types : List ServiceType) (gone a b : List ℕ) → IsNoSuper gone (reverse types) → (a ≡ gone → ⊥)
    → conforms (filter (others gone) types) a b ≡ conforms types a b
conforms-without types gone a b h differs =
    rw (has-others gone a types differs, ancestors-without types gone a h differs) refl

pub valid-without : (r : Repository) (gone : List ℕ) → IsNoSuper gone (reverse r.types) → IsRepository r
    → IsRepository (without r gone)
valid-without r gone h valid = record {
  founded = subst IsWellFounded (filter-reverse (others gone) r.types) (founded-others gone valid.founded h);
  counted =
      let t = top-others gone valid.founded in
      let c = valid.counted in
      subst (λ (ts : List ServiceType). top ts ≤ r.last) (filter-reverse (others gone) r.types) (omega (arith, t, c));
}

-- ---- their entries

kept_or_not : (e : TypeEntry) (b : Bool) (es : List TypeEntry) (ts : List ServiceType) → map entry_type es ≡ ts
    → map entry_type (cond b (e ∷ es) es) ≡ cond b (entry_type e ∷ ts) ts
kept_or_not e true es ts h = ap (λ (xs : List ServiceType). entry_type e ∷ xs) h
kept_or_not e false es ts h = h

pub kept-without : (es : List TypeEntry) (gone : List ℕ)
    → map entry_type (without_entry es gone) ≡ filter (others gone) (map entry_type es)
kept-without [] gone = refl
kept-without (e ∷ es) gone =
    kept_or_not e (not (bytes_eq e.service_type.name gone)) (without_entry es gone) (filter (others gone) (map entry_type es))
    (kept-without es gone)

still-kept : (types : List ServiceType) (gone : List ℕ) → IsNoSuper gone (reverse types) → (es : List TypeEntry)
    → AllByRecursion (IsValidEntry types) es → AllByRecursion (IsValidEntry (filter (others gone) types)) (without_entry es gone)
still-kept types gone h [] k = tt
still-kept types gone h (e ∷ es) k =
    let rest = still-kept types gone h es k.1 in
    elim (cases_Bool (bytes_eq e.service_type.name gone)) [
      | inl here ↦ rw here rest
      | inr other ↦
          let differs : e.service_type.name ≡ gone → ⊥ =
          λ same. both_ways (bytes_eq e.service_type.name gone) other (bytes-same e.service_type.name gone same) in
          rw other (
            record {
              ancestors = k.0.ancestors
                  ∙ sym (ancestors-without types gone e.service_type.name h differs);
              full = k.0.full ∙ sym (full-without types gone e.service_type.name h differs);
            },
            rest,
          )
    ]

pub repository-without : (es : List TypeEntry) (interfaces : InterfaceBases) (last : ℕ) (gone : List ℕ)
    → repository (without_entry es gone) interfaces last ≡ without (repository es interfaces last) gone
repository-without es interfaces last gone =
    ap (λ (ts : List ServiceType). record { types = ts; interfaces = interfaces; last = last }) (kept-without es gone)

not-super : (es : List TypeEntry) (interfaces : InterfaceBases) (last : ℕ) (gone : List ℕ) → AreEntries es interfaces last
    → sub_entry es gone ≡ None → IsNoSuper gone (reverse (map entry_type es))
not-super es interfaces last gone are h =
    no-subtypes (map entry_type es) gone are.valid.founded
    (sub_type-kept es interfaces last gone are.kept ∙ ap (option_map entry_type) h)

pub entries-without : (es : List TypeEntry) (interfaces : InterfaceBases) (last : ℕ) (gone : List ℕ)
    → AreEntries es interfaces last → sub_entry es gone ≡ None → AreEntries (without_entry es gone) interfaces last
entries-without es interfaces last gone are h =
    let n = not-super es interfaces last gone are h in
    record {
      valid =
          subst IsRepository (sym (repository-without es interfaces last gone))
          (valid-without (repository es interfaces last) gone n are.valid);
      kept =
          subst (λ (ts : List ServiceType). AllByRecursion (IsValidEntry ts) (without_entry es gone))
          (sym (kept-without es gone)) (still-kept (map entry_type es) gone n es are.kept);
    }

-- ---- what the call comes to

named_when : (name : List ℕ) (x e : TypeEntry) (b : Bool) (later : Option TypeEntry) → bytes_eq x.service_type.name name ≡ b
    → (later ≡ Some e → e.service_type.name ≡ name) → cond b (Some x) later ≡ Some e → e.service_type.name ≡ name
named_when name x e true later t there h =
    let same : x ≡ e = cc in
    subst (λ (y : TypeEntry). y.service_type.name ≡ name) same (same-bytes x.service_type.name name t)
named_when name x e false later t there h = there h

pub found-name : (es : List TypeEntry) (name : List ℕ) (e : TypeEntry) → entry_named es name ≡ Some e
    → e.service_type.name ≡ name
found-name [] name e h = absurd (let bad : ⊥ = cc in bad)
found-name (x ∷ es) name e h =
    named_when name x e (bytes_eq x.service_type.name name) (entry_named es name) refl (found-name es name e) h

pub removed : (es : List TypeEntry) (interfaces : InterfaceBases) (last : ℕ) (name : List ℕ) (e : TypeEntry)
    → AreEntries es interfaces last → find_entry es name ≡ Ok e → sub_entry es name ≡ None
    → remove_type (repository es interfaces last) name
    ≡ Ok (reply.Removed, repository (without_entry es name) interfaces last)
unfolding remove_type
removed es interfaces last name e are h none =
    let r = repository es interfaces last in
    known_found es interfaces last name e (λ t. remove_unless r t (sub_type r name)) h
    ∙ ap (remove_unless r (entry_type e)) (sub_type-kept es interfaces last name are.kept ∙ ap (option_map entry_type) none)
    ∙ ap (λ (n : List ℕ). Ok (reply.Removed, without r n)) (found-name es name e (found_named es name e h))
    ∙ ap (λ (after : Repository). Ok (reply.Removed, after)) (sym (repository-without es interfaces last name))

pub has_sub : (es : List TypeEntry) (interfaces : InterfaceBases) (last : ℕ) (name : List ℕ) (e sub : TypeEntry)
    → AreEntries es interfaces last → find_entry es name ≡ Ok e → sub_entry es name ≡ Some sub
    → remove_type (repository es interfaces last) name ≡ refuse (fault.HasSubTypes name sub.service_type.name)
unfolding remove_type
has_sub es interfaces last name e sub are h some =
    let r = repository es interfaces last in
    known_found es interfaces last name e (λ t. remove_unless r t (sub_type r name)) h
    ∙ ap (remove_unless r (entry_type e)) (sub_type-kept es interfaces last name are.kept ∙ ap (option_map entry_type) some)
    ∙ ap (λ (n : List ℕ). refuse (fault.HasSubTypes n sub.service_type.name))
    (found-name es name e (found_named es name e h))
