-- A type that the lines of a file tell, and that is added, can be written: its names are names, and its lists are
-- short.
use Rattle.std.proofs.Common.{◌≡◌, ℕ, ◌+◌, ◌^◌, ◌<◌, ◌≤◌, nat_lt, Bool, true, false, not, ◌||◌, cond, List, []}
use Rattle.std.proofs.Common.{◌∷◌, ◌++◌, length, map, filter, flat_map, reverse, Option, Some, None, Ok, Err}
use Rattle.std.proofs.Common.{refl, ap, ◌∙◌, arith, ltb-false}
use Rattle.std.proofs.lemmas.List.{length-append}
use Rattle.std.specs.List.{AllByRecursion}
use Rattle.std.specs.Str.{bytes_eq}
use Rattle.td_admin.specs.Repositories.{types_cause, with_types}
use Rattle.td_changes.specs.Applying.{apply, comes_to}
use Rattle.td_changes.specs.Histories.{is_done}
use Rattle.td_cdr.specs.Names.{identifier, word_name}
use Rattle.td_cdr.specs.Sound.{text}
use Rattle.td_cdr.specs.Text.{HasNoNul}
use Rattle.td_cdr.specs.declared.order.Order.TheVariants.{Big}
use Rattle.td_file_laws.proofs.Accepting.{exports, exports-proxy, identifier-clean, links, not-true, one-fewer}
use Rattle.td_file_laws.proofs.Accepting.{still-there, word-clean}
use Rattle.td_lines.specs.Parsing.{AreParsedTypes, IsParsedChange}
use Rattle.td_ops.specs.declared.call.Change.{Change}
use Rattle.td_ops.specs.declared.call.Change.TheVariants as change
use Rattle.td_register.specs.Causes.{effect_of, unless as unless_cause}
use Rattle.td_ops.specs.declared.outcome.Reply.{Reply}
use Rattle.td_register.specs.Stores.{Store}
use Rattle.td_trader.proofs.ReadAdmitted.{follow-admitted}
use Rattle.td_trader.specs.Admitted.{AdmitsChange}
use Rattle.td_register.proofs.NoCause.{two-false}
use Rattle.td_register.proofs.NoFault.{is-so, no-first, no-later, not-so, there-is}
use Rattle.td_types.proofs.Adds.{full_of_new}
use Rattle.td_types.proofs.Outcomes.{after_adding}
use Rattle.td_types.proofs.Sequences.{sequence-from}
use Rattle.td_types.specs.Adding.{base_fault, definitions, inherited_definitions, last_incarnation, most_bytes}
use Rattle.td_types.specs.Adding.{most_properties, most_types, name_fault}
use Rattle.td_types.specs.Adding.{new_type, or_else, passes_limit, property_fault, redefinition, super_fault}
use Rattle.td_types.specs.Adding.{supers_fault, with_type}
use Rattle.td_types.specs.Calls.{RepositoryResult, add_fault, add_type as add_to, unless}
use Rattle.td_types.specs.Descriptions.{full_description}
use Rattle.td_types.specs.Properties.{full, full_properties, newcomers, with_stronger_mode}
use Rattle.td_types.specs.Repository.{Repository, has_type, is_among, is_named, type_named}
use Rattle.td_types.specs.Writable.{AreWritable}
use Rattle.td_types.specs.declared.entry.ServiceType.{ServiceType}
use Rattle.td_types.specs.declared.fault.RepoFault.{RepoFault}
use Rattle.td_types.specs.declared.fault.RepoFault.TheVariants as fault
use Rattle.td_types.specs.declared.fault.TypesFault.TheVariants.{User as Raises, Full, Memory}
use Rattle.td_types.specs.declared.reply.TypesReply.{TypesReply}
use Rattle.td_value.specs.Enumerations.{property_mode}
use Rattle.td_value.specs.Structures.{prop_struct, type_struct}
use Rattle.td_value.specs.declared.enumerations.PropertyMode.{PropertyMode}
use Rattle.td_value.specs.declared.enumerations.PropertyMode.TheVariants as mode
use Rattle.td_value.specs.declared.structures.PropStruct.{PropStruct}

-- ---- own properties

names-legal : (before : List (List ℕ)) (ps : List PropStruct) → property_fault before ps ≡ None
    → AllByRecursion (λ (p : PropStruct). HasNoNul p.name) ps
names-legal before [] h = tt
names-legal before (p ∷ ps) h =
    let a =
    not-so (not (identifier p.name)) (fault.IllegalPropertyName p.name)
    (cond (is_among p.name before) (Some (fault.DuplicatePropertyName p.name))
    (property_fault (p.name ∷ before) ps)) h in
    let b =
    not-so (is_among p.name before) (fault.DuplicatePropertyName p.name) (property_fault (p.name ∷ before) ps) a.1 in
    (identifier-clean p.name (not-true (identifier p.name) a.0), names-legal (p.name ∷ before) ps b.1)

mode-admitted : (m : PropertyMode) → property_mode.format.admits m
mode-admitted mode.Normal = omega arith
mode-admitted mode.Readonly = omega arith
mode-admitted mode.Mandatory = omega arith
mode-admitted mode.MandatoryReadonly = omega arith

props-admitted : (ps : List PropStruct) → AllByRecursion (λ (p : PropStruct). HasNoNul p.name) ps → AreParsedTypes ps
    → AllByRecursion prop_struct.format.admits ps
props-admitted [] names types = tt
props-admitted (p ∷ ps) names types =
    ((names.0, (types.0, mode-admitted p.mode)), props-admitted ps names.1 types.1)

-- ---- supertypes

abbrev AreApart : List (List ℕ) → Type 0
AreApart [] = Unit {0}
AreApart (s ∷ ss) = AllByRecursion (λ (o : List ℕ). bytes_eq o s ≡ false) ss × AreApart ss

record AreSupers (types : List ServiceType) (before supers : List (List ℕ)) : Type 0 where
  texts : AllByRecursion HasNoNul supers
  there : AllByRecursion (λ (s : List ℕ). has_type types s ≡ true) supers
  fresh : AllByRecursion (λ (s : List ℕ). is_among s before ≡ false) supers
  apart : AreApart supers

split-fresh : (s : List ℕ) (before ss : List (List ℕ))
    → AllByRecursion (λ (o : List ℕ). is_among o (s ∷ before) ≡ false) ss
    → AllByRecursion (λ (o : List ℕ). bytes_eq o s ≡ false) ss
    × AllByRecursion (λ (o : List ℕ). is_among o before ≡ false) ss
split-fresh s before [] h = (tt, tt)
split-fresh s before (o ∷ ss) h =
    let a = two-false (bytes_eq o s) (is_among o before) h.0 in
    let b = split-fresh s before ss h.1 in ((a.0, b.0), (a.1, b.1))

module _ (r : Repository) (name if_name : List ℕ) where
  based : (before : List (List ℕ)) (super : List ℕ) (found : Option ServiceType) → type_named r.types super ≡ found
      → base_fault r name if_name before super found ≡ None
      → (has_type r.types super ≡ true) × (is_among super before ≡ false)
  based before super None is h = absurd (let bad : ⊥ = cc in bad)
  based before super (Some t) is h =
      (there-is r.types super t is, (not-so (is_among super before) (fault.DuplicateServiceTypeName super) _ h).0)

  supers-fit : (before supers : List (List ℕ)) → supers_fault r name if_name before supers ≡ None
      → AreSupers r.types before supers
  supers-fit before [] h = record { texts = tt; there = tt; fresh = tt; apart = tt }
  supers-fit before (s ∷ ss) h =
      let first = no-first (super_fault r name if_name before s) (supers_fault r name if_name (s ∷ before) ss) h in
      let rest =
      supers-fit (s ∷ before) ss
      (no-later (super_fault r name if_name before s) (supers_fault r name if_name (s ∷ before) ss) h) in
      let named =
      is-so (word_name s) (fault.IllegalServiceType s) (base_fault r name if_name before s (type_named r.types s))
      first in
      let base = based before s (type_named r.types s) refl named.1 in
      let others = split-fresh s before ss rest.fresh in
      record {
        texts = (word-clean s named.0, rest.texts);
        there = (base.0, rest.there);
        fresh = (base.1, others.1);
        apart = (others.0, rest.apart);
      }

still-all : (types : List ServiceType) (s : List ℕ) (ss : List (List ℕ))
    → AllByRecursion (λ (o : List ℕ). bytes_eq o s ≡ false) ss
    → AllByRecursion (λ (o : List ℕ). has_type types o ≡ true) ss
    → AllByRecursion (λ (o : List ℕ). has_type (filter (λ t. not (is_named s t)) types) o ≡ true) ss
still-all types s [] apart h = tt
still-all types s (o ∷ ss) apart h = (still-there types s o apart.0 h.0, still-all types s ss apart.1 h.1)

-- no more than there are types
fewer : (types : List ServiceType) (supers : List (List ℕ)) → AreApart supers
    → AllByRecursion (λ (s : List ℕ). has_type types s ≡ true) supers → length supers ≤ length types
fewer types [] apart h = omega arith
fewer types (s ∷ ss) apart h =
    let one = one-fewer types s h.0 in
    let more =
    fewer (filter (λ t. not (is_named s t)) types) ss apart.1 (still-all types s ss apart.0 h.1) in
    omega (arith, one, more)

-- ---- a type that is added

not-full : (f : Option RepoFault) (full_up : Bool) (x a : TypesReply × Repository)
    → unless f (cond full_up (Err Full) (Ok x)) ≡ Ok a → full_up ≡ false
not-full (Some f) full_up x a h = absurd (let bad : ⊥ = cc in bad)
not-full None true x a h = absurd (let bad : ⊥ = cc in bad)
not-full None false x a h = refl

first-of : (a b c d : Bool) → (a || b || c || d) ≡ false → a ≡ false
first-of true b c d h = absurd (let bad : ⊥ = cc in bad)
first-of false b c d h = refl

third-of : (a b c d : Bool) → (a || b || c || d) ≡ false → c ≡ false
third-of true b c d h = absurd (let bad : ⊥ = cc in bad)
third-of false true c d h = absurd (let bad : ⊥ = cc in bad)
third-of false false true d h = absurd (let bad : ⊥ = cc in bad)
third-of false false false d h = refl

added : (s : Store) (content : Reply) (r : RepositoryResult)
    → is_done (effect_of s (unless_cause (types_cause r) content (with_types s r))).outcome ≡ true
    → (a : TypesReply × Repository) × (r ≡ Ok a)
added s content (Ok a) h = (a, refl)
added s content (Err (Raises f)) h = absurd (let bad : ⊥ = cc in bad)
added s content (Err Full) h = absurd (let bad : ⊥ = cc in bad)
added s content (Err Memory) h = absurd (let bad : ⊥ = cc in bad)

record IsWithin (r : Repository) (t : ServiceType) : Type 0 where
  types : length r.types ≤ most_types
  properties : length (full_properties r.types t.name) ≤ most_properties

within : (r : Repository) (t : ServiceType) → passes_limit r t ≡ false → IsWithin r t
within r t h =
    let a = nat_lt most_types (length r.types) in
    let b = nat_lt last_incarnation r.last in
    let c = nat_lt most_properties (length (full_properties r.types t.name)) in
    let d = nat_lt most_bytes (length (type_struct.format.writes (full_description r.types t) Big 0)) in
    record {
      types = ltb-false most_types (length r.types) (first-of a b c d h);
      properties = ltb-false most_properties (length (full_properties r.types t.name)) (third-of a b c d h);
    }

part-below : (own others all limit : ℕ) → all ≡ own + others → all ≤ limit → limit < 2 ^ 32 → own < 2 ^ 32
part-below own others all limit is few small = omega (arith, is, few, small)

least-below : (least some all limit : ℕ) → least ≤ some → all ≡ some + 1 → all ≤ limit → limit < 2 ^ 32
    → least < 2 ^ 32
least-below least some all limit fewer_than is few small = omega (arith, fewer_than, is, few, small)

module _ (s : Store) (name if_name : List ℕ) (props : List PropStruct) (supers : List (List ℕ)) where
  within-limits : (a : TypesReply × Repository) → add_to s.types name if_name props supers ≡ Ok a
      → passes_limit (with_type s.types (new_type s.types name if_name props supers))
      (new_type s.types name if_name props supers) ≡ false
  unfolding add_to
  within-limits a e = not-full (add_fault s.types name if_name props supers) _ _ a e

  pub types : HasNoNul if_name → AreParsedTypes props
      → is_done (apply s (change.AddType name if_name props supers)).outcome ≡ true
      → AreWritable name if_name props supers
  unfolding comes_to
  types plain content h =
      let t = new_type s.types name if_name props supers in
      let is = added s _ (add_to s.types name if_name props supers) h in
      let f = after_adding s.types name if_name props supers is.0.0 is.0.1 is.1 in
      let behind =
      or_else (supers_fault s.types name if_name [] supers)
      (redefinition (definitions name true props) (inherited_definitions s.types supers)) in
      let rest = or_else (property_fault [] props) behind in
      let named =
      not-so (not (word_name name)) (fault.IllegalServiceType name) _ (no-first (name_fault s.types name) rest f.0) in
      let later = no-later (name_fault s.types name) rest f.0 in
      let legal = names-legal [] props (no-first (property_fault [] props) behind later) in
      let fit =
      supers-fit s.types name if_name [] supers
      (no-first (supers_fault s.types name if_name [] supers)
      (redefinition (definitions name true props) (inherited_definitions s.types supers))
      (no-later (property_fault [] props) behind later)) in
      let fits = within (with_type s.types t) t (within-limits is.0 is.1) in
      let few_types : length (s.types.types ++ t ∷ []) ≤ most_types = fits.types in
      let few_all : length (full_properties (s.types.types ++ t ∷ []) name) ≤ most_properties = fits.properties in
      let inherited = flat_map (full (reverse s.types.types)) supers in
      let own : length (full_properties (s.types.types ++ t ∷ []) name)
      ≡ length (props ++ map (with_stronger_mode inherited) (newcomers props inherited)) =
      ap (length {A = PropStruct}) (full_of_new s.types.types t) in
      let joined = length-append props (map (with_stronger_mode inherited) (newcomers props inherited)) in
      let more = length-append s.types.types (t ∷ []) in
      let few_props : length props < 2 ^ 32 =
      part-below (length props) (length (map (with_stronger_mode inherited) (newcomers props inherited)))
      (length (full_properties (s.types.types ++ t ∷ []) name)) most_properties (own ∙ joined) few_all (omega arith) in
      let few_supers : length supers < 2 ^ 32 =
      least-below (length supers) (length s.types.types) (length (s.types.types ++ t ∷ [])) most_types
      (fewer s.types.types supers fit.apart fit.there) more few_types (omega arith) in (
        word-clean name (not-true (word_name name) named.0),
        (
          plain,
          (
            sequence-from prop_struct props few_props (props-admitted props legal content),
            sequence-from text supers few_supers fit.texts,
          ),
        ),
      )

-- ---- every change that lines tell

pub accepted : (s : Store) (c : Change) → IsParsedChange c → is_done (apply s c).outcome ≡ true → AdmitsChange c
accepted s (change.Export object type_name ps) t h = exports s object type_name ps t h
accepted s (change.ExportProxy target type_name ps if_match_all recipe policies) t h =
    exports-proxy s target type_name ps t.0 if_match_all recipe policies t.1 t.2 h
accepted s (change.AddLink name target def_pass_on limiting register) t h =
    links s name target def_pass_on limiting register t.0 t.1 h
accepted s (change.AddType name if_name props supers) t h =
    ((name, (if_name, (props, supers))), refl, types s name if_name props supers t.0 t.1 h)
accepted s (change.SetNumber attribute number) t h = (number, refl, t)
accepted s (change.SetTruth attribute truth) t h = (truth, refl, tt)
accepted s (change.SetFollow attribute rule) t h = (rule, refl, follow-admitted rule)
accepted s (change.SetRequestIdStem stem) t h = (stem, refl, tt)
accepted s other t h = absurd t
