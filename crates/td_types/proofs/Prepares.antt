-- The entry of a new type, step by step.
use Rattle.std.proofs.Common.{◌≡◌, ℕ, ◌+◌, ◌<◌, ◌≤◌, Bool, true, false, List, [], ◌∷◌, ◌++◌, length, map, refl, sym, ap}
use Rattle.std.proofs.Common.{◌∙◌, None, Result, Ok, Err, subst, arith, length-append, nat_lt}
use Rattle.std.proofs.lemmas.List.{map-append, length-map}
use Rattle.std.proofs.lemmas.Bool.{lt-ltb, le-ltb}
use Rattle.std.specs.List.{AllByRecursion}
use Rattle.td_cdr.specs.declared.order.Order.TheVariants.{Big}
use Rattle.td_value.specs.Structures.{type_struct}
use Rattle.td_value.specs.declared.structures.PropStruct.{PropStruct}
use Rattle.td_value.specs.declared.structures.TypeStruct.{TypeStruct}
use Rattle.td_types.proofs.Adds.{ancestors_of_new, full_of_new, inherited_are, above_are, stay_kept, All-snoc}
use Rattle.td_types.proofs.Adds.{still_valid, add_fault_last, is_fresh, limit_first, limit_second, limit_third}
use Rattle.td_types.proofs.Adds.{limit_fourth, limit_none, comes_refused, comes_full, comes_added}
use Rattle.td_types.specs.Added.{entry_of, described_bytes, IsMeasured, IsPrepared}
use Rattle.td_types.specs.Adding.{new_type, with_type, most_types, most_properties, most_bytes, last_incarnation}
use Rattle.td_types.specs.Calls.{add_fault, add_type}
use Rattle.td_types.specs.Conforming.{once, ancestors}
use Rattle.td_types.specs.Descriptions.{full_description}
use Rattle.td_types.specs.Inheriting.{IsMore}
use Rattle.td_types.specs.Judged.{IsFirstFault, AreBases, inherited_properties, names_above}
use Rattle.td_types.specs.Kept.{entry_type, repository, IsValidEntry, AreEntries, kept_description}
use Rattle.td_types.specs.Properties.{full_properties, with_inherited}
use Rattle.td_types.specs.Repository.{Repository, ServiceType, InterfaceBases, has_type}
use Rattle.td_types.specs.declared.entry.TypeEntry.{TypeEntry}
use Rattle.td_types.specs.declared.fault.TypesFault.{TypesFault}
use Rattle.td_types.specs.declared.fault.TypesFault.TheVariants.{User, Full, Memory}
use Rattle.td_types.specs.declared.reply.TypesReply.TheVariants as reply

abbrev pub failed : {X : Type 0} → TypesFault → Result X TypesFault
failed t = Err t

pub refused : {X : Type 0} (given : X → Type 0) (es : List TypeEntry) (interfaces : InterfaceBases) (last : ℕ)
    (name if_name : List ℕ) (props props_given : List PropStruct) (supers supers_given : List (List ℕ)) (t : TypesFault)
    → props_given ≡ props → supers_given ≡ supers
    → IsFirstFault (add_fault (repository es interfaces 0) name if_name props_given supers_given) given (failed t)
    → IsPrepared es interfaces last name if_name props supers (failed t)
refused given es interfaces last name if_name props props_given supers supers_given (User f) p q h =
    comes_refused (repository es interfaces last) name if_name props supers f
    (add_fault_last es interfaces last 0 name if_name props supers ∙ (rw (p, q) at h))
refused given es interfaces last name if_name props props_given supers supers_given Full p q h = absurd h
refused given es interfaces last name if_name props props_given supers supers_given Memory p q h = tt

-- what is known once nothing is at fault
pub record Ready (es : List TypeEntry) (interfaces : InterfaceBases) (last : ℕ) (name if_name : List ℕ) (props : List PropStruct)
    (supers : List (List ℕ)) (bs : List TypeEntry) : Type 0 where
  pub valid : AreEntries es interfaces last
  pub fault : add_fault (repository es interfaces 0) name if_name props supers ≡ None
  pub bases : AreBases es supers bs

no_fault : (es : List TypeEntry) (interfaces : InterfaceBases) (last : ℕ) (name if_name : List ℕ) (props : List PropStruct)
    (supers : List (List ℕ)) (bs : List TypeEntry)
    → Ready es interfaces last name if_name props supers bs
    → add_fault (repository es interfaces last) name if_name props supers ≡ None
no_fault es interfaces last name if_name props supers bs k =
    add_fault_last es interfaces last 0 name if_name props supers ∙ k.fault

-- ---- limits

abbrev types_over : List TypeEntry → ServiceType → Bool
types_over es t = nat_lt most_types (length (map entry_type es ++ t ∷ []))

abbrev last_over : ServiceType → Bool
last_over t = nat_lt last_incarnation t.incarnation

abbrev properties_over : List TypeEntry → ServiceType → Bool
properties_over es t = nat_lt most_properties (length (full_properties (map entry_type es ++ t ∷ []) t.name))

abbrev bytes_over : List TypeEntry → ServiceType → Bool
bytes_over es t =
    nat_lt most_bytes (length (type_struct.format.writes (full_description (map entry_type es ++ t ∷ []) t) Big 0))

one_longer : (es : List TypeEntry) (t : ServiceType) → length (map entry_type es ++ t ∷ []) ≡ length es + 1
one_longer es t = length-append (map entry_type es) (t ∷ []) ∙ ap (λ (n : ℕ). n + 1) (length-map es entry_type)

pub many_types : (es : List TypeEntry) (interfaces : InterfaceBases) (last : ℕ) (name if_name : List ℕ) (props : List PropStruct)
    (supers : List (List ℕ)) (bs : List TypeEntry)
    → Ready es interfaces last name if_name props supers bs → most_types ≤ length es
    → add_type (repository es interfaces last) name if_name props supers ≡ Err Full
many_types es interfaces last name if_name props supers bs k many =
    let t : ServiceType = new_type (repository es interfaces last) name if_name props supers in
    let over : types_over es t ≡ true =
    lt-ltb most_types (length (map entry_type es ++ t ∷ [])) (rw (one_longer es t) (omega (arith, many))) in
    comes_full (repository es interfaces last) name if_name props supers
    (no_fault es interfaces last name if_name props supers bs k)
    (limit_first (types_over es t) (last_over t) (properties_over es t) (bytes_over es t) over)

pub last_given : (es : List TypeEntry) (interfaces : InterfaceBases) (last : ℕ) (name if_name : List ℕ) (props : List PropStruct)
    (supers : List (List ℕ)) (bs : List TypeEntry)
    → Ready es interfaces last name if_name props supers bs → last_incarnation ≤ last
    → add_type (repository es interfaces last) name if_name props supers ≡ Err Full
last_given es interfaces last name if_name props supers bs k many =
    let t : ServiceType = new_type (repository es interfaces last) name if_name props supers in
    let over : last_over t ≡ true = lt-ltb last_incarnation (last + 1) (omega (arith, many)) in
    comes_full (repository es interfaces last) name if_name props supers
    (no_fault es interfaces last name if_name props supers bs k)
    (limit_second (types_over es t) (last_over t) (properties_over es t) (bytes_over es t) over)

new_full : (es : List TypeEntry) (interfaces : InterfaceBases) (last : ℕ) (name if_name : List ℕ) (props : List PropStruct)
    (supers : List (List ℕ)) (bs : List TypeEntry)
    → Ready es interfaces last name if_name props supers bs
    → full_properties (map entry_type es ++ new_type (repository es interfaces last) name if_name props supers ∷ []) name
    ≡ with_inherited props (inherited_properties bs)
new_full es interfaces last name if_name props supers bs k =
    full_of_new (map entry_type es) (new_type (repository es interfaces last) name if_name props supers)
    ∙ ap (with_inherited props) (inherited_are es es supers bs k.valid.kept k.bases)

new_above : (es : List TypeEntry) (interfaces : InterfaceBases) (last : ℕ) (name if_name : List ℕ) (props : List PropStruct)
    (supers : List (List ℕ)) (bs : List TypeEntry)
    → Ready es interfaces last name if_name props supers bs
    → ancestors (map entry_type es ++ new_type (repository es interfaces last) name if_name props supers ∷ []) name
    ≡ once [] (names_above bs)
new_above es interfaces last name if_name props supers bs k =
    ancestors_of_new (map entry_type es) (new_type (repository es interfaces last) name if_name props supers)
    ∙ above_are es es supers bs [] k.valid.kept k.bases

pub many_properties : (es : List TypeEntry) (interfaces : InterfaceBases) (last : ℕ) (name if_name : List ℕ)
    (props : List PropStruct) (supers : List (List ℕ)) (bs : List TypeEntry) (t : TypesFault)
    → Ready es interfaces last name if_name props supers bs → IsMore (with_inherited props (inherited_properties bs)) (failed t)
    → IsPrepared es interfaces last name if_name props supers (failed t)
many_properties es interfaces last name if_name props supers bs (User f) k h = absurd h
many_properties es interfaces last name if_name props supers bs Full k h =
    let t : ServiceType = new_type (repository es interfaces last) name if_name props supers in
    let over : properties_over es t ≡ true =
    lt-ltb most_properties (length (full_properties (map entry_type es ++ t ∷ []) name))
    (rw (new_full es interfaces last name if_name props supers bs k) h) in
    comes_full (repository es interfaces last) name if_name props supers
    (no_fault es interfaces last name if_name props supers bs k)
    (limit_third (types_over es t) (last_over t) (properties_over es t) (bytes_over es t) over)
many_properties es interfaces last name if_name props supers bs Memory k h = tt

-- ---- the entry

new_described : (es : List TypeEntry) (interfaces : InterfaceBases) (last : ℕ) (name if_name : List ℕ) (props : List PropStruct)
    (supers : List (List ℕ)) (bs : List TypeEntry) (full : List PropStruct) (above : List (List ℕ))
    → Ready es interfaces last name if_name props supers bs → full ≡ with_inherited props (inherited_properties bs)
    → above ≡ once [] (names_above bs)
    → full_description (map entry_type es ++ new_type (repository es interfaces last) name if_name props supers ∷ [])
    (new_type (repository es interfaces last) name if_name props supers)
    ≡ kept_description (entry_of (last + 1) name if_name props supers full above)
new_described es interfaces last name if_name props supers bs full above k f a =
    rw (
      new_full es interfaces last name if_name props supers bs k,
      new_above es interfaces last name if_name props supers bs k,
      f,
      a,
    )
    refl

new_kept : (es : List TypeEntry) (interfaces : InterfaceBases) (last : ℕ) (name if_name : List ℕ) (props : List PropStruct)
    (supers : List (List ℕ)) (bs : List TypeEntry) (full : List PropStruct) (above : List (List ℕ))
    → Ready es interfaces last name if_name props supers bs → full ≡ with_inherited props (inherited_properties bs)
    → above ≡ once [] (names_above bs)
    → AreEntries (es ++ entry_of (last + 1) name if_name props supers full above ∷ []) interfaces (last + 1)
new_kept es interfaces last name if_name props supers bs full above k f a =
    let e : TypeEntry = entry_of (last + 1) name if_name props supers full above in
    let fresh = is_fresh es interfaces name if_name props supers k.fault in
    let here : IsValidEntry (map entry_type es ++ entry_type e ∷ []) e =
    record {
      ancestors = a ∙ sym (new_above es interfaces last name if_name props supers bs k);
      full = f ∙ sym (new_full es interfaces last name if_name props supers bs k);
    } in
    let all : AllByRecursion (IsValidEntry (map entry_type es ++ entry_type e ∷ [])) (es ++ e ∷ []) =
    All-snoc (IsValidEntry (map entry_type es ++ entry_type e ∷ [])) es e (stay_kept (map entry_type es) (entry_type e) es fresh k.valid.kept)
    here in
    record {
      valid = still_valid es interfaces last e bs k.valid.valid fresh k.bases refl;
      kept =
          subst (λ (types : List ServiceType). AllByRecursion (IsValidEntry types) (es ++ e ∷ []))
          (sym (map-append entry_type es (e ∷ []))) all;
    }

pub prepares : (es : List TypeEntry) (interfaces : InterfaceBases) (last : ℕ) (name if_name : List ℕ) (props : List PropStruct)
    (supers : List (List ℕ)) (bs : List TypeEntry) (full : List PropStruct) (above : List (List ℕ))
    → Ready es interfaces last name if_name props supers bs → length es < most_types → last < last_incarnation
    → full ≡ with_inherited props (inherited_properties bs) → length full ≤ most_properties → above ≡ once [] (names_above bs)
    → (result : Result TypeEntry TypesFault) → IsMeasured (last + 1) name if_name props supers full above result
    → IsPrepared es interfaces last name if_name props supers result
prepares es interfaces last name if_name props supers bs full above k few low f short a (Ok e) h =
    let t : ServiceType = new_type (repository es interfaces last) name if_name props supers in
    let r : Repository = repository es interfaces last in
    let described = new_described es interfaces last name if_name props supers bs full above k f a in
    let types : types_over es t ≡ false =
    le-ltb most_types (length (map entry_type es ++ t ∷ [])) (rw (one_longer es t) (omega (arith, few))) in
    let given : last_over t ≡ false = le-ltb last_incarnation (last + 1) (omega (arith, low)) in
    let properties : properties_over es t ≡ false =
    le-ltb most_properties (length (full_properties (map entry_type es ++ t ∷ []) name))
    (rw (new_full es interfaces last name if_name props supers bs k, ← f) short) in
    let bytes : bytes_over es t ≡ false =
    le-ltb most_bytes (length (type_struct.format.writes (full_description (map entry_type es ++ t ∷ []) t) Big 0))
    (subst (λ (d : TypeStruct). length (type_struct.format.writes d Big 0) ≤ most_bytes) (sym described)
    (subst (λ (x : TypeEntry). described_bytes x ≤ most_bytes) h.0 h.1)) in
    let comes : add_type r name if_name props supers ≡ Ok (reply.Added (last + 1), with_type r t) =
    comes_added r name if_name props supers (no_fault es interfaces last name if_name props supers bs k)
    (limit_none (types_over es t) (last_over t) (properties_over es t) (bytes_over es t) types given properties
    bytes) in
    subst (λ (x : TypeEntry). (add_type (repository es interfaces last) name if_name props supers
    ≡ Ok (reply.Added x.service_type.incarnation, with_type (repository es interfaces last) (entry_type x)))
    × AreEntries (es ++ x ∷ []) interfaces x.service_type.incarnation
    × (has_type (map entry_type es) x.service_type.name ≡ false))
    (sym h.0) (
      comes,
      new_kept es interfaces last name if_name props supers bs full above k f a,
      is_fresh es interfaces name if_name props supers k.fault,
    )
prepares es interfaces last name if_name props supers bs full above k few low f short a (Err (User fault)) h = absurd h
prepares es interfaces last name if_name props supers bs full above k few low f short a (Err Full) h =
    let t : ServiceType = new_type (repository es interfaces last) name if_name props supers in
    let over : bytes_over es t ≡ true =
    lt-ltb most_bytes (length (type_struct.format.writes (full_description (map entry_type es ++ t ∷ []) t) Big 0))
    (subst (λ (d : TypeStruct). most_bytes < length (type_struct.format.writes d Big 0))
    (sym (new_described es interfaces last name if_name props supers bs full above k f a)) h) in
    comes_full (repository es interfaces last) name if_name props supers
    (no_fault es interfaces last name if_name props supers bs k)
    (limit_fourth (types_over es t) (last_over t) (properties_over es t) (bytes_over es t) over)
prepares es interfaces last name if_name props supers bs full above k few low f short a (Err Memory) h = tt
