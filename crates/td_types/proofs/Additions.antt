-- A type that is added to a repository that can be written, and why one isn't.
use Rattle.std.proofs.Common.{◌≡◌, ℕ, ◌+◌, ◌^◌, ◌<◌, ◌≤◌, Bool, true, false, ◌||◌, not, cond, inl, inr, List, [], ◌∷◌}
use Rattle.std.proofs.Common.{◌++◌, length, sym, subst, refl, arith, nat_lt, Option, None, Some, Ok, Err}
use Rattle.std.proofs.lemmas.Bool.{cases_Bool, ltb-false}
use Rattle.std.specs.List.{AllByRecursion}
use Rattle.std.specs.Str.{bytes_eq}
use Rattle.td_cdr.specs.Names.{word_name, identifier}
use Rattle.td_cdr.specs.Format.{◌then◌}
use Rattle.td_cdr.specs.Sound.{text, boolean, sequence}
use Rattle.td_cdr.specs.declared.order.Order.{Order}
use Rattle.td_cdr.specs.declared.order.Order.TheVariants.{Big}
use Rattle.td_value.specs.Structures.{incarnation_number, prop_struct, type_struct}
use Rattle.td_value.specs.declared.structures.PropStruct.{PropStruct}
use Rattle.td_value.specs.declared.structures.TypeStruct.{TypeStruct}
use Rattle.td_types.specs.Adding.{most_types, most_properties, most_bytes, last_incarnation, new_type, with_type}
use Rattle.td_types.specs.Adding.{passes_limit, or_else, name_fault, property_fault, base_fault, super_fault}
use Rattle.td_types.specs.Adding.{supers_fault, Definition, definitions, agree, conflict, earlier_of, redefinition}
use Rattle.td_types.specs.Adding.{inherited_definitions}
use Rattle.td_types.specs.Calls.{unless, add_fault, add_type}
use Rattle.td_types.specs.Descriptions.{full_description}
use Rattle.td_types.specs.Interfaces.{interface_conforms}
use Rattle.td_types.specs.Properties.{is_called, full_properties}
use Rattle.td_types.specs.Repository.{Repository, ServiceType, is_named, is_among, type_named, has_type, halves}
use Rattle.td_types.specs.Writable.{IsWritableType, IsCounted, IsWritable, AreWritable, IsWritableReply}
use Rattle.td_types.specs.Writable.{IsWritableFault, StaysWritable}
use Rattle.td_types.specs.declared.fault.RepoFault.{RepoFault}
use Rattle.td_types.specs.declared.fault.RepoFault.TheVariants as fault
use Rattle.td_types.specs.declared.fault.TypesFault.TheVariants.{Full}
use Rattle.td_types.specs.declared.reply.TypesReply.TheVariants as reply
use Rattle.td_types.proofs.Adds.{full_of_other, ancestors_of_other}
use Rattle.td_types.proofs.Admitted.{AreProperties, AreTexts, full-items}
use Rattle.td_types.proofs.Chains.{same-bytes}
use Rattle.td_types.proofs.Sequences.{each-append, each-map, each-flat, each-found, sequence-each, then-second}
use Rattle.td_types.proofs.Sequences.{then-first, sequence-long}

-- ---- why a type isn't added

abbrev IsWritableCause : Option RepoFault → Type 0
IsWritableCause None = Unit {0}
IsWritableCause (Some f) = IsWritableFault f

cause-when : (b : Bool) (x y : Option RepoFault) → IsWritableCause x → IsWritableCause y → IsWritableCause (cond b x y)
cause-when true x y h k = h
cause-when false x y h k = k

cause-or : (x y : Option RepoFault) → IsWritableCause x → IsWritableCause y → IsWritableCause (or_else x y)
cause-or None y h k = k
cause-or (Some f) y h k = h

name-cause : (r : Repository) (name : List ℕ) → text.format.admits name → IsWritableCause (name_fault r name)
name-cause r name n =
    cause-when (not (word_name name)) (Some (fault.IllegalServiceType name))
    (cond (has_type r.types name) (Some (fault.ServiceTypeExists name)) None) n
    (cause-when (has_type r.types name) (Some (fault.ServiceTypeExists name)) None n tt)

property-cause : (before : List (List ℕ)) (ps : List PropStruct) → AreProperties ps
    → IsWritableCause (property_fault before ps)
property-cause before [] h = tt
property-cause before (p ∷ ps) h =
    cause-when (not (identifier p.name)) (Some (fault.IllegalPropertyName p.name))
    (cond (is_among p.name before) (Some (fault.DuplicatePropertyName p.name))
    (property_fault (p.name ∷ before) ps))
    h.0.0
    (cause-when (is_among p.name before) (Some (fault.DuplicatePropertyName p.name))
    (property_fault (p.name ∷ before) ps) h.0.0 (property-cause (p.name ∷ before) ps h.1))

module _ (r : Repository) (w : IsWritable r) (name if_name : List ℕ) (n : text.format.admits name)
    (i : text.format.admits if_name) where
  base-cause : (before : List (List ℕ)) (s : List ℕ) (found : Option ServiceType) → text.format.admits s
      → ((t : ServiceType) → found ≡ Some t → IsWritableType t)
      → IsWritableCause (base_fault r name if_name before s found)
  base-cause before s None a h = a
  base-cause before s (Some base) a h =
      cause-when (is_among s before) (Some (fault.DuplicateServiceTypeName s))
      (cond (interface_conforms r.interfaces if_name base.if_name) None
      (Some (fault.InterfaceTypeMismatch s base.if_name name if_name)))
      a
      (cause-when (interface_conforms r.interfaces if_name base.if_name) None
      (Some (fault.InterfaceTypeMismatch s base.if_name name if_name)) tt (a, ((h base refl).described.0, (n, i))))

  supers-cause : (before ss : List (List ℕ)) → AreTexts ss → IsWritableCause (supers_fault r name if_name before ss)
  supers-cause before [] h = tt
  supers-cause before (s ∷ ss) h =
      cause-or (super_fault r name if_name before s) (supers_fault r name if_name (s ∷ before) ss)
      (cause-when (word_name s) (base_fault r name if_name before s (type_named r.types s))
      (Some (fault.IllegalServiceType s))
      (base-cause before s (type_named r.types s) h.0
      (λ t e. each-found IsWritableType (is_named s) r.types t w.types e))
      h.0)
      (supers-cause (s ∷ before) ss h.1)

abbrev IsDefined : Definition → Type 0
IsDefined d = text.format.admits d.type × prop_struct.format.admits d.property

conflict-cause : (earlier : Option Definition) (d : Definition) → ((e : Definition) → earlier ≡ Some e → IsDefined e)
    → IsDefined d → IsWritableCause (conflict earlier d)
conflict-cause None d h k = tt
conflict-cause (Some e) d h k =
    let a = h e refl in
    cause-when (agree e d.property) None (Some (fault.ValueTypeRedefinition e.type e.property d.type d.property)) tt
    (a.0, (a.1, (k.0, k.1)))

redefinition-cause : (earlier ds : List Definition) → AllByRecursion IsDefined earlier → AllByRecursion IsDefined ds
    → IsWritableCause (redefinition earlier ds)
redefinition-cause earlier [] h k = tt
redefinition-cause earlier (d ∷ ds) h k =
    cause-or (conflict (earlier_of earlier d.property.name) d) (redefinition (earlier ++ d ∷ []) ds)
    (conflict-cause (earlier_of earlier d.property.name) d
    (λ e f. each-found IsDefined (λ x. is_called d.property.name x.property) earlier e h f) k.0)
    (redefinition-cause (earlier ++ d ∷ []) ds (each-append IsDefined earlier (d ∷ []) h (k.0, tt)) k.1)

defined : (type : List ℕ) (own : Bool) (ps : List PropStruct) → text.format.admits type → AreProperties ps
    → AllByRecursion IsDefined (definitions type own ps)
defined type own ps n h =
    each-map prop_struct.format.admits IsDefined (λ p. record { type = type; property = p; own = own }) ps
    (λ p a. (n, a)) h

add-cause : (r : Repository) (name if_name : List ℕ) (props : List PropStruct) (supers : List (List ℕ)) → IsWritable r
    → AreWritable name if_name props supers → IsWritableCause (add_fault r name if_name props supers)
add-cause r name if_name props supers w a =
    let ps = sequence-each prop_struct props a.1.1.0 in
    let ss = sequence-each text supers a.1.1.1 in
    let rest =
    or_else (supers_fault r name if_name [] supers)
    (redefinition (definitions name true props) (inherited_definitions r supers)) in
    cause-or (name_fault r name) (or_else (property_fault [] props) rest) (name-cause r name a.0)
    (cause-or (property_fault [] props) rest (property-cause [] props ps)
    (cause-or (supers_fault r name if_name [] supers)
    (redefinition (definitions name true props) (inherited_definitions r supers))
    (supers-cause r w name if_name a.0 a.1.0 [] supers ss)
    (redefinition-cause (definitions name true props) (inherited_definitions r supers) (defined name true props a.0 ps)
    (each-flat text.format.admits IsDefined (λ s. definitions s false (full_properties r.types s)) supers
    (λ s h. defined s false (full_properties r.types s) h (full-items r.types s w.types)) ss))))

-- ---- a type that is added

halves-written : (n : ℕ) → n ≤ 2 ^ 40 → incarnation_number.format.admits (halves n)
halves-written n h = (omega (arith, h), omega (arith, h))

-- its full description isn't shorter than its supertypes are many
described-long : (d : TypeStruct) (order : Order) (place : ℕ)
    → length d.super_types ≤ length (type_struct.format.writes d order place)
described-long d order place =
    let n = length d.super_types in
    let last = boolean.format.writes d.masked then incarnation_number.format.writes d.incarnation in
    let supers = (sequence text).format.writes d.super_types in
    let props = (sequence prop_struct).format.writes d.props in
    then-second (text.format.writes d.if_name) (props then (supers then last)) order place n
    (λ at. then-second props (supers then last) order at n
    (λ at. then-first supers last order at n (sequence-long d.super_types order at)))

-- what no limit is passed by
record IsWithin (after : Repository) (t : ServiceType) : Type 0 where
  types : length after.types ≤ most_types
  last : after.last ≤ last_incarnation
  properties : length (full_properties after.types t.name) ≤ most_properties
  bytes : length (type_struct.format.writes (full_description after.types t) Big 0) ≤ most_bytes

no-limit : (a b c d : Bool) → (a || b || c || d) ≡ false → (a ≡ false) × (b ≡ false) × (c ≡ false) × (d ≡ false)
no-limit true b c d h = absurd (let bad : ⊥ = cc in bad)
no-limit false true c d h = absurd (let bad : ⊥ = cc in bad)
no-limit false false true d h = absurd (let bad : ⊥ = cc in bad)
no-limit false false false d h = (refl, refl, refl, h)

within : (after : Repository) (t : ServiceType) → passes_limit after t ≡ false → IsWithin after t
within after t h =
    let types = length after.types in
    let properties = length (full_properties after.types t.name) in
    let bytes = length (type_struct.format.writes (full_description after.types t) Big 0) in
    let f =
    no-limit (nat_lt most_types types) (nat_lt last_incarnation after.last) (nat_lt most_properties properties)
    (nat_lt most_bytes bytes) h in
    record {
      types = ltb-false most_types types f.0;
      last = ltb-false last_incarnation after.last f.1;
      properties = ltb-false most_properties properties f.2;
      bytes = ltb-false most_bytes bytes f.3;
    }

few_properties : (n : ℕ) → n ≤ most_properties → n < 2 ^ 32
few_properties n h = omega (arith, h)

few_bytes : (n bytes : ℕ) → n ≤ bytes → bytes ≤ most_bytes → n < 2 ^ 32
few_bytes n bytes h k = omega (arith, h, k)

counted-new : (r : Repository) (t : ServiceType) → IsWritable r → IsWithin (with_type r t) t → (n : List ℕ)
    → IsCounted (with_type r t).types n
counted-new r t w k n =
    elim (cases_Bool (bytes_eq t.name n)) [
      | inl same ↦
          let long = described-long (full_description (with_type r t).types t) Big 0 in
          subst (IsCounted (with_type r t).types) (same-bytes t.name n same)
          (record { properties = few_properties _ k.properties; supertypes = few_bytes _ _ long k.bytes })
      | inr other ↦ record {
        properties =
            subst (λ (ps : List PropStruct). length ps < 2 ^ 32) (sym (full_of_other r.types t n other))
            (w.counted n).properties;
        supertypes =
            subst (λ (xs : List (List ℕ)). length xs < 2 ^ 32) (sym (ancestors_of_other r.types t n other))
            (w.counted n).supertypes;
      }
    ]

added-written : (r : Repository) (name if_name : List ℕ) (props : List PropStruct) (supers : List (List ℕ))
    → IsWritable r → AreWritable name if_name props supers
    → IsWithin (with_type r (new_type r name if_name props supers)) (new_type r name if_name props supers)
    → IsWritableReply (reply.Added (r.last + 1)) × IsWritable (with_type r (new_type r name if_name props supers))
added-written r name if_name props supers w a k =
    let t = new_type r name if_name props supers in
    let number = halves-written (r.last + 1) k.last in
    let here : IsWritableType t = record { name = a.0; described = (a.1.0, (a.1.1.0, (a.1.1.1, (tt, number)))) } in (
      number,
      record {
        types = each-append IsWritableType r.types (t ∷ []) w.types (here, tt);
        few = k.types;
        counted = counted-new r t w k;
      },
    )

added-when : (f : Option RepoFault) (over : Bool) (n : ℕ) (after : Repository) → IsWritableCause f
    → (over ≡ false → IsWritableReply (reply.Added n) × IsWritable after)
    → StaysWritable (unless f (cond over (Err Full) (Ok (reply.Added n, after))))
added-when (Some f) over n after h k = h
added-when None true n after h k = tt
added-when None false n after h k = k refl

pub adding-written : (r : Repository) (name if_name : List ℕ) (props : List PropStruct) (supers : List (List ℕ))
    → IsWritable r → AreWritable name if_name props supers → StaysWritable (add_type r name if_name props supers)
unfolding add_type
adding-written r name if_name props supers w a =
    let t = new_type r name if_name props supers in
    added-when (add_fault r name if_name props supers) (passes_limit (with_type r t) t) (r.last + 1) (with_type r t)
    (add-cause r name if_name props supers w a)
    (λ fits. added-written r name if_name props supers w a (within (with_type r t) t fits))
