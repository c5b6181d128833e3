-- Offers that are exported, modified and withdrawn (OMG's Trading Object Service, interface Register).
use Rattle.std.specs.Prelude.{ℕ, ◌+◌, nat_le, Bool, not, ◌&&◌, ◌||◌, is_some, List, [], ◌∷◌, ◌++◌, length, map}
use Rattle.std.specs.Prelude.{filter, find, Option, None, Some, Result, Ok, Err, unwrap_or}
use Rattle.std.specs.List.{list_any}
use Rattle.std.specs.Str.{bytes_eq}
use Rattle.td_typecode.specs.declared.reference.Ior.{Ior}
use Rattle.td_eval.specs.Values.{matches_constraint}
use Rattle.td_exceptions.specs.declared.exception.UserException.TheVariants.{InvalidObjectRef, InterfaceTypeMismatch}
use Rattle.td_exceptions.specs.declared.exception.UserException.TheVariants.{NotImplemented, UnknownPropertyName}
use Rattle.td_exceptions.specs.declared.exception.UserException.TheVariants.{MandatoryProperty, ReadonlyProperty}
use Rattle.td_exceptions.specs.declared.exception.UserException.TheVariants.{IllegalConstraint, NoMatchingOffers}
use Rattle.td_ior.specs.Nil.{is_nil}
use Rattle.td_lang.specs.Constraints.{constraint_of}
use Rattle.td_lang.specs.declared.expr.Constraint.{Constraint}
use Rattle.td_lang.specs.declared.fault.LangFault.{LangFault}
use Rattle.td_types.specs.Conforming.{conforms}
use Rattle.td_types.specs.Interfaces.{interface_conforms}
use Rattle.td_types.specs.Modes.{is_mandatory, is_readonly}
use Rattle.td_types.specs.Properties.{full_properties}
use Rattle.td_types.specs.Repository.{incarnation_of, is_among}
use Rattle.td_types.specs.declared.entry.ServiceType.{ServiceType}
use Rattle.td_value.specs.declared.structures.PropStruct.{PropStruct}
use Rattle.td_value.specs.declared.structures.Property.{Property}
use Rattle.td_ops.specs.declared.outcome.Outcome.{Outcome}
use Rattle.td_ops.specs.declared.outcome.Reply.TheVariants as reply
use Rattle.td_store.specs.Candidates.{belongs, is_dynamic}
use Rattle.td_store.specs.OfferLists.{without_offer, with_properties, most_offers}
use Rattle.td_store.specs.Stores.{offer_info_of}
use Rattle.td_store.specs.declared.record.OfferRecord.{OfferRecord}
use Rattle.td_register.specs.Causes.{Cause, OrRefusal, raise, raise_if, limit_if, ◌otherwise◌, with_cause, tells}
use Rattle.td_register.specs.Ids.{id_of, number_in, ordinary}
use Rattle.td_register.specs.Named.{type_found, open_type, type_properties}
use Rattle.td_register.specs.Properties.{carries, mode_of, name_cause, value_cause, properties_cause}
use Rattle.td_register.specs.Properties.{missing_property, missing_cause, is_too_large}
use Rattle.td_register.specs.Stores.{Store}

-- ---- export

abbrev pub last_number : ℕ
last_number = 4294967295

-- one offer more would pass a limit
abbrev pub passes_limit : Store → Ior → List Property → Bool
passes_limit s reference properties =
    nat_le most_offers (length s.offers) || nat_le last_number s.last_offer
    || is_too_large reference properties

-- what is at fault with the properties of a new offer of this type
abbrev pub offer_cause : Store → (type_name : List ℕ) → List Property → Cause
offer_cause s type_name properties =
    properties_cause s.attributes.supports_dynamic_properties type_name
    (full_properties s.types.types type_name) [] properties otherwise missing_cause type_name
    (missing_property (full_properties s.types.types type_name) properties)

abbrev pub interface_cause : Store → (type_name : List ℕ) → Ior → ServiceType → Cause
interface_cause s type_name reference t =
    raise_if (not (interface_conforms s.types.interfaces reference.id t.if_name))
    (InterfaceTypeMismatch type_name reference)

abbrev pub export_cause : Store → Ior → (type_name : List ℕ) → List Property → Cause
export_cause s reference type_name properties =
    raise_if (is_nil reference) (InvalidObjectRef reference)
    otherwise with_cause (open_type s.types.types type_name) (interface_cause s type_name reference)
    otherwise offer_cause s type_name properties
    otherwise limit_if (passes_limit s reference properties)

-- the incarnation that the type of a name has, 0 where there is none
abbrev pub incarnation_now : Store → List ℕ → ℕ
incarnation_now s type_name = unwrap_or (incarnation_of s.types.types type_name) 0

-- the store with one offer more, which takes the next number
abbrev pub with_offer : Store → OfferRecord → Store
with_offer s o = record s { offers = s.offers ++ o ∷ []; last_offer = o.number }

abbrev pub exported_offer : Store → Ior → (type_name : List ℕ) → List Property → OfferRecord
exported_offer s reference type_name properties = record {
  number = s.last_offer + 1;
  reference = reference;
  service_type = type_name;
  incarnation = incarnation_now s type_name;
  properties = properties;
  proxy = None;
}

-- the next number as an id
abbrev pub next_id : Store → List ℕ
next_id s = id_of (s.last_offer + 1)

-- ---- withdraw

abbrev pub no_more : {X : Type 0} → X → Cause
no_more found = None

abbrev pub withdraw_cause : Store → List ℕ → Cause
withdraw_cause s id = with_cause (ordinary s.offers id) no_more

abbrev pub offers_without : List OfferRecord → Option ℕ → List OfferRecord
offers_without offers None = offers
offers_without offers (Some number) = without_offer number offers

abbrev pub without_id : Store → List ℕ → Store
without_id s id = record s { offers = offers_without s.offers (number_in id) }

-- ---- describe

unfoldable pub describe : Store → List ℕ → Outcome
describe s id = tells (ordinary s.offers id) (λ o. reply.Offer (offer_info_of o))

-- ---- modify

-- what is at fault with a name that is to be deleted
abbrev pub deletion_cause : List PropStruct → OfferRecord → List ℕ → Cause
deletion_cause type_properties o name =
    raise_if (not (carries o.properties name)) (UnknownPropertyName name)
    otherwise raise_if (is_mandatory (mode_of type_properties name))
    (MandatoryProperty o.service_type name) otherwise raise_if
    (is_readonly (mode_of type_properties name))
    (ReadonlyProperty o.service_type name)

abbrev pub deletions_cause : List PropStruct → OfferRecord → (before : List (List ℕ))
    → List (List ℕ) → Cause
deletions_cause type_properties o before [] = None
deletions_cause type_properties o before (name ∷ names) =
    name_cause before name
    otherwise deletion_cause type_properties o name
    otherwise deletions_cause type_properties o (name ∷ before) names

-- A readonly property may be added where the offer lacks it, and not changed afterwards.
abbrev pub readonly_cause : List PropStruct → OfferRecord → List ℕ → Cause
readonly_cause type_properties o name =
    raise_if (is_readonly (mode_of type_properties name) && carries o.properties name)
    (ReadonlyProperty o.service_type name)

-- The names before are those that are to be deleted, too.
abbrev pub changes_cause : (supported : Bool) → List PropStruct → OfferRecord
    → (before : List (List ℕ)) → List Property → Cause
changes_cause supported type_properties o before [] = None
changes_cause supported type_properties o before (p ∷ ps) =
    name_cause before p.name
    otherwise value_cause supported o.service_type type_properties p
    otherwise readonly_cause type_properties o p.name
    otherwise changes_cause supported type_properties o (p.name ∷ before) ps

-- the property that is given in place of this one
abbrev pub replacement_of : List Property → Property → Property
replacement_of changed p = unwrap_or (find (λ q. bytes_eq q.name p.name) changed) p

-- Those that stay, with their new values in their places, and then those that the offer lacked.
abbrev pub modified_properties : List Property → (deleted : List (List ℕ))
    → (changed : List Property)
    → List Property
modified_properties properties deleted changed =
    map (replacement_of changed) (filter (λ p. not (is_among p.name deleted)) properties)
    ++ filter (λ p. not (carries properties p.name)) changed

abbrev pub offer_changes_cause : Store → List (List ℕ) → List Property → OfferRecord → Cause
offer_changes_cause s deleted changed o =
    deletions_cause (type_properties s.types.types o) o [] deleted
    otherwise changes_cause s.attributes.supports_dynamic_properties
    (type_properties s.types.types o)
    o deleted changed otherwise limit_if
    (is_too_large o.reference (modified_properties o.properties deleted changed))

abbrev pub modify_cause : Store → List ℕ → List (List ℕ) → List Property → Cause
modify_cause s id deleted changed =
    raise_if (not s.attributes.supports_modifiable_properties) NotImplemented
    otherwise with_cause (ordinary s.offers id) (offer_changes_cause s deleted changed)

abbrev pub offers_modified : List OfferRecord → List (List ℕ) → List Property
    → OrRefusal OfferRecord
    → List OfferRecord
offers_modified offers deleted changed (Err f) = offers
offers_modified offers deleted changed (Ok o) = with_properties o.number
    (modified_properties o.properties deleted changed) offers

abbrev pub with_modified : Store → List ℕ → List (List ℕ) → List Property → Store
with_modified s id deleted changed =
    record s { offers = offers_modified s.offers deleted changed (ordinary s.offers id) }

-- ---- withdraw_using_constraint

abbrev pub constraint_found : List ℕ → Result Constraint LangFault → OrRefusal Constraint
constraint_found text (Ok c) = Ok c
constraint_found text (Err f) = raise (IllegalConstraint text)

-- the constraint of a text
abbrev pub asked_in : List ℕ → OrRefusal Constraint
asked_in text = constraint_found text (constraint_of text)

-- Dynamic properties count as absent.
abbrev pub static_properties : List Property → List Property
static_properties properties = filter (λ p. not (is_dynamic p.value)) properties

-- an ordinary offer whose type conforms and whose properties match
abbrev pub is_met : List ServiceType → (type_name : List ℕ) → Constraint → OfferRecord → Bool
is_met types type_name c o =
    not (is_some o.proxy) && belongs types o && conforms types o.service_type type_name
    && matches_constraint (static_properties o.properties) c

abbrev pub none_met : Store → (type_name text : List ℕ) → Constraint → Cause
none_met s type_name text c =
    raise_if (not (list_any (is_met s.types.types type_name c) s.offers)) (NoMatchingOffers text)

abbrev pub withdraw_met_cause : Store → (type_name text : List ℕ) → Cause
withdraw_met_cause s type_name text =
    with_cause (type_found s.types.types type_name) no_more
    otherwise with_cause (asked_in text) (none_met s type_name text)

abbrev pub offers_not_met : Store → (type_name : List ℕ) → OrRefusal Constraint → List OfferRecord
offers_not_met s type_name (Err f) = s.offers
offers_not_met s type_name (Ok c) = filter (λ o. not (is_met s.types.types type_name c o)) s.offers

abbrev pub without_met : Store → (type_name text : List ℕ) → Store
without_met s type_name text = record s { offers = offers_not_met s type_name (asked_in text) }
