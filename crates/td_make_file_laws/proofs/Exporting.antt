-- The ten offers of a generated trader are exported.
use Rattle.std.proofs.Common.{◌≡◌, ℕ, zero, suc, ◌+◌, ◌≤◌, ◌%◌, nat_eq, nat_le, Bool, true, false, not, ◌||◌}
use Rattle.std.proofs.Common.{if◌then◌else◌, List, [], ◌∷◌, ◌++◌, codes, length, None, refl, ap, ◌∙◌}
use Rattle.std.proofs.Common.{arith, length-append}
use Rattle.std.proofs.lemmas.Bool.{le-ltb, lt-leb}
use Rattle.td_changes.specs.Applying.{comes_to}
use Rattle.td_typecode.specs.Layers.{code-ulong}
use Rattle.td_typecode.specs.Same.{graph_in, graph_of}
use Rattle.td_typecode.specs.declared.code.TypeCode.TheVariants as code
use Rattle.td_typecode.specs.declared.reference.Ior.{Ior}
use Rattle.td_make.specs.Generated.{cost, offer_type}
use Rattle.td_make_file_laws.proofs.Adding.{both_types}
use Rattle.td_make_file_laws.proofs.AtMost.{offer-short}
use Rattle.td_make_file_laws.proofs.Going.{Becomes, Goes, goes-joined, goes-one}
use Rattle.td_make_laws.specs.Said.{cost_demanded, cost_property, item, offer_entries, offer_entry}
use Rattle.td_exceptions.specs.declared.exception.UserException.TheVariants.{InterfaceTypeMismatch, InvalidObjectRef}
use Rattle.td_ior.specs.Nil.{is_nil}
use Rattle.td_ops.specs.declared.call.Change.TheVariants.{Export}
use Rattle.td_ops.specs.declared.outcome.Reply.TheVariants as content
use Rattle.td_register.proofs.Otherwise.{neither}
use Rattle.td_register.specs.Causes.{Cause, with_cause, limit_if, raise_if, unless, ◌otherwise◌}
use Rattle.td_register.specs.Ids.{id_of}
use Rattle.td_register.specs.Named.{open_type}
use Rattle.td_register.specs.Properties.{is_too_large, missing_property, missing_cause, properties_cause, value_cause}
use Rattle.td_register.specs.Registers.{export_cause, exported_offer, interface_cause, offer_cause, passes_limit}
use Rattle.td_register.specs.Registers.{with_offer}
use Rattle.td_register.specs.Stores.{Store}
use Rattle.td_store.proofs.Shapes.{shape-ulong}
use Rattle.td_types.specs.Interfaces.{interface_conforms}
use Rattle.td_types.specs.Properties.{full_properties}
use Rattle.td_types.specs.Repository.{Repository}
use Rattle.td_value.specs.declared.structures.PropStruct.{PropStruct}
use Rattle.td_value.specs.declared.structures.Property.{Property}
use Rattle.td_walk.specs.declared.trace.Address.{Address}

-- an offer that nothing is at fault with
export-becomes : (s : Store) (r : Ior) (name : List ℕ) (ps : List Property) → export_cause s r name ps ≡ None
    → Becomes s (Export r name ps) (with_offer s (exported_offer s r name ps))
unfolding comes_to
export-becomes s r name ps none = record {
  reply = content.Id (id_of (s.last_offer + 1));
  is =
      ap (λ (c : Cause). unless c (content.Id (id_of (s.last_offer + 1))) (with_offer s (exported_offer s r name ps))) none;
}

-- ---- its causes, one after the other

abbrev type_cause : Repository → (name : List ℕ) → Ior → Cause
type_cause repo name r =
    with_cause (open_type repo.types name) (λ t. raise_if (not (interface_conforms repo.interfaces r.id t.if_name))
    (InterfaceTypeMismatch name r))

type-free : (trader number : ℕ) (b : Bool)
    → type_cause both_types (if b then codes "Base" else codes "Sub") (item trader number) ≡ None
unfolding interface_conforms
type-free trader number true = refl
type-free trader number false = refl

abbrev demands_cause : (supported : Bool) → (name : List ℕ) → List PropStruct → (amount : ℕ) → Cause
demands_cause supported name demanded amount =
    properties_cause supported name demanded [] (cost_property amount ∷ [])
    otherwise missing_cause name (missing_property demanded (cost_property amount ∷ []))

graph-ulong : graph_of code.ULong ≡ None
graph-ulong = ap graph_in code-ulong

value-free : (supported : Bool) (name : List ℕ) (amount : ℕ)
    → value_cause supported name (cost_demanded ∷ []) (cost_property amount) ≡ None
value-free supported name amount = rw shape-ulong (rw graph-ulong refl)

demands-free : (supported : Bool) (name : List ℕ) (amount : ℕ)
    → demands_cause supported name (cost_demanded ∷ []) amount ≡ None
demands-free supported name amount =
    ap (λ (c : Cause). (c otherwise None) otherwise None) (value-free supported name amount)

demanded-is : (b : Bool) → full_properties both_types.types (if b then codes "Base" else codes "Sub")
    ≡ cost_demanded ∷ []
unfolding full_properties
demanded-is true = refl
demanded-is false = refl

none-passed : (a b c : Bool) → a ≡ false → b ≡ false → c ≡ false → limit_if (a || b || c) ≡ None
none-passed a b c d e f = rw (d, e, f) refl

-- ---- one offer

module _ (s : Store) (known : s.types ≡ both_types) (few : length s.offers ≤ 64) (low : s.last_offer ≤ 64) where
  module _ (trader number amount : ℕ) (t : trader ≤ 64) (n : number ≤ 64) (b : Bool) where
    abbrev name : List ℕ
    name = if b then codes "Base" else codes "Sub"

    typed : with_cause (open_type s.types.types name) (interface_cause s name (item trader number)) ≡ None
    typed =
        ap (λ (repo : Repository). type_cause repo name (item trader number)) known ∙ type-free trader number b

    demands : offer_cause s name (cost_property amount ∷ []) ≡ None
    demands =
        ap (λ (repo : Repository). demands_cause s.attributes.supports_dynamic_properties name
        (full_properties repo.types name) amount) known
        ∙ (ap (λ (ds : List PropStruct). demands_cause s.attributes.supports_dynamic_properties name ds amount)
        (demanded-is b)
        ∙ demands-free s.attributes.supports_dynamic_properties name amount)

    within : limit_if (passes_limit s (item trader number) (cost_property amount ∷ [])) ≡ None
    within =
        none-passed (nat_le 1000000 (length s.offers)) (nat_le 4294967295 s.last_offer)
        (is_too_large (item trader number) (cost_property amount ∷ [])) (lt-leb 1000000 (length s.offers) (omega (arith, few)))
        (lt-leb 4294967295 s.last_offer (omega (arith, low)))
        (le-ltb 1048576 _ (offer-short trader number amount t n))

    free : export_cause s (item trader number) name (cost_property amount ∷ []) ≡ None
    free =
        neither (raise_if (is_nil (item trader number)) (InvalidObjectRef (item trader number)))
        (with_cause (open_type s.types.types name) (interface_cause s name (item trader number))
        otherwise offer_cause s name (cost_property amount ∷ [])
        otherwise limit_if (passes_limit s (item trader number) (cost_property amount ∷ [])))
        refl
        (neither (with_cause (open_type s.types.types name) (interface_cause s name (item trader number)))
        (offer_cause s name (cost_property amount ∷ [])
        otherwise limit_if (passes_limit s (item trader number) (cost_property amount ∷ [])))
        typed
        (neither (offer_cause s name (cost_property amount ∷ []))
        (limit_if (passes_limit s (item trader number) (cost_property amount ∷ []))) demands within))

    exports : Becomes s (Export (item trader number) name (cost_property amount ∷ []))
        (with_offer s (exported_offer s (item trader number) name (cost_property amount ∷ [])))
    exports = export-becomes s (item trader number) name (cost_property amount ∷ []) free

-- ---- all of them

-- so many offers behind a store without offers
pub record AreOffered (trader : ℕ) (s : Store) (count : ℕ) : Type 0 where
  pub after : Store
  pub goes : (home : Address) → Goes home s (offer_entries trader count) after
  pub types : after.types ≡ both_types
  pub offers : length after.offers ≡ count
  pub last : after.last_offer ≡ count
  pub links : after.links ≡ s.links
  pub attributes : after.attributes ≡ s.attributes

module _ (trader : ℕ) (most : trader ≤ 64) (s : Store) (known : s.types ≡ both_types) (none : s.offers ≡ [])
    (first : s.last_offer ≡ 0) where
  one-more : (done : ℕ) → suc done ≤ 64 → AreOffered trader s done → AreOffered trader s (suc done)
  one-more done le a =
      let number : ℕ = suc done in
      let b : Bool = nat_eq (number % 2) 1 in
      let few : length a.after.offers ≤ 64 = omega (arith, le, a.offers) in
      let low : a.after.last_offer ≤ 64 = omega (arith, le, a.last) in
      let o = exported_offer a.after (item trader number) (offer_type number) (cost_property (cost trader number) ∷ []) in
      let next : Store = with_offer a.after o in
      let step : Becomes a.after (Export (item trader number) (offer_type number)
      (cost_property (cost trader number) ∷ [])) next =
      exports a.after a.types few low trader number (cost trader number) most le b in
      let more : length (a.after.offers ++ o ∷ []) ≡ suc done =
      omega (arith, a.offers, length-append a.after.offers (o ∷ [])) in
      let counted : a.after.last_offer + 1 ≡ suc done = omega (arith, a.last) in
      record {
        after = next;
        goes = λ home.
            goes-joined home (offer_entries trader done) (offer_entry trader number ∷ []) s a.after next (a.goes home)
            (goes-one home (offer_entry trader number) a.after next step);
        types = a.types;
        offers = more;
        last = counted;
        links = a.links;
        attributes = a.attributes;
      }

  pub offered : (count : ℕ) → count ≤ 64 → AreOffered trader s count
  offered zero le = record {
    after = s;
    goes = λ home. refl;
    types = known;
    offers = ap length none;
    last = first;
    links = refl;
    attributes = refl;
  }
  offered (suc done) le = one-more done le (offered done (omega (arith, le)))
