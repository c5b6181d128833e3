-- Offers and proxy offers: what their changes come to can be written.
use Rattle.std.proofs.Common.{◌≡◌, ℕ, ◌+◌, ◌<◌, ◌≤◌, Bool, true, false, not, ◌&&◌, List, [], ◌∷◌}
use Rattle.std.proofs.Common.{length, map, filter, find, Option, Some, None, Result, Ok, Err, is_some}
use Rattle.std.proofs.Common.{refl, subst, sym, ◌∙◌, arith, bytes_eq}
use Rattle.std.specs.List.{AllByRecursion, list_any}
use Rattle.std.specs.Prelude.{unwrap_or}
use Rattle.td_cdr.specs.Names.{identifier, word_name}
use Rattle.td_cdr.specs.Sound.{◌&◌, boolean, sequence, text}
use Rattle.td_typecode.specs.References.{reference}
use Rattle.td_typecode.specs.declared.reference.Ior.{Ior}
use Rattle.td_exceptions.specs.declared.exception.UserException.TheVariants as user
use Rattle.td_ior.specs.Profiles.{iiop_of}
use Rattle.td_lang.specs.Constraints.{constraint_of}
use Rattle.td_lang.specs.declared.expr.Constraint.{Constraint}
use Rattle.td_ior.specs.Nil.{is_nil}
use Rattle.td_lang.specs.declared.fault.LangFault.{LangFault}
use Rattle.td_ops.specs.declared.call.Change.TheVariants as change
use Rattle.td_ops.specs.declared.operation.Operation.TheVariants.{Register, Proxy}
use Rattle.td_ops.specs.declared.operation.ProxyOperation.TheVariants as proxy_operation
use Rattle.td_ops.specs.declared.operation.RegisterOperation.TheVariants as register
use Rattle.td_ops.specs.declared.outcome.Reply.TheVariants as reply
use Rattle.td_store.specs.Candidates.{is_dynamic}
use Rattle.td_store.specs.OfferLists.{is_numbered, most_offers, offer_of, with_properties}
use Rattle.td_store.specs.Stores.{IsOffer, IsStore}
use Rattle.td_store.specs.declared.record.OfferRecord.{OfferRecord}
use Rattle.td_store.specs.declared.record.ProxyPart.{ProxyPart}
use Rattle.td_store.proofs.Limits.{all-filter, rise-filter, with-changed, with-offer, without-offer}
use Rattle.td_store.proofs.Ordering.{found-each}
use Rattle.td_types.specs.Interfaces.{interface_conforms}
use Rattle.td_types.specs.Modes.{is_mandatory, is_readonly}
use Rattle.td_types.specs.Properties.{full_properties}
use Rattle.td_types.specs.Repository.{is_among, type_named}
use Rattle.td_types.specs.declared.entry.ServiceType.{ServiceType}
use Rattle.td_types.proofs.Admitted.{properties-written}
use Rattle.td_types.proofs.Sequences.{each-append, each-filter, each-found, each-map, filter-length, sequence-each}
use Rattle.td_types.proofs.Sequences.{sequence-from}
use Rattle.td_value.specs.Structures.{policy, prop_struct, property}
use Rattle.td_value.specs.declared.structures.Policy.{Policy}
use Rattle.td_value.specs.declared.structures.PropStruct.{PropStruct}
use Rattle.td_value.specs.declared.structures.Property.{Property}
use Rattle.td_register.specs.Causes.{OrRefusal, with_cause, limit_if, raise, raise_if, there, unless_supported}
use Rattle.td_register.specs.Causes.{◌otherwise◌}
use Rattle.td_register.specs.Ids.{id_of, offer_of_id, number_in, offer_numbered, of_ordinary, of_proxies, ordinary}
use Rattle.td_register.specs.Ids.{proxy}
use Rattle.td_register.specs.Named.{type_properties, type_found, open_type, if_unmasked}
use Rattle.td_register.specs.Properties.{carries, is_too_large, mismatches, missing_property, missing_cause}
use Rattle.td_register.specs.Properties.{mode_of, name_cause, properties_cause, value_cause}
use Rattle.td_register.specs.Proxies.{export_proxy_cause, exported_proxy, is_recipe, policies_cause}
use Rattle.td_register.specs.Proxies.{withdraw_proxy_cause}
use Rattle.td_register.specs.Registers.{constraint_found, asked_in, changes_cause, deletion_cause, deletions_cause}
use Rattle.td_register.specs.Registers.{export_cause, exported_offer, interface_cause, is_met, last_number}
use Rattle.td_register.specs.Registers.{modified_properties}
use Rattle.td_register.specs.Registers.{modify_cause, no_more, none_met, offer_cause, offer_changes_cause}
use Rattle.td_register.specs.Registers.{offers_modified, offers_not_met, offers_without, passes_limit, readonly_cause}
use Rattle.td_register.specs.Registers.{replacement_of, with_offer, withdraw_cause, withdraw_met_cause}
use Rattle.td_register.specs.Stores.{Store}
use Rattle.td_changes.specs.Applying.{comes_to}
use Rattle.td_trader_laws.specs.Writable.{IsWritableStore}
use Rattle.td_trader_laws.proofs.Admitting.{AdmitsCause, AdmitsComes, AdmitsFound, came, came-with, decimal-clean}
use Rattle.td_trader_laws.proofs.Admitting.{found-when, given-admitted, limited, or-else, raised, supported}
use Rattle.td_trader_laws.proofs.Admitting.{there-admitted}
use Rattle.td_register.proofs.NoCause.{no-later, no-limit, no_export_cause, no_proxy_cause, small}

abbrev IsText : List ℕ → Type 0
IsText name = text.format.admits name

abbrev AreTexts : List (List ℕ) → Type 0
AreTexts names = AllByRecursion IsText names

abbrev IsProperty : Property → Type 0
IsProperty p = property.format.admits p

abbrev AreProperties : List Property → Type 0
AreProperties ps = AllByRecursion IsProperty ps

abbrev AreDemanded : List PropStruct → Type 0
AreDemanded ds = AllByRecursion prop_struct.format.admits ds

-- what is found, of which nothing is needed
abbrev pub IsAny : {X : Type 0} → X → Type 0
IsAny x = Unit {0}

-- ---- stores with other offers

pub offers-stay : (s : Store) (os : List OfferRecord) → IsWritableStore s → IsStore (record s { offers = os })
    → IsWritableStore (record s { offers = os })
offers-stay s os w v = record {
  store = v;
  numbers = w.numbers;
  last_offer = w.last_offer;
  incarnation = w.incarnation;
}

filtered : (s : Store) (test : OfferRecord → Bool) → IsStore s → IsStore (record s { offers = filter test s.offers })
filtered s test valid = record {
  types = valid.types;
  types_writable = valid.types_writable;
  offers = all-filter IsOffer test s.offers valid.offers;
  offers_rise = rise-filter test s.offers valid.offers_rise;
  offers_counted = all-filter (λ o. (0 < o.number) × (o.number ≤ s.last_offer)) test s.offers valid.offers_counted;
  few_offers = let l = filter-length test s.offers in let f = valid.few_offers in omega (arith, l, f);
  links = valid.links;
  links_named = valid.links_named;
  few_links = valid.few_links;
  attributes = valid.attributes;
}

-- ---- names, types and properties

pub known-type : (types : List ServiceType) (name : List ℕ) → IsText name → AdmitsFound IsAny (type_found types name)
known-type types name n =
    found-when IsAny (word_name name) (there (type_named types name) (user.UnknownServiceType name))
    (raise (user.IllegalServiceType name))
    (there-admitted IsAny (type_named types name) (user.UnknownServiceType name) (name, refl, n) (λ x e. tt))
    (name, refl, n)

open-type : (types : List ServiceType) (name : List ℕ) → IsText name → AdmitsFound IsAny (open_type types name)
open-type types name n =
    found-when IsAny (word_name name) (there (if_unmasked (type_named types name)) (user.UnknownServiceType name))
    (raise (user.IllegalServiceType name))
    (there-admitted IsAny (if_unmasked (type_named types name)) (user.UnknownServiceType name) (name, refl, n) (λ x e. tt))
    (name, refl, n)

pub name-cause : (before : List (List ℕ)) (name : List ℕ) → IsText name → AdmitsCause (name_cause before name)
name-cause before name n =
    or-else (raise_if (not (identifier name)) (user.IllegalPropertyName name))
    (raise_if (is_among name before) (user.DuplicatePropertyName name))
    (raised (not (identifier name)) (user.IllegalPropertyName name) (name, refl, n))
    (raised (is_among name before) (user.DuplicatePropertyName name) (name, refl, n))

value-cause : (supports : Bool) (type_name : List ℕ) (ds : List PropStruct) (p : Property) → IsText type_name
    → IsProperty p → AdmitsCause (value_cause supports type_name ds p)
value-cause supports type_name ds p t h =
    or-else (raise_if (mismatches supports ds p) (user.PropertyTypeMismatch type_name p))
    (raise_if (is_dynamic p.value && is_readonly (mode_of ds p.name)) (user.ReadonlyDynamicProperty type_name p.name))
    (raised (mismatches supports ds p) (user.PropertyTypeMismatch type_name p) ((type_name, p), refl, (t, h)))
    (raised (is_dynamic p.value && is_readonly (mode_of ds p.name)) (user.ReadonlyDynamicProperty type_name p.name)
    ((type_name, p.name), refl, (t, h.0)))

properties-cause : (supports : Bool) (type_name : List ℕ) (ds : List PropStruct) (before : List (List ℕ))
    (ps : List Property) → IsText type_name → AreProperties ps
    → AdmitsCause (properties_cause supports type_name ds before ps)
properties-cause supports type_name ds before [] t h = tt
properties-cause supports type_name ds before (p ∷ ps) t h =
    or-else (name_cause before p.name)
    (value_cause supports type_name ds p otherwise properties_cause supports type_name ds (p.name ∷ before) ps)
    (name-cause before p.name h.0.0)
    (or-else (value_cause supports type_name ds p) (properties_cause supports type_name ds (p.name ∷ before) ps)
    (value-cause supports type_name ds p t h.0) (properties-cause supports type_name ds (p.name ∷ before) ps t h.1))

missing-cause : (type_name : List ℕ) (lacks : Option PropStruct) → IsText type_name
    → ((d : PropStruct) → lacks ≡ Some d → prop_struct.format.admits d) → AdmitsCause (missing_cause type_name lacks)
missing-cause type_name None t h = tt
missing-cause type_name (Some d) t h =
    raised true (user.MissingMandatoryProperty type_name d.name) ((type_name, d.name), refl, (t, (h d refl).0))

-- the full properties of a type
full-each : (s : Store) (name : List ℕ) → IsStore s → AreDemanded (full_properties s.types.types name)
full-each s name valid =
    sequence-each prop_struct (full_properties s.types.types name)
    (properties-written s.types name valid.types_writable)

offer-cause : (s : Store) (type_name : List ℕ) (ps : List Property) → IsStore s → IsText type_name → AreProperties ps
    → AdmitsCause (offer_cause s type_name ps)
offer-cause s type_name ps valid t h =
    let ds = full_properties s.types.types type_name in
    or-else (properties_cause s.attributes.supports_dynamic_properties type_name ds [] ps)
    (missing_cause type_name (missing_property ds ps))
    (properties-cause s.attributes.supports_dynamic_properties type_name ds [] ps t h)
    (missing-cause type_name (missing_property ds ps) t
    (λ d e. each-found prop_struct.format.admits (λ x. is_mandatory x.mode && not (carries ps x.name)) ds d
    (full-each s type_name valid) e))

-- ---- a new offer

-- the next number as an id
next-id : (s : Store) → s.last_offer < last_number → IsText (id_of (s.last_offer + 1))
next-id s h = decimal-clean (s.last_offer + 1) (omega (arith, h))

added : (s : Store) (o : OfferRecord) → IsWritableStore s → o.number ≡ s.last_offer + 1 → IsOffer o
    → length s.offers < most_offers → s.last_offer < last_number → IsWritableStore (with_offer s o)
added s o w is offer few left = record {
  store = with-offer s o w.store offer (omega (arith, is)) few;
  numbers = w.numbers;
  last_offer = omega (arith, is, left);
  incarnation = w.incarnation;
}

pub exports : (s : Store) (object : Ior) (type_name : List ℕ) (ps : List Property) → IsWritableStore s
    → (reference & text & sequence property).format.admits (object, (type_name, ps))
    → AdmitsComes (Register register.Export) (comes_to s (change.Export object type_name ps))
unfolding comes_to
exports s object type_name ps w h =
    let each = sequence-each property ps h.1.1 in
    came-with (Register register.Export) (export_cause s object type_name ps) (reply.Id (id_of (s.last_offer + 1)))
    (with_offer s (exported_offer s object type_name ps))
    (or-else _ _ (raised (is_nil object) (user.InvalidObjectRef object) (object, refl, h.0))
    (or-else _ _
    (given-admitted IsAny (open_type s.types.types type_name) (interface_cause s type_name object)
    (open-type s.types.types type_name h.1.0)
    (λ t _. raised (not (interface_conforms s.types.interfaces object.id t.if_name))
    (user.InterfaceTypeMismatch type_name object) ((type_name, object), refl, (h.1.0, h.0))))
    (or-else _ _ (offer-cause s type_name ps w.store h.1.0 each) (limited (passes_limit s object ps)))))
    (λ none.
    let k = (no_export_cause s object type_name ps none).room in
    let small_enough = small object ps k.fits in
    let offer : IsOffer (exported_offer s object type_name ps) = record {
      properties = small_enough.0;
      bytes = small_enough.1;
      admitted = record { info = h; proxy = tt };
    } in (
      (refl, (id_of (s.last_offer + 1), refl, next-id s k.left)),
      added s (exported_offer s object type_name ps) w refl offer k.few k.left,
    ))

-- ---- a new proxy offer

policies-cause : (before : List (List ℕ)) (ps : List Policy) → AllByRecursion policy.format.admits ps
    → AdmitsCause (policies_cause before ps)
policies-cause before [] h = tt
policies-cause before (p ∷ ps) h =
    or-else (raise_if (is_among p.name before) (user.DuplicatePolicyName p.name)) (policies_cause (p.name ∷ before) ps)
    (raised (is_among p.name before) (user.DuplicatePolicyName p.name) (p.name, refl, h.0.0))
    (policies-cause (p.name ∷ before) ps h.1)

pub exports-proxy : (s : Store) (target : Ior) (type_name : List ℕ) (ps : List Property) (if_match_all : Bool)
    (recipe : List ℕ) (policies : List Policy) → IsWritableStore s
    → (reference & text & sequence property & boolean & text & sequence policy).format.admits
    (target, (type_name, (ps, (if_match_all, (recipe, policies)))))
    → AdmitsComes (Proxy proxy_operation.ExportProxy)
    (comes_to s (change.ExportProxy target type_name ps if_match_all recipe policies))
unfolding comes_to
exports-proxy s target type_name ps if_match_all recipe policies w h =
    let each = sequence-each property ps h.1.1.0 in
    let passed = sequence-each policy policies h.1.1.1.1.1 in
    let part : ProxyPart = record { if_match_all = if_match_all; recipe = recipe; policies = policies } in
    let o = exported_proxy s target type_name ps part in
    came-with (Proxy proxy_operation.ExportProxy) (export_proxy_cause s target type_name ps recipe policies)
    (reply.Id (id_of (s.last_offer + 1))) (with_offer s o)
    (or-else _ _ (supported s.attributes.supports_proxy_offers)
    (or-else _ _
    (given-admitted IsAny (open_type s.types.types type_name) no_more (open-type s.types.types type_name h.1.0)
    (λ t _. tt))
    (or-else _ _ (raised (not (is_some (iiop_of target))) (user.InvalidLookupRef target) (target, refl, h.0))
    (or-else _ _ (offer-cause s type_name ps w.store h.1.0 each)
    (or-else _ _ (raised (not (is_recipe recipe)) (user.IllegalRecipe recipe) (recipe, refl, h.1.1.1.1.0))
    (or-else _ _ (policies-cause [] policies passed) (limited (passes_limit s target ps))))))))
    (λ none.
    let k = (no_proxy_cause s target type_name ps recipe policies none).room in
    let small_enough = small target ps k.fits in
    let offer : IsOffer o = record {
      properties = small_enough.0;
      bytes = small_enough.1;
      admitted = record { info = (h.0, (h.1.0, h.1.1.0)); proxy = (h.1.1.1.1.0, h.1.1.1.1.1) };
    } in (
      (refl, (id_of (s.last_offer + 1), refl, next-id s k.left)),
      added s o w refl offer k.few k.left,
    ))

-- ---- an offer by its id

-- an offer that is found by its number
pub record IsHeld (offers : List OfferRecord) (o : OfferRecord) : Type 0 where
  pub offer : IsOffer o
  pub found : offer_of offers o.number ≡ Some o

numbered-held : (s : Store) (id : List ℕ) (number : Option ℕ) → IsStore s → IsText id
    → AdmitsFound (IsHeld s.offers) (offer_numbered s.offers id number)
numbered-held s id None valid i = (id, refl, i)
numbered-held s id (Some n) valid i =
    there-admitted (IsHeld s.offers) (offer_of s.offers n) (user.UnknownOfferId id) (id, refl, i)
    (λ o e. record {
      offer = each-found IsOffer (is_numbered n) s.offers o valid.offers e;
      found =
          each-found (λ x. offer_of s.offers x.number ≡ Some x) (is_numbered n) s.offers o
          (found-each s.offers valid.offers_rise) e;
    })

ordinary-of : (offers : List OfferRecord) (id : List ℕ) (found : OrRefusal OfferRecord) → IsText id
    → AdmitsFound (IsHeld offers) found → AdmitsFound (IsHeld offers) (of_ordinary id found)
ordinary-of offers id (Err f) i h = h
ordinary-of offers id (Ok o) i h =
    found-when (IsHeld offers) (is_some o.proxy) (raise (user.ProxyOfferId id)) (Ok o) (id, refl, i) h

proxy-of : (offers : List OfferRecord) (id : List ℕ) (found : OrRefusal OfferRecord) → IsText id
    → AdmitsFound (IsHeld offers) found → AdmitsFound (IsHeld offers) (of_proxies id found)
proxy-of offers id (Err f) i h = h
proxy-of offers id (Ok o) i h =
    found-when (IsHeld offers) (is_some o.proxy) (Ok o) (raise (user.NotProxyOfferId id)) h (id, refl, i)

pub ordinary-held : (s : Store) (id : List ℕ) → IsStore s → IsText id
    → AdmitsFound (IsHeld s.offers) (ordinary s.offers id)
ordinary-held s id valid i =
    ordinary-of s.offers id (offer_of_id s.offers id) i (numbered-held s id (number_in id) valid i)

pub proxy-held : (s : Store) (id : List ℕ) → IsStore s → IsText id → AdmitsFound (IsHeld s.offers) (proxy s.offers id)
proxy-held s id valid i =
    proxy-of s.offers id (offer_of_id s.offers id) i (numbered-held s id (number_in id) valid i)

-- ---- withdrawing

left : (s : Store) (number : Option ℕ) → IsWritableStore s
    → IsWritableStore (record s { offers = offers_without s.offers number })
left s None w = w
left s (Some n) w = offers-stay s (offers_without s.offers (Some n)) w (without-offer s n w.store)

pub withdraws : (s : Store) (id : List ℕ) → IsWritableStore s → IsText id
    → AdmitsComes (Register register.Withdraw) (comes_to s (change.Withdraw id))
unfolding comes_to
withdraws s id w i =
    came (Register register.Withdraw) (withdraw_cause s id) reply.Nothing
    (record s { offers = offers_without s.offers (number_in id) })
    (given-admitted (IsHeld s.offers) (ordinary s.offers id) no_more (ordinary-held s id w.store i) (λ o h. tt))
    (refl, refl) (λ none. left s (number_in id) w)

pub withdraws-proxy : (s : Store) (id : List ℕ) → IsWritableStore s → IsText id
    → AdmitsComes (Proxy proxy_operation.WithdrawProxy) (comes_to s (change.WithdrawProxy id))
unfolding comes_to
withdraws-proxy s id w i =
    came (Proxy proxy_operation.WithdrawProxy) (withdraw_proxy_cause s id) reply.Nothing
    (record s { offers = offers_without s.offers (number_in id) })
    (or-else (unless_supported s.attributes.supports_proxy_offers) (with_cause (proxy s.offers id) no_more)
    (supported s.attributes.supports_proxy_offers)
    (given-admitted (IsHeld s.offers) (proxy s.offers id) no_more (proxy-held s id w.store i) (λ o h. tt)))
    (refl, refl) (λ none. left s (number_in id) w)

pub asked-any : (constraint : List ℕ) (r : Result Constraint LangFault) → IsText constraint
    → AdmitsFound IsAny (constraint_found constraint r)
asked-any constraint (Ok c) t = tt
asked-any constraint (Err f) t = (constraint, refl, t)

not-met : (s : Store) (type_name : List ℕ) (found : OrRefusal Constraint) → IsWritableStore s
    → IsWritableStore (record s { offers = offers_not_met s type_name found })
not-met s type_name (Err f) w = w
not-met s type_name (Ok c) w =
    let test : OfferRecord → Bool = λ o. not (is_met s.types.types type_name c o) in
    offers-stay s (filter test s.offers) w (filtered s test w.store)

pub withdraws-met : (s : Store) (type_name constraint : List ℕ) → IsWritableStore s
    → (text & text).format.admits (type_name, constraint)
    → AdmitsComes (Register register.WithdrawUsingConstraint)
    (comes_to s (change.WithdrawUsingConstraint type_name constraint))
unfolding comes_to
withdraws-met s type_name constraint w h =
    let typed = with_cause (type_found s.types.types type_name) no_more in
    let met = with_cause (asked_in constraint) (none_met s type_name constraint) in
    came (Register register.WithdrawUsingConstraint) (withdraw_met_cause s type_name constraint) reply.Nothing
    (record s { offers = offers_not_met s type_name (asked_in constraint) })
    (or-else typed met
    (given-admitted IsAny (type_found s.types.types type_name) no_more (known-type s.types.types type_name h.0) (λ x _. tt))
    (given-admitted IsAny (asked_in constraint) (none_met s type_name constraint)
    (asked-any constraint (constraint_of constraint) h.1)
    (λ c _. raised (not (list_any (is_met s.types.types type_name c) s.offers)) (user.NoMatchingOffers constraint)
    (constraint, refl, h.1))))
    (refl, refl) (λ none. not-met s type_name (asked_in constraint) w)

-- ---- modifying

module _ (ds : List PropStruct) (o : OfferRecord) (t : IsText o.service_type) where
  deletion-cause : (name : List ℕ) → IsText name → AdmitsCause (deletion_cause ds o name)
  deletion-cause name n =
      let unknown = raise_if (not (carries o.properties name)) (user.UnknownPropertyName name) in
      let needed = raise_if (is_mandatory (mode_of ds name)) (user.MandatoryProperty o.service_type name) in
      let fixed = raise_if (is_readonly (mode_of ds name)) (user.ReadonlyProperty o.service_type name) in
      or-else unknown (needed otherwise fixed)
      (raised (not (carries o.properties name)) (user.UnknownPropertyName name) (name, refl, n))
      (or-else needed fixed
      (raised (is_mandatory (mode_of ds name)) (user.MandatoryProperty o.service_type name)
      ((o.service_type, name), refl, (t, n)))
      (raised (is_readonly (mode_of ds name)) (user.ReadonlyProperty o.service_type name)
      ((o.service_type, name), refl, (t, n))))

  deletions-cause : (before names : List (List ℕ)) → AreTexts names → AdmitsCause (deletions_cause ds o before names)
  deletions-cause before [] h = tt
  deletions-cause before (name ∷ names) h =
      or-else (name_cause before name)
      (deletion_cause ds o name otherwise deletions_cause ds o (name ∷ before) names) (name-cause before name h.0)
      (or-else (deletion_cause ds o name) (deletions_cause ds o (name ∷ before) names) (deletion-cause name h.0)
      (deletions-cause (name ∷ before) names h.1))

  changes-cause : (supports : Bool) (before : List (List ℕ)) (ps : List Property) → AreProperties ps
      → AdmitsCause (changes_cause supports ds o before ps)
  changes-cause supports before [] h = tt
  changes-cause supports before (p ∷ ps) h =
      let value = value_cause supports o.service_type ds p in
      let fixed = readonly_cause ds o p.name in
      let rest = changes_cause supports ds o (p.name ∷ before) ps in
      or-else (name_cause before p.name) (value otherwise fixed otherwise rest) (name-cause before p.name h.0.0)
      (or-else value (fixed otherwise rest) (value-cause supports o.service_type ds p t h.0)
      (or-else fixed rest
      (raised (is_readonly (mode_of ds p.name) && carries o.properties p.name)
      (user.ReadonlyProperty o.service_type p.name) ((o.service_type, p.name), refl, (t, h.0.0)))
      (changes-cause supports (p.name ∷ before) ps h.1)))

offer-changes : (s : Store) (deleted : List (List ℕ)) (changed : List Property) (o : OfferRecord) → IsOffer o
    → AreTexts deleted → AreProperties changed → AdmitsCause (offer_changes_cause s deleted changed o)
offer-changes s deleted changed o h d c =
    let ds = type_properties s.types.types o in
    let supports = s.attributes.supports_dynamic_properties in
    let limit = limit_if (is_too_large o.reference (modified_properties o.properties deleted changed)) in
    let t = h.admitted.info.1.0 in
    or-else (deletions_cause ds o [] deleted) (changes_cause supports ds o deleted changed otherwise limit)
    (deletions-cause ds o t [] deleted d)
    (or-else (changes_cause supports ds o deleted changed) limit (changes-cause ds o t supports deleted changed c)
    (limited (is_too_large o.reference (modified_properties o.properties deleted changed))))

given-or : (found : Option Property) (p : Property) → ((q : Property) → found ≡ Some q → IsProperty q) → IsProperty p
    → IsProperty (unwrap_or found p)
given-or None p h k = k
given-or (Some q) p h k = h q refl

renewed-each : (changed : List Property) (p : Property) → AreProperties changed → IsProperty p
    → IsProperty (replacement_of changed p)
renewed-each changed p c h =
    given-or (find (λ q. bytes_eq q.name p.name) changed) p
    (λ q e. each-found IsProperty (λ q. bytes_eq q.name p.name) changed q c e) h

modified-each : (ps : List Property) (deleted : List (List ℕ)) (changed : List Property) → AreProperties ps
    → AreProperties changed → AreProperties (modified_properties ps deleted changed)
modified-each ps deleted changed h c =
    let stay : List Property = filter (λ p. not (is_among p.name deleted)) ps in
    let new : List Property = filter (λ p. not (carries ps p.name)) changed in
    each-append IsProperty (map (replacement_of changed) stay) new
    (each-map IsProperty IsProperty (replacement_of changed) stay (λ p k. renewed-each changed p c k)
    (each-filter IsProperty (λ p. not (is_among p.name deleted)) ps h))
    (each-filter IsProperty (λ p. not (carries ps p.name)) changed c)

some-same : (a b : OfferRecord) → ◌≡◌ {A = Option OfferRecord} (Some a) (Some b) → a ≡ b
some-same a b h = cc

offer-modified : (o : OfferRecord) (ps : List Property) → IsOffer o → AreProperties ps
    → is_too_large o.reference ps ≡ false → IsOffer (record o { properties = ps })
offer-modified o ps h each fits =
    let c = small o.reference ps fits in
    let few = c.0 in
    record {
      properties = c.0;
      bytes = c.1;
      admitted = record {
        info = (h.admitted.info.0, (h.admitted.info.1.0, sequence-from property ps (omega (arith, few)) each));
        proxy = h.admitted.proxy;
      };
    }

modified-stays : (s : Store) (deleted : List (List ℕ)) (changed : List Property) (found : OrRefusal OfferRecord)
    → IsWritableStore s → AreProperties changed → AdmitsFound (IsHeld s.offers) found
    → with_cause found (offer_changes_cause s deleted changed) ≡ None
    → IsWritableStore (record s { offers = offers_modified s.offers deleted changed found })
modified-stays s deleted changed (Err f) w c h none = w
modified-stays s deleted changed (Ok o) w c h none =
    let ds = type_properties s.types.types o in
    let ps = modified_properties o.properties deleted changed in
    let limit = limit_if (is_too_large o.reference ps) in
    let fits =
    no-limit (is_too_large o.reference ps)
    (no-later (changes_cause s.attributes.supports_dynamic_properties ds o deleted changed) limit
    (no-later (deletions_cause ds o [] deleted)
    (changes_cause s.attributes.supports_dynamic_properties ds o deleted changed otherwise limit) none)) in
    let old = sequence-each property o.properties h.offer.admitted.info.1.1 in
    let each = modified-each o.properties deleted changed old c in
    let offer = offer-modified o ps h.offer each fits in
    offers-stay s (with_properties o.number ps s.offers) w
    (with-changed s o.number ps w.store
    (λ x e. subst (λ (y : OfferRecord). IsOffer (record y { properties = ps }))
    (some-same o x (sym h.found ∙ e)) offer))

pub modifies : (s : Store) (id : List ℕ) (deleted : List (List ℕ)) (changed : List Property) → IsWritableStore s
    → (text & sequence text & sequence property).format.admits (id, (deleted, changed))
    → AdmitsComes (Register register.Modify) (comes_to s (change.Modify id deleted changed))
unfolding comes_to
modifies s id deleted changed w h =
    let names = sequence-each text deleted h.1.0 in
    let each = sequence-each property changed h.1.1 in
    let held = ordinary-held s id w.store h.0 in
    let can = raise_if (not s.attributes.supports_modifiable_properties) user.NotImplemented in
    let rest = with_cause (ordinary s.offers id) (offer_changes_cause s deleted changed) in
    came (Register register.Modify) (modify_cause s id deleted changed) reply.Nothing
    (record s { offers = offers_modified s.offers deleted changed (ordinary s.offers id) })
    (or-else can rest (raised (not s.attributes.supports_modifiable_properties) user.NotImplemented refl)
    (given-admitted (IsHeld s.offers) (ordinary s.offers id) (offer_changes_cause s deleted changed) held
    (λ o k. offer-changes s deleted changed o k.offer names each)))
    (refl, refl)
    (λ none. modified-stays s deleted changed (ordinary s.offers id) w each held (no-later can rest none))
