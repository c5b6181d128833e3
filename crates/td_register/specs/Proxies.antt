-- Proxy offers (OMG's Trading Object Service, interface Proxy).
use Rattle.std.specs.Prelude.{ℕ, Bool, false, not, is_some, if◌then◌else◌, List, [], ◌∷◌, Option, None, Some}
use Rattle.td_typecode.specs.declared.reference.Ior.{Ior}
use Rattle.td_exceptions.specs.declared.exception.UserException.TheVariants.{InvalidLookupRef, IllegalRecipe}
use Rattle.td_exceptions.specs.declared.exception.UserException.TheVariants.{DuplicatePolicyName}
use Rattle.td_ior.specs.Profiles.{iiop_of}
use Rattle.td_lang.specs.Recipes.{recipe_of}
use Rattle.td_types.specs.Repository.{is_among}
use Rattle.td_value.specs.declared.structures.Policy.{Policy}
use Rattle.td_value.specs.declared.structures.Property.{Property}
use Rattle.td_value.specs.declared.structures.ProxyInfo.{ProxyInfo}
use Rattle.td_ops.specs.declared.outcome.Outcome.{Outcome}
use Rattle.td_ops.specs.declared.outcome.Reply.TheVariants as reply
use Rattle.td_register.specs.declared.refusal.Refusal.TheVariants.{NotSupported}
use Rattle.td_store.specs.declared.record.OfferRecord.{OfferRecord}
use Rattle.td_store.specs.declared.record.ProxyPart.{ProxyPart}
use Rattle.td_register.specs.Causes.{Cause, refusal_outcome, raise_if, limit_if, unless_supported, ◌otherwise◌}
use Rattle.td_register.specs.Causes.{with_cause, tells}
use Rattle.td_register.specs.Ids.{proxy}
use Rattle.td_register.specs.Named.{open_type}
use Rattle.td_register.specs.Registers.{offer_cause, passes_limit, exported_offer, no_more}
use Rattle.td_register.specs.Stores.{Store}

-- ---- recipes

unfoldable pub is_recipe : List ℕ → Bool
is_recipe text = is_some (recipe_of text)

-- ---- export_proxy

-- the first policy whose name stands before
abbrev pub policies_cause : (before : List (List ℕ)) → List Policy → Cause
policies_cause before [] = None
policies_cause before (p ∷ ps) =
    raise_if (is_among p.name before) (DuplicatePolicyName p.name)
    otherwise policies_cause (p.name ∷ before) ps

abbrev pub export_proxy_cause : Store → Ior → (type_name : List ℕ) → List Property
    → (recipe : List ℕ) → List Policy → Cause
export_proxy_cause s target type_name properties recipe policies =
    unless_supported s.attributes.supports_proxy_offers
    otherwise with_cause (open_type s.types.types type_name) no_more
    otherwise raise_if (not (is_some (iiop_of target))) (InvalidLookupRef target)
    otherwise offer_cause s type_name properties
    otherwise raise_if (not (is_recipe recipe)) (IllegalRecipe recipe)
    otherwise policies_cause [] policies
    otherwise limit_if (passes_limit s target properties)

abbrev pub exported_proxy : Store → Ior → (type_name : List ℕ) → List Property → ProxyPart
    → OfferRecord
exported_proxy s target type_name properties part =
    record (exported_offer s target type_name properties) {
      proxy = Some
          part;
    }

-- ---- withdraw_proxy

abbrev pub withdraw_proxy_cause : Store → List ℕ → Cause
withdraw_proxy_cause s id = unless_supported s.attributes.supports_proxy_offers otherwise with_cause
    (proxy s.offers id) no_more

-- ---- describe_proxy

abbrev pub proxy_info_of : OfferRecord → Option ProxyPart → ProxyInfo
proxy_info_of o None = record {
  service_type = o.service_type;
  target = o.reference;
  properties = o.properties;
  if_match_all = false;
  recipe = [];
  policies_to_pass_on = [];
}
proxy_info_of o (Some part) = record {
  service_type = o.service_type;
  target = o.reference;
  properties = o.properties;
  if_match_all = part.if_match_all;
  recipe = part.recipe;
  policies_to_pass_on = part.policies;
}

abbrev pub proxy_info : OfferRecord → ProxyInfo
proxy_info o = proxy_info_of o o.proxy

abbrev pub if_supported : Bool → Outcome → Outcome
if_supported supported outcome = if supported then outcome else refusal_outcome NotSupported

unfoldable pub describe_proxy : Store → List ℕ → Outcome
describe_proxy s id =
    if_supported s.attributes.supports_proxy_offers
    (tells (proxy s.offers id) (λ o. reply.Proxy (proxy_info o)))
