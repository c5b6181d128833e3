-- What holds where no cause is met.
use Rattle.std.proofs.Common.{◌≡◌, ◌<◌, ◌≤◌, ◌||◌, ℕ, Bool, true, false, not, is_some, List, [], None, Some, length}
use Rattle.std.proofs.Common.{nat_le, nat_lt, refl, ltb-false}
use Rattle.std.proofs.lemmas.Bool.{leb-false}
use Rattle.td_typecode.specs.declared.reference.Ior.{Ior}
use Rattle.td_exceptions.specs.declared.exception.UserException.{UserException}
use Rattle.td_exceptions.specs.declared.exception.UserException.TheVariants as user
use Rattle.td_ior.specs.Nil.{is_nil}
use Rattle.td_ior.specs.Profiles.{iiop_of}
use Rattle.td_store.specs.OfferLists.{most_offers}
use Rattle.td_store.specs.Stores.{most_bytes, most_properties}
use Rattle.td_value.specs.declared.structures.Policy.{Policy}
use Rattle.td_value.specs.declared.structures.Property.{Property}
use Rattle.td_register.specs.Causes.{Cause, with_cause, limit_if, raise_if, unless_supported, ◌otherwise◌}
use Rattle.td_register.specs.Named.{open_type}
use Rattle.td_register.specs.Properties.{encoded_size, is_too_large}
use Rattle.td_register.specs.Proxies.{export_proxy_cause, is_recipe, policies_cause}
use Rattle.td_register.specs.Registers.{export_cause, interface_cause, last_number, no_more, offer_cause, passes_limit}
use Rattle.td_register.specs.Stores.{Store}

-- ---- one cause, and the ones behind it

pub no-first : (a b : Cause) → (a otherwise b) ≡ None → a ≡ None
no-first None b h = refl
no-first (Some f) b h = absurd (let bad : ⊥ = cc in bad)

pub no-later : (a b : Cause) → (a otherwise b) ≡ None → b ≡ None
no-later None b h = h
no-later (Some f) b h = absurd (let bad : ⊥ = cc in bad)

pub no-limit : (passed : Bool) → limit_if passed ≡ None → passed ≡ false
no-limit true h = absurd (let bad : ⊥ = cc in bad)
no-limit false h = refl

pub not-raised : (so : Bool) (e : UserException) → raise_if so e ≡ None → so ≡ false
not-raised true e h = absurd (let bad : ⊥ = cc in bad)
not-raised false e h = refl

pub nothing-later : (a : Cause) → (a otherwise limit_if false) ≡ a
nothing-later None = refl
nothing-later (Some f) = refl

-- ---- truth values

pub two-false : (a b : Bool) → (a || b) ≡ false → (a ≡ false) × (b ≡ false)
two-false true b h = absurd (let bad : ⊥ = cc in bad)
two-false false b h = (refl, h)

pub three-false : (a b c : Bool) → (a || b || c) ≡ false → (a ≡ false) × (b ≡ false) × (c ≡ false)
three-false true b c h = absurd (let bad : ⊥ = cc in bad)
three-false false true c h = absurd (let bad : ⊥ = cc in bad)
three-false false false c h = (refl, refl, h)

-- ---- the limits of a new offer

pub small : (object : Ior) (ps : List Property) → is_too_large object ps ≡ false
    → (length ps ≤ most_properties) × (encoded_size object ps ≤ most_bytes)
small object ps h =
    let b = two-false (nat_lt most_properties (length ps)) (nat_lt most_bytes (encoded_size object ps)) h in
    (ltb-false most_properties (length ps) b.0, ltb-false most_bytes (encoded_size object ps) b.1)

-- one offer more, and one number, are left; and the offer is small
pub record HasRoomFor (s : Store) (object : Ior) (ps : List Property) : Type 0 where
  pub few : length s.offers < most_offers
  pub left : s.last_offer < last_number
  pub fits : is_too_large object ps ≡ false

pub within : (s : Store) (object : Ior) (ps : List Property) → limit_if (passes_limit s object ps) ≡ None
    → HasRoomFor s object ps
within s object ps h =
    let b =
    three-false (nat_le most_offers (length s.offers)) (nat_le last_number s.last_offer) (is_too_large object ps)
    (no-limit (passes_limit s object ps) h) in
    record {
      few = leb-false most_offers (length s.offers) b.0;
      left = leb-false last_number s.last_offer b.1;
      fits = b.2;
    }

-- ---- the causes of exports, one by one

module _ (s : Store) (object : Ior) (type_name : List ℕ) (ps : List Property) where
  pub record NoExportCause : Type 0 where
    pub target : is_nil object ≡ false
    pub typed : with_cause (open_type s.types.types type_name) (interface_cause s type_name object) ≡ None
    pub offer : offer_cause s type_name ps ≡ None
    pub room : HasRoomFor s object ps

  pub no_export_cause : export_cause s object type_name ps ≡ None → NoExportCause
  no_export_cause h =
      let nil = raise_if (is_nil object) (user.InvalidObjectRef object) in
      let typed = with_cause (open_type s.types.types type_name) (interface_cause s type_name object) in
      let offer = offer_cause s type_name ps in
      let limit = limit_if (passes_limit s object ps) in
      let behind = no-later nil (typed otherwise offer otherwise limit) h in
      let last = no-later typed (offer otherwise limit) behind in
      record {
        target = not-raised (is_nil object) (user.InvalidObjectRef object)
            (no-first nil (typed otherwise offer otherwise limit) h);
        typed = no-first typed (offer otherwise limit) behind;
        offer = no-first offer limit last;
        room = within s object ps (no-later offer limit last);
      }

  module _ (recipe : List ℕ) (policies : List Policy) where
    pub record NoProxyCause : Type 0 where
      pub typed : with_cause (open_type s.types.types type_name) no_more ≡ None
      pub offer : offer_cause s type_name ps ≡ None
      pub room : HasRoomFor s object ps

    pub no_proxy_cause : export_proxy_cause s object type_name ps recipe policies ≡ None → NoProxyCause
    no_proxy_cause h =
        let can = unless_supported s.attributes.supports_proxy_offers in
        let typed = with_cause (open_type s.types.types type_name) no_more in
        let reached = raise_if (not (is_some (iiop_of object))) (user.InvalidLookupRef object) in
        let offer = offer_cause s type_name ps in
        let spelled = raise_if (not (is_recipe recipe)) (user.IllegalRecipe recipe) in
        let named = policies_cause [] policies in
        let limit = limit_if (passes_limit s object ps) in
        let a = no-later can (typed otherwise reached otherwise offer otherwise spelled otherwise named otherwise limit)
        h in
        let b = no-later typed (reached otherwise offer otherwise spelled otherwise named otherwise limit) a in
        let c = no-later reached (offer otherwise spelled otherwise named otherwise limit) b in
        let d = no-later offer (spelled otherwise named otherwise limit) c in
        record {
          typed = no-first typed (reached otherwise offer otherwise spelled otherwise named otherwise limit) a;
          offer = no-first offer (spelled otherwise named otherwise limit) c;
          room = within s object ps (no-later named limit (no-later spelled (named otherwise limit) d));
        }
