-- What Admin sets and lists, and the attributes that all objects tell (OMG's Trading Object Service, interfaces
-- TraderComponents, SupportAttributes, ImportAttributes, LinkAttributes and Admin).
use Rattle.std.specs.Prelude.{ℕ, nat_lt, Bool, true, false, if◌then◌else◌, List, length, map, filter}
use Rattle.td_typecode.specs.declared.reference.Ior.{Ior}
use Rattle.td_exceptions.specs.declared.exception.UserException.TheVariants.{NotImplemented}
use Rattle.td_ior.specs.Nil.{nil}
use Rattle.td_policy.specs.declared.attributes.Attributes.{Attributes}
use Rattle.td_types.specs.Repository.{halves}
use Rattle.td_value.specs.declared.enumerations.FollowOption.{FollowOption}
use Rattle.td_ops.specs.declared.attribute.Attribute.{Attribute}
use Rattle.td_ops.specs.declared.attribute.Attribute.TheVariants as attribute
use Rattle.td_ops.specs.declared.attribute.FollowAttribute.{FollowAttribute}
use Rattle.td_ops.specs.declared.attribute.FollowAttribute.TheVariants.{DefFollowPolicy, MaxFollowPolicy}
use Rattle.td_ops.specs.declared.attribute.FollowAttribute.TheVariants.{MaxLinkFollowPolicy}
use Rattle.td_ops.specs.declared.attribute.NumberAttribute.{NumberAttribute}
use Rattle.td_ops.specs.declared.attribute.NumberAttribute.TheVariants.{DefSearchCard, MaxSearchCard, DefMatchCard}
use Rattle.td_ops.specs.declared.attribute.NumberAttribute.TheVariants.{MaxMatchCard, DefReturnCard, MaxReturnCard}
use Rattle.td_ops.specs.declared.attribute.NumberAttribute.TheVariants.{MaxList, DefHopCount, MaxHopCount}
use Rattle.td_ops.specs.declared.attribute.ReferenceAttribute.{ReferenceAttribute}
use Rattle.td_ops.specs.declared.attribute.ReferenceAttribute.TheVariants.{LookupIf, RegisterIf, LinkIf, ProxyIf}
use Rattle.td_ops.specs.declared.attribute.ReferenceAttribute.TheVariants.{AdminIf, TypeRepos}
use Rattle.td_ops.specs.declared.attribute.TruthAttribute.{TruthAttribute}
use Rattle.td_ops.specs.declared.attribute.TruthAttribute.TheVariants.{SupportsModifiableProperties}
use Rattle.td_ops.specs.declared.attribute.TruthAttribute.TheVariants.{SupportsDynamicProperties, SupportsProxyOffers}
use Rattle.td_ops.specs.declared.outcome.Outcome.{Outcome}
use Rattle.td_ops.specs.declared.outcome.Outcome.TheVariants.{Done, User}
use Rattle.td_ops.specs.declared.outcome.Reply.{Reply}
use Rattle.td_ops.specs.declared.outcome.Reply.TheVariants as reply
use Rattle.td_store.specs.OfferLists.{is_of_kind}
use Rattle.td_store.specs.declared.record.OfferRecord.{OfferRecord}
use Rattle.td_register.specs.Causes.{Cause, limit_if}
use Rattle.td_register.specs.Ids.{id_of}
use Rattle.td_register.specs.Stores.{Store}

-- ---- the attributes' values

abbrev pub reference_of : ReferenceAttribute → Attributes → Ior
reference_of LookupIf a = a.lookup_if
reference_of RegisterIf a = a.register_if
reference_of LinkIf a = a.link_if
reference_of ProxyIf a = a.proxy_if
reference_of AdminIf a = a.admin_if
reference_of TypeRepos a = a.type_repos

abbrev pub truth_of : TruthAttribute → Attributes → Bool
truth_of SupportsModifiableProperties a = a.supports_modifiable_properties
truth_of SupportsDynamicProperties a = a.supports_dynamic_properties
truth_of SupportsProxyOffers a = a.supports_proxy_offers

abbrev pub number_of : NumberAttribute → Attributes → ℕ
number_of DefSearchCard a = a.def_search_card
number_of MaxSearchCard a = a.max_search_card
number_of DefMatchCard a = a.def_match_card
number_of MaxMatchCard a = a.max_match_card
number_of DefReturnCard a = a.def_return_card
number_of MaxReturnCard a = a.max_return_card
number_of MaxList a = a.max_list
number_of DefHopCount a = a.def_hop_count
number_of MaxHopCount a = a.max_hop_count

abbrev pub follow_of : FollowAttribute → Attributes → FollowOption
follow_of DefFollowPolicy a = a.def_follow_policy
follow_of MaxFollowPolicy a = a.max_follow_policy
follow_of MaxLinkFollowPolicy a = a.max_link_follow_policy

-- ---- the attributes with another value

abbrev pub with_truth : TruthAttribute → Bool → Attributes → Attributes
with_truth SupportsModifiableProperties v a = record a { supports_modifiable_properties = v }
with_truth SupportsDynamicProperties v a = record a { supports_dynamic_properties = v }
with_truth SupportsProxyOffers v a = record a { supports_proxy_offers = v }

abbrev pub with_number : NumberAttribute → ℕ → Attributes → Attributes
with_number DefSearchCard v a = record a { def_search_card = v }
with_number MaxSearchCard v a = record a { max_search_card = v }
with_number DefMatchCard v a = record a { def_match_card = v }
with_number MaxMatchCard v a = record a { max_match_card = v }
with_number DefReturnCard v a = record a { def_return_card = v }
with_number MaxReturnCard v a = record a { max_return_card = v }
with_number MaxList v a = record a { max_list = v }
with_number DefHopCount v a = record a { def_hop_count = v }
with_number MaxHopCount v a = record a { max_hop_count = v }

abbrev pub with_follow : FollowAttribute → FollowOption → Attributes → Attributes
with_follow DefFollowPolicy v a = record a { def_follow_policy = v }
with_follow MaxFollowPolicy v a = record a { max_follow_policy = v }
with_follow MaxLinkFollowPolicy v a = record a { max_link_follow_policy = v }

abbrev pub with_stem : List ℕ → Attributes → Attributes
with_stem v a = record a { request_id_stem = v }

-- ---- set_: each answers the old value

abbrev pub set_attributes : Store → Attributes → Store
set_attributes s a = record s { attributes = a }

abbrev pub longest_stem : ℕ
longest_stem = 64

abbrev pub stem_cause : List ℕ → Cause
stem_cause v = limit_if (nat_lt longest_stem (length v))

-- ---- an attribute is read

abbrev pub attribute_reply : Store → Attribute → Reply
attribute_reply s (attribute.Reference which) = reply.Reference (reference_of which s.attributes)
attribute_reply s (attribute.Truth which) = reply.Truth (truth_of which s.attributes)
attribute_reply s (attribute.Number which) = reply.Number (number_of which s.attributes)
attribute_reply s (attribute.Follow which) = reply.Follow (follow_of which s.attributes)
attribute_reply s attribute.RequestIdStem = reply.Stem s.attributes.request_id_stem
attribute_reply s attribute.Incarnation = reply.Incarnation (halves s.types.last)

unfoldable pub get : Store → Attribute → Outcome
get s which = Done (attribute_reply s which)

-- ---- list_offers, list_proxies: every id, by rising number, and a nil iterator

abbrev pub ids_of : (proxies : Bool) → List OfferRecord → List (List ℕ)
ids_of proxies offers = map (λ o. id_of o.number) (filter (is_of_kind proxies) offers)

abbrev pub all_ids : (proxies : Bool) → Store → Outcome
all_ids proxies s = Done (reply.Ids (ids_of proxies s.offers) nil)

unfoldable pub list_offers : Store → Outcome
list_offers s = all_ids false s

unfoldable pub list_proxies : Store → Outcome
list_proxies s = if s.attributes.supports_proxy_offers then all_ids true s else User NotImplemented
