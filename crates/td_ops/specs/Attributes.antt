-- The attributes by their names, and the interfaces that declare them (OMG's Trading Object Service, interfaces
-- TraderComponents, SupportAttributes, ImportAttributes, LinkAttributes, Admin and ServiceTypeRepository).
use Rattle.std.specs.Prelude.{ℕ, List, [], ◌∷◌, codes}
use Rattle.td_ops.specs.declared.attribute.ReferenceAttribute.{ReferenceAttribute}
use Rattle.td_ops.specs.declared.attribute.ReferenceAttribute.TheVariants as reference
use Rattle.td_ops.specs.declared.attribute.TruthAttribute.{TruthAttribute}
use Rattle.td_ops.specs.declared.attribute.TruthAttribute.TheVariants as truth
use Rattle.td_ops.specs.declared.attribute.NumberAttribute.{NumberAttribute}
use Rattle.td_ops.specs.declared.attribute.NumberAttribute.TheVariants as number
use Rattle.td_ops.specs.declared.attribute.FollowAttribute.{FollowAttribute}
use Rattle.td_ops.specs.declared.attribute.FollowAttribute.TheVariants as follow
use Rattle.td_ops.specs.declared.attribute.Attribute.{Attribute}
use Rattle.td_ops.specs.declared.attribute.Attribute.TheVariants.{Reference, Truth, Number, Follow, RequestIdStem}
use Rattle.td_ops.specs.declared.attribute.Attribute.TheVariants.{Incarnation}

-- ---- names

abbrev pub reference_name : ReferenceAttribute → List ℕ
reference_name reference.LookupIf = codes "lookup_if"
reference_name reference.RegisterIf = codes "register_if"
reference_name reference.LinkIf = codes "link_if"
reference_name reference.ProxyIf = codes "proxy_if"
reference_name reference.AdminIf = codes "admin_if"
reference_name reference.TypeRepos = codes "type_repos"

abbrev pub truth_name : TruthAttribute → List ℕ
truth_name truth.SupportsModifiableProperties = codes "supports_modifiable_properties"
truth_name truth.SupportsDynamicProperties = codes "supports_dynamic_properties"
truth_name truth.SupportsProxyOffers = codes "supports_proxy_offers"

abbrev pub number_name : NumberAttribute → List ℕ
number_name number.DefSearchCard = codes "def_search_card"
number_name number.MaxSearchCard = codes "max_search_card"
number_name number.DefMatchCard = codes "def_match_card"
number_name number.MaxMatchCard = codes "max_match_card"
number_name number.DefReturnCard = codes "def_return_card"
number_name number.MaxReturnCard = codes "max_return_card"
number_name number.MaxList = codes "max_list"
number_name number.DefHopCount = codes "def_hop_count"
number_name number.MaxHopCount = codes "max_hop_count"

abbrev pub follow_name : FollowAttribute → List ℕ
follow_name follow.DefFollowPolicy = codes "def_follow_policy"
follow_name follow.MaxFollowPolicy = codes "max_follow_policy"
follow_name follow.MaxLinkFollowPolicy = codes "max_link_follow_policy"

abbrev pub attribute_name : Attribute → List ℕ
attribute_name (Reference a) = reference_name a
attribute_name (Truth a) = truth_name a
attribute_name (Number a) = number_name a
attribute_name (Follow a) = follow_name a
attribute_name RequestIdStem = codes "request_id_stem"
attribute_name Incarnation = codes "incarnation"

-- ---- what each interface declares

abbrev pub trader_components : List Attribute
trader_components =
    Reference reference.LookupIf ∷ Reference reference.RegisterIf ∷ Reference reference.LinkIf
    ∷ Reference reference.ProxyIf ∷ Reference reference.AdminIf ∷ []

abbrev pub support_attributes : List Attribute
support_attributes =
    Truth truth.SupportsModifiableProperties ∷ Truth truth.SupportsDynamicProperties
    ∷ Truth truth.SupportsProxyOffers ∷ Reference reference.TypeRepos ∷ []

abbrev pub import_attributes : List Attribute
import_attributes =
    Number number.DefSearchCard ∷ Number number.MaxSearchCard ∷ Number number.DefMatchCard
    ∷ Number number.MaxMatchCard
    ∷ Number number.DefReturnCard ∷ Number number.MaxReturnCard ∷ Number number.MaxList
    ∷ Number number.DefHopCount
    ∷ Number number.MaxHopCount ∷ Follow follow.DefFollowPolicy ∷ Follow follow.MaxFollowPolicy ∷ []

abbrev pub link_attributes : List Attribute
link_attributes = Follow follow.MaxLinkFollowPolicy ∷ []

-- ---- what Admin sets, by the types of the values

abbrev pub truths_set : List TruthAttribute
truths_set = truth.SupportsModifiableProperties ∷ truth.SupportsDynamicProperties
    ∷ truth.SupportsProxyOffers ∷ []

abbrev pub numbers_set : List NumberAttribute
numbers_set =
    number.DefSearchCard ∷ number.MaxSearchCard ∷ number.DefMatchCard ∷ number.MaxMatchCard
    ∷ number.DefReturnCard
    ∷ number.MaxReturnCard ∷ number.MaxList ∷ number.DefHopCount ∷ number.MaxHopCount ∷ []

abbrev pub follows_set : List FollowAttribute
follows_set = follow.DefFollowPolicy ∷ follow.MaxFollowPolicy ∷ follow.MaxLinkFollowPolicy ∷ []
