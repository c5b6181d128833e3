-- The queries that a trader passes on: along a path, over a link, and to a proxy offer's trader (OMG's Trading Object
-- Service, "Link Follow Behavior", starting_trader and interface Proxy).
use Rattle.std.specs.Prelude.{ℕ, zero, suc, ◌-◌, nat_le, nat_lt, Bool, true, false, ◌&&◌, not, if◌then◌else◌}
use Rattle.std.specs.Prelude.{List, [], ◌∷◌, length, drop, Option, None, Some, is_some, option_map, option_and_then}
use Rattle.std.specs.Prelude.{codes}
use Rattle.td_eval.specs.Expansion.{expansion}
use Rattle.td_lang.specs.Recipes.{recipe_of}
use Rattle.td_lang.specs.declared.expr.Preference.{Preference}
use Rattle.td_lang.specs.declared.expr.Preference.TheVariants as preference
use Rattle.td_ops.specs.declared.call.Query.{Query}
use Rattle.td_policy.specs.Rules.{follow, lesser, pass_on}
use Rattle.td_store.specs.declared.local.Local.{Local}
use Rattle.td_store.specs.declared.record.LinkRecord.{LinkRecord}
use Rattle.td_store.specs.declared.record.OfferRecord.{OfferRecord}
use Rattle.td_store.specs.declared.record.ProxyPart.{ProxyPart}
use Rattle.td_value.specs.declared.enumerations.FollowOption.{FollowOption}
use Rattle.td_value.specs.declared.enumerations.FollowOption.TheVariants.{LocalOnly, IfNoLocal, Always}
use Rattle.td_value.specs.declared.structures.Policy.{Policy}
use Rattle.td_value.specs.declared.unions.SpecifiedProps.TheVariants as props
use Rattle.td_walk.specs.Passing.{with_search_policies, along_path, with_all_passed}
use Rattle.td_walk.specs.declared.answer.Next.{Next}
use Rattle.td_walk.specs.declared.answer.Next.TheVariants.{Forward}

-- ---- what every sub-query has

-- how many offers a sub-query asks for at once
abbrev pub asked_at_once : ℕ
asked_at_once = 1000

-- random offers are drawn where the query began
abbrev pub passed_preference : Preference → (text : List ℕ) → List ℕ
passed_preference preference.Random text = codes "first"
passed_preference other text = text

-- the query with a constraint and these policies, for all properties
abbrev pub sub_query_with : Local → (constraint : List ℕ) → List Policy → Query
sub_query_with l constraint policies = record {
  service_type = l.query.service_type;
  constraint = constraint;
  preference = passed_preference l.preference l.query.preference;
  policies = policies;
  desired = props.All;
  how_many = asked_at_once;
}

-- ---- along a path

abbrev pub rest_of : {A : Type 0} → List A → List A
rest_of [] = []
rest_of (x ∷ xs) = xs

-- the names of starting_trader behind the first
abbrev pub path_left : Option (List (List ℕ)) → List (List ℕ)
path_left None = []
path_left (Some names) = rest_of names

unfoldable pub path_query : Local → Query
path_query l = sub_query_with l l.query.constraint
    (along_path (path_left l.stated.start) l.query.policies)

-- ---- how many offers are still wanted

-- the offers are in the order in which they are gathered
abbrev pub keeps_order : Preference → Bool
keeps_order preference.Empty = true
keeps_order preference.First = true
keeps_order other = false

-- So many, once these are gathered. Where the offers get another order, all that there are.
abbrev pub wanted_behind : Local → (gathered : ℕ) → Option ℕ
wanted_behind l gathered = if keeps_order l.preference then Some
    (l.effective.return_card - gathered) else None

-- enough offers are there
abbrev pub is_full : (wanted : Option ℕ) → Bool
is_full None = false
is_full (Some zero) = true
is_full (Some (suc n)) = false

-- ---- over a link

unfoldable pub link_query : Local → (wanted : Option ℕ) → LinkRecord → Query
link_query l wanted link =
    sub_query_with l l.query.constraint
    (with_search_policies l.effective.hops
    (Some (pass_on l.stated l.attributes link.limiting link.def_pass_on))
    l.identifier wanted l.query.policies)

-- a link's rule lets it be followed
abbrev pub lets_follow : (local_match : Bool) → FollowOption → Bool
lets_follow local_match LocalOnly = false
lets_follow true IfNoLocal = false
lets_follow false IfNoLocal = true
lets_follow local_match Always = true

abbrev pub has_hops : Local → Bool
has_hops l = nat_lt 0 l.effective.hops

-- a link is followed where there are hops, and its rule lets it
abbrev pub follows : Local → (local_match : Bool) → LinkRecord → Bool
follows l local_match link = has_hops l
    && lets_follow local_match (follow l.stated l.attributes link.limiting)

-- and while offers are wanted
unfoldable pub link_step : Local → (wanted : Option ℕ) → (local_match : Bool) → LinkRecord
    → Option Next
link_step l wanted local_match link =
    if not (is_full wanted) && follows l local_match link then Some
    (Forward link.target (link_query l wanted link))
    else None

-- ---- to a proxy offer's trader

-- what the recipe makes of the importer's constraint and the offer's properties as they were exported
unfoldable pub expansion_of : (constraint : List ℕ) → OfferRecord → ProxyPart → Option (List ℕ)
expansion_of constraint o part = option_and_then (expansion constraint o.properties)
    (recipe_of part.recipe)

-- the rule that is passed on where one is stated
abbrev pub stated_rule : Option FollowOption → (maximum : FollowOption) → Option FollowOption
stated_rule stated maximum = option_map (λ r. lesser r maximum) stated

unfoldable pub proxy_query : Local → (wanted : Option ℕ) → ProxyPart → (constraint : List ℕ) → Query
proxy_query l wanted part constraint =
    sub_query_with l constraint
    (with_all_passed (is_some wanted) part.policies
    (with_search_policies l.effective.hops
    (stated_rule l.stated.follow l.attributes.max_follow_policy)
    l.identifier wanted l.query.policies))

abbrev pub call_of : Local → (wanted : Option ℕ) → OfferRecord → ProxyPart → Option Next
call_of l wanted o part =
    if not (is_full wanted) && has_hops l then
    option_map (λ text. Forward o.reference (proxy_query l wanted part text))
    (expansion_of l.query.constraint o part)
    else None

-- a proxy offer that matched is called while offers are wanted, where there are hops and its recipe expands
abbrev pub proxy_call : Local → (wanted : Option ℕ) → OfferRecord → Option ProxyPart → Option Next
proxy_call l wanted o None = None
proxy_call l wanted o (Some part) = call_of l wanted o part

unfoldable pub proxy_step : Local → (wanted : Option ℕ) → OfferRecord → Option Next
proxy_step l wanted o = proxy_call l wanted o o.proxy
