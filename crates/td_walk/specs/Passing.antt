-- The policies that are passed on (OMG's Trading Object Service, "Policies", "Link Follow Behavior" and interface
-- Proxy, policies_to_pass_on).
use Rattle.std.specs.Prelude.{ℕ, nat_lt, ◌-◌, Bool, true, false, ◌&&◌, not, if◌then◌else◌, List, [], ◌∷◌, Option}
use Rattle.std.specs.Prelude.{None, Some}
use Rattle.std.specs.Prelude.{codes}
use Rattle.std.specs.Prelude.{filter, fold, option_map}
use Rattle.std.specs.List.{find}
use Rattle.std.specs.Str.{bytes_eq}
use Rattle.td_typecode.specs.Same.{same}
use Rattle.td_value.specs.Enumerations.{follow_option_number}
use Rattle.td_value.specs.declared.enumerations.FollowOption.{FollowOption}
use Rattle.td_value.specs.declared.structures.Policy.{Policy}
use Rattle.td_policy.specs.Values.{PolicyKind, number, rule, texts, octets, policy}

-- ---- one policy in a list

abbrev pub is_named : (name : List ℕ) → Policy → Bool
is_named name p = bytes_eq p.name name

abbrev pub policy_named : List Policy → (name : List ℕ) → Option Policy
policy_named ps name = find (is_named name) ps

-- the policy in the place of the one of its name, or else at the end
abbrev pub with_policy : Policy → List Policy → List Policy
with_policy p [] = p ∷ []
with_policy p (q ∷ qs) = if is_named p.name q then p ∷ qs else q ∷ with_policy p qs

abbrev pub with_optional : Option Policy → List Policy → List Policy
with_optional None ps = ps
with_optional (Some p) ps = with_policy p ps

abbrev pub without_policy : (name : List ℕ) → List Policy → List Policy
without_policy name ps = filter (λ p. not (is_named name p)) ps

-- ---- what is replaced

abbrev pub hop_policy : ℕ → Policy
hop_policy hops = policy number (codes "hop_count") hops

abbrev pub follow_policy : FollowOption → Policy
follow_policy r = policy rule (codes "link_follow_rule") r

abbrev pub identifier_policy : List ℕ → Policy
identifier_policy id = policy (octets 256) (codes "request_id") id

abbrev pub start_policy : List (List ℕ) → Policy
start_policy names = policy (texts 64) (codes "starting_trader") names

abbrev pub card_policy : ℕ → Policy
card_policy offers = policy number (codes "return_card") offers

-- Over a link, and to a proxy offer's trader: the path is taken out, one hop is taken, a rule is stated where there is
-- one, the identifier is the search's, and where so many offers are still wanted, no more are to be returned.
abbrev pub with_search_policies : (hops : ℕ) → Option FollowOption → (identifier : Option (List ℕ))
    → (wanted : Option ℕ) → List Policy → List Policy
with_search_policies hops follow identifier wanted ps =
    with_optional (option_map card_policy wanted)
    (with_optional (option_map identifier_policy identifier)
    (with_optional (option_map follow_policy follow)
    (with_policy (hop_policy (hops - 1)) (without_policy (codes "starting_trader") ps))))

-- along a path: the names that are left
abbrev pub along_path : (left : List (List ℕ)) → List Policy → List Policy
along_path [] ps = without_policy (codes "starting_trader") ps
along_path (name ∷ names) ps = with_policy (start_policy (name ∷ names)) ps

-- ---- policies_to_pass_on

-- the number that a policy of this type states
abbrev pub value_in : {A : Type 0} → PolicyKind A → Policy → Option A
value_in kind p = if same p.value.code kind.code then kind.value_of p.value.value else None

abbrev pub number_in : Policy → Option ℕ
number_in p = value_in number p

abbrev pub follow_in : Policy → Option ℕ
follow_in p = option_map follow_option_number (value_in rule p)

-- what states no number counts as less, and the one that reads it refuses it
abbrev pub is_less : Option ℕ → Option ℕ → Bool
is_less None n = true
is_less (Some m) None = false
is_less (Some m) (Some n) = nat_lt m n

-- the earlier policy states less
abbrev pub states_less : (Policy → Option ℕ) → (earlier : Option Policy) → (later : Policy) → Bool
states_less measure None later = false
states_less measure (Some earlier) later = is_less (measure earlier) (measure later)

-- What stands in a sub-query is kept: its identifier, and the lesser of two hop counts, of two rules and, where the
-- offers that are wanted are limited, of two numbers of offers to be returned.
abbrev pub stands : (limited : Bool) → List Policy → Policy → Bool
stands limited ps p =
    if is_named (codes "request_id") p then true
    else if is_named (codes "hop_count") p then states_less number_in
    (policy_named ps (codes "hop_count")) p
    else if is_named (codes "link_follow_rule") p then
    states_less follow_in (policy_named ps (codes "link_follow_rule")) p
    else if limited && is_named (codes "return_card") p then
    states_less number_in (policy_named ps (codes "return_card")) p
    else false

-- any other policy of a proxy offer replaces the one of its name
abbrev pub with_passed : (limited : Bool) → List Policy → Policy → List Policy
with_passed limited ps p = if stands limited ps p then ps else with_policy p ps

abbrev pub with_all_passed : (limited : Bool) → (passed : List Policy) → List Policy → List Policy
with_all_passed limited passed ps = fold (with_passed limited) ps passed
