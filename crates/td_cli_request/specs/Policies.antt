-- The policies that a query's options come to, in this order, each only where its option is given: exact_type_match,
-- hop_count, link_follow_rule, request_id (OMG's Trading Object Service, "Policies").
use Rattle.std.specs.Prelude.{ℕ, Bool, true, List, [], ◌∷◌, ◌++◌, codes, if◌then◌else◌, Option, Some, None}
use Rattle.td_ior.specs.Keys.{◌>>=◌}
use Rattle.td_policy.specs.Values.{number, octets, policy, rule, truth}
use Rattle.td_cli_args.specs.Wishes.{AskedQuery}
use Rattle.td_value.specs.declared.enumerations.FollowOption.{FollowOption}
use Rattle.td_value.specs.declared.structures.Policy.{Policy}
use Rattle.td_cli_request.specs.Given.{number_given, octets_given, rule_given}
use Rattle.td_cli_request.specs.declared.policies.Options.{Options}

abbrev pub with_exact : Bool → List Policy → List Policy
with_exact exact ps = if exact then ps ++ policy truth (codes "exact_type_match") true ∷ [] else ps

abbrev pub with_hops : Option ℕ → List Policy → List Policy
with_hops None ps = ps
with_hops (Some n) ps = ps ++ policy number (codes "hop_count") n ∷ []

abbrev pub with_follow : Option FollowOption → List Policy → List Policy
with_follow None ps = ps
with_follow (Some r) ps = ps ++ policy rule (codes "link_follow_rule") r ∷ []

abbrev pub with_id : Option (List ℕ) → List Policy → List Policy
with_id None ps = ps
with_id (Some o) ps = ps ++ policy (octets 0) (codes "request_id") o ∷ []

abbrev pub with_options : Bool → Options → List Policy → List Policy
with_options exact o ps = with_id o.id
    (with_follow o.follow (with_hops o.hops (with_exact exact ps)))

-- ---- from the words

abbrev pub options_in : AskedQuery → Option Options
options_in q = do
  hops ← number_given q.hops
  follow ← rule_given q.follow
  id ← octets_given q.id
  Some (record { hops = hops; follow = follow; id = id })

abbrev pub policies_in : AskedQuery → Option (List Policy)
policies_in q = options_in q >>= λ o. Some (with_options q.exact o [])
