-- Worked examples, and what holds of visits (OMG's Trading Object Service, "Link Follow Behavior", starting_trader,
-- and interface Proxy).
use Rattle.std.specs.Prelude.{◌≡◌, ℕ, true, false, List, [], ◌∷◌, Some, None, codes}
use Rattle.td_policy.specs.Rules.{follow, pass_on}
use Rattle.td_policy.specs.Stated.{nothing}
use Rattle.td_policy.specs.Values.{number, policy, truth}
use Rattle.td_policy.specs.declared.attributes.Attributes.{Attributes}
use Rattle.td_policy.specs.declared.stated.Stated.{Stated}
use Rattle.td_value.specs.declared.enumerations.FollowOption.TheVariants.{LocalOnly, IfNoLocal, Always}
use Rattle.td_value.specs.declared.structures.Policy.{Policy}
use Rattle.td_walk.specs.Passing.{hop_policy, follow_policy, identifier_policy, start_policy, card_policy}
use Rattle.td_walk.specs.Passing.{with_search_policies, along_path}
use Rattle.td_walk.specs.Passing.{with_all_passed}
use Rattle.td_walk.specs.SubQueries.{lets_follow}

-- ---- worked examples

abbrev identifier : List ℕ
identifier = codes "q"

abbrev cards : Policy
cards = policy number (codes "match_card") 3

abbrev pub proxies_used : Policy
proxies_used = policy truth (codes "use_proxy_offers") true

pub record WorkedPassing : Type 0 where
  -- ten hops at most, 99 stated: nine are left, and the rule that is passed on replaces the stated one
  pub over_a_link : with_search_policies 10 (Some IfNoLocal)
      (Some identifier) None (hop_policy 99 ∷ follow_policy Always ∷ [])
      ≡ hop_policy 9 ∷ follow_policy IfNoLocal ∷ identifier_policy identifier ∷ []
  -- what isn't stated is added at the end, and a start elsewhere is taken out
  pub added : with_search_policies 1 (Some Always) (Some identifier) None
      (cards ∷ start_policy (codes "b" ∷ [])
      ∷ []) ≡ cards ∷ hop_policy 0 ∷ follow_policy Always ∷ identifier_policy identifier ∷ []
  -- the importer's identifier is replaced by the search's
  pub renamed : with_search_policies 1 None (Some identifier) None (identifier_policy (codes "p")
      ∷ [])
      ≡ identifier_policy identifier ∷ hop_policy 0 ∷ []
  -- three offers are still wanted: that is put at the end, or in the place of how many were asked for
  pub wanted : with_search_policies 1 None (Some identifier) (Some 3) (cards ∷ [])
      ≡ cards ∷ hop_policy 0 ∷ identifier_policy identifier ∷ card_policy 3 ∷ []
  pub fewer_wanted : with_search_policies 1 None (Some identifier) (Some 3) (card_policy 9 ∷ cards
      ∷ [])
      ≡ card_policy 3 ∷ cards ∷ hop_policy 0 ∷ identifier_policy identifier ∷ []
  -- and where the number isn't limited, as many as were asked for
  pub as_stated : with_search_policies 1 None (Some identifier) None (card_policy 9 ∷ [])
      ≡ card_policy 9 ∷ hop_policy 0 ∷ identifier_policy identifier ∷ []
  -- along a path of two names, and then of one
  pub along_two : along_path (codes "c" ∷ [])
      (start_policy (codes "b" ∷ codes "c" ∷ []) ∷ hop_policy 0 ∷ [])
      ≡ start_policy (codes "c" ∷ []) ∷ hop_policy 0 ∷ []
  pub along_one : along_path [] (start_policy (codes "c" ∷ []) ∷ hop_policy 0 ∷ [])
      ≡ hop_policy 0 ∷ []
  -- a proxy offer passes on more hops, which doesn't help, and fewer, which stand
  pub more_hops : with_all_passed false (hop_policy 7 ∷ []) (hop_policy 2 ∷ []) ≡ hop_policy 2 ∷ []
  pub fewer_hops : with_all_passed false (hop_policy 1 ∷ []) (hop_policy 2 ∷ []) ≡ hop_policy 1 ∷ []
  -- in the same way more offers than are wanted, and fewer; but any number, where that isn't limited
  pub more_offers : with_all_passed true (card_policy 7 ∷ []) (card_policy 3 ∷ [])
      ≡ card_policy 3 ∷ []
  pub fewer_offers : with_all_passed true (card_policy 2 ∷ []) (card_policy 3 ∷ [])
      ≡ card_policy 2 ∷ []
  pub any_offers : with_all_passed false (card_policy 7 ∷ []) (card_policy 3 ∷ [])
      ≡ card_policy 7 ∷ []
  -- a rule where none stands, an identifier, which is ignored, and any other policy
  pub others : with_all_passed false
      (follow_policy LocalOnly ∷ identifier_policy (codes "p") ∷ proxies_used ∷ cards ∷ [])
      (cards ∷ hop_policy 2 ∷ [])
      ≡ cards ∷ hop_policy 2 ∷ follow_policy LocalOnly ∷ proxies_used ∷ []

abbrev pub states_always : Stated
states_always = record nothing { follow = Some Always }

pub record WorkedFollowing : Type 0 where
  -- a link of if_no_local, stated always: the limiting rule stands
  pub limited : (a : Attributes) → a.max_follow_policy ≡ Always → follow states_always a IfNoLocal
      ≡ IfNoLocal
  pub passed_on : (a : Attributes) → a.max_follow_policy ≡ Always
      → pass_on states_always a IfNoLocal IfNoLocal ≡ IfNoLocal
  -- it is followed where no ordinary offer matched
  pub without_match : lets_follow false IfNoLocal ≡ true
  pub with_match : lets_follow true IfNoLocal ≡ false
