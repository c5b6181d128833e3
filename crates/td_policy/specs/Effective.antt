-- The cardinalities and the hop count that a query is served with (Trading Object Service, "Lookup" and
-- "Policies": what an importer states is bounded by the trader's maximum).
use Rattle.std.specs.Prelude.{ℕ, nat_lt, min, if◌then◌else◌, List, [], ◌∷◌, ◌++◌, Option, Some, None, unwrap_or}
use Rattle.std.specs.Prelude.{option_map, codes}
use Rattle.td_value.specs.Enumerations.{follow_option_number}
use Rattle.td_policy.specs.declared.attributes.Attributes.{Attributes}
use Rattle.td_policy.specs.declared.effective.Effective.{Effective}
use Rattle.td_policy.specs.declared.stated.Stated.{Stated}

-- the lesser of the maximum and what is stated, or of the maximum and the default
abbrev pub effective_number : Option ℕ → (default maximum : ℕ) → ℕ
effective_number stated default maximum = min (unwrap_or stated default) maximum

-- the policy's name where a value is stated that is above the maximum
abbrev pub above : (name : List ℕ) → Option ℕ → (maximum : ℕ) → List (List ℕ)
above name None maximum = []
above name (Some n) maximum = if nat_lt maximum n then name ∷ [] else []

-- the names of the policies that are stated above their maximum
abbrev pub over_maximum : Stated → Attributes → List (List ℕ)
over_maximum s a =
    above (codes "hop_count") s.hops a.max_hop_count
    ++ above (codes "link_follow_rule") (option_map follow_option_number s.follow)
    (follow_option_number a.max_follow_policy)
    ++ above (codes "match_card") s.match_card a.max_match_card
    ++ above (codes "return_card") s.return_card a.max_return_card
    ++ above (codes "search_card") s.search_card a.max_search_card

abbrev pub effective_of : Stated → Attributes → Effective
effective_of s a = record {
  hops = effective_number s.hops a.def_hop_count a.max_hop_count;
  match_card = effective_number s.match_card a.def_match_card a.max_match_card;
  return_card = effective_number s.return_card a.def_return_card a.max_return_card;
  search_card = effective_number s.search_card a.def_search_card a.max_search_card;
  over = over_maximum s a;
}
