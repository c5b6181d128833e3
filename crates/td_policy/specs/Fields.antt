-- What an importer may state, field by field: each field is what the policy of one name states (Trading Object Service,
-- "Policies").
use Rattle.std.specs.Prelude.{ℕ, Bool, List, [], ◌∷◌, Option, None, codes}
use Rattle.td_value.specs.declared.enumerations.FollowOption.{FollowOption}
use Rattle.td_policy.specs.Values.{PolicyKind, truth, number, rule, texts, octets}
use Rattle.td_policy.specs.declared.stated.Stated.{Stated}

pub data Field : Type 0 where
  exact : Field
  hops : Field
  follow : Field
  match_card : Field
  return_card : Field
  search_card : Field
  start : Field
  use_dynamic : Field
  use_modifiable : Field
  use_proxy : Field
  request_id : Field

abbrev pub fields : List Field
fields =
    exact ∷ hops ∷ follow ∷ match_card ∷ return_card ∷ search_card ∷ start ∷ use_dynamic
    ∷ use_modifiable ∷ use_proxy ∷ request_id ∷ []

-- the name of its policy
abbrev pub name_of : Field → List ℕ
name_of exact = codes "exact_type_match"
name_of hops = codes "hop_count"
name_of follow = codes "link_follow_rule"
name_of match_card = codes "match_card"
name_of return_card = codes "return_card"
name_of search_card = codes "search_card"
name_of start = codes "starting_trader"
name_of use_dynamic = codes "use_dynamic_properties"
name_of use_modifiable = codes "use_modifiable_properties"
name_of use_proxy = codes "use_proxy_offers"
name_of request_id = codes "request_id"

-- its values, and the type that the policy's value has
abbrev pub FieldValue : Field → Type 0
FieldValue exact = Bool
FieldValue hops = ℕ
FieldValue follow = FollowOption
FieldValue match_card = ℕ
FieldValue return_card = ℕ
FieldValue search_card = ℕ
FieldValue start = List (List ℕ)
FieldValue use_dynamic = Bool
FieldValue use_modifiable = Bool
FieldValue use_proxy = Bool
FieldValue request_id = List ℕ

abbrev pub kind_of : (f : Field) → PolicyKind (FieldValue f)
kind_of exact = truth
kind_of hops = number
kind_of follow = rule
kind_of match_card = number
kind_of return_card = number
kind_of search_card = number
kind_of start = texts 64
kind_of use_dynamic = truth
kind_of use_modifiable = truth
kind_of use_proxy = truth
kind_of request_id = octets 256

-- what is stated of it
abbrev pub value_in : (f : Field) → Stated → Option (FieldValue f)
value_in exact s = s.exact
value_in hops s = s.hops
value_in follow s = s.follow
value_in match_card s = s.match_card
value_in return_card s = s.return_card
value_in search_card s = s.search_card
value_in start s = s.start
value_in use_dynamic s = s.use_dynamic
value_in use_modifiable s = s.use_modifiable
value_in use_proxy s = s.use_proxy
value_in request_id s = s.request_id

-- with this stated of it
abbrev pub put : (f : Field) → Option (FieldValue f) → Stated → Stated
put exact x s = record s { exact = x }
put hops x s = record s { hops = x }
put follow x s = record s { follow = x }
put match_card x s = record s { match_card = x }
put return_card x s = record s { return_card = x }
put search_card x s = record s { search_card = x }
put start x s = record s { start = x }
put use_dynamic x s = record s { use_dynamic = x }
put use_modifiable x s = record s { use_modifiable = x }
put use_proxy x s = record s { use_proxy = x }
put request_id x s = record s { request_id = x }

-- nothing is stated
abbrev pub nothing : Stated
nothing = record {
  exact = None;
  hops = None;
  follow = None;
  match_card = None;
  return_card = None;
  search_card = None;
  start = None;
  use_dynamic = None;
  use_modifiable = None;
  use_proxy = None;
  request_id = None;
}
