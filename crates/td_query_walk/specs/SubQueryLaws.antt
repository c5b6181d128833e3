-- What the policies of a sub-query state (OMG's Trading Object Service, "Policies", "Link Follow Behavior",
-- starting_trader, and interface Proxy, policies_to_pass_on), where they can be read; else the trader that gets them
-- refuses the query.
use Rattle.std.specs.Prelude.{◌≡◌, ℕ, ◌-◌, ◌≤◌, nat_lt, Bool, true, false, if◌then◌else◌, List, [], ◌∷◌, Option, None}
use Rattle.std.specs.Prelude.{Some, Ok, codes}
use Rattle.td_policy.specs.Fields as field
use Rattle.td_policy.specs.Fields.{Field, value_in}
use Rattle.td_policy.specs.Rules.{lesser, pass_on}
use Rattle.td_policy.specs.Stated.{stated}
use Rattle.td_policy.specs.declared.stated.Stated.{Stated}
use Rattle.td_ops.specs.declared.call.Query.{Query}
use Rattle.td_store.specs.declared.local.Local.{Local}
use Rattle.td_store.specs.declared.record.LinkRecord.{LinkRecord}
use Rattle.td_value.specs.declared.enumerations.FollowOption.{FollowOption}
use Rattle.td_walk.specs.Passing.{policy_named, identifier_policy}
use Rattle.td_walk.specs.SubQueries.{stated_rule}

-- what is stated instead, where something is
abbrev pub in_its_place : {A : Type 0} → (passed before : Option A) → Option A
in_its_place None before = before
in_its_place (Some x) before = Some x

-- the fields whose policies a sub-query replaces or adds
abbrev pub is_replaced : Field → Bool
is_replaced field.hops = true
is_replaced field.follow = true
is_replaced field.return_card = true
is_replaced field.start = true
is_replaced field.request_id = true
is_replaced _ = false

-- the policies that nothing replaces are as they were stated
abbrev pub KeepsOthers : (before s : Stated) → Type 0
KeepsOthers before s = (f : Field) → is_replaced f ≡ false → value_in f s ≡ value_in f before

-- over a link: one hop less, the rule that is passed on, the search's identifier, no start elsewhere, as many offers as
-- are still wanted, where that is limited, and the rest as it was stated
pub record OverALink (l : Local) (wanted : Option ℕ) (link : LinkRecord) (s : Stated) : Type 0 where
  pub hops : s.hops ≡ Some (l.effective.hops - 1)
  pub rule : s.follow ≡ Some (pass_on l.stated l.attributes link.limiting link.def_pass_on)
  pub start : s.start ≡ None
  pub identifier : (id : List ℕ) → l.identifier ≡ Some id → s.request_id ≡ Some id
  pub card : stated l.query.policies ≡ Ok l.stated
      → s.return_card ≡ in_its_place wanted l.stated.return_card
  pub others : stated l.query.policies ≡ Ok l.stated → KeepsOthers l.stated s

-- to a proxy offer's trader: at most one hop less, the search's identifier, and no more offers than are still wanted,
-- where that is limited
pub record ToAProxy (l : Local) (wanted : Option ℕ) (s : Stated) : Type 0 where
  pub hops : (n : ℕ) × (s.hops ≡ Some n) × (n ≤ l.effective.hops - 1)
  pub identifier : (id : List ℕ) → l.identifier ≡ Some id → s.request_id ≡ Some id
  pub card : (n : ℕ) → wanted ≡ Some n → (m : ℕ) × (s.return_card ≡ Some m) × (m ≤ n)

-- ---- with what a proxy offer passes on

-- the fewer hops
abbrev pub fewer : (passed : Option ℕ) → (hops : ℕ) → ℕ
fewer None hops = hops
fewer (Some n) hops = if nat_lt hops n then hops else n

-- the rule that permits less
abbrev pub stricter : (passed before : Option FollowOption) → Option FollowOption
stricter None before = before
stricter (Some r) None = Some r
stricter (Some r) (Some before) = Some (lesser r before)

-- how many offers are to be returned: the fewer, where those that are wanted are limited
abbrev pub fewer_wanted : (wanted passed before : Option ℕ) → Option ℕ
fewer_wanted None passed before = in_its_place passed before
fewer_wanted (Some n) passed before = Some (fewer passed n)

-- Where every policy that is passed on can be read, it stands in the place of what was stated: but for the identifier,
-- and the lesser of two hop counts and of two rules counts, and the fewer offers, where those that are wanted are
-- limited. A start elsewhere isn't passed on from the query.
pub record WithPassed (l : Local) (wanted : Option ℕ) (passed s : Stated) : Type 0 where
  pub hops : s.hops ≡ Some (fewer passed.hops (l.effective.hops - 1))
  pub rule : s.follow ≡ stricter passed.follow
      (stated_rule l.stated.follow l.attributes.max_follow_policy)
  pub start : s.start ≡ passed.start
  pub return_card : s.return_card ≡ fewer_wanted wanted passed.return_card l.stated.return_card
  pub others : (f : Field) → is_replaced f ≡ false
      → value_in f s ≡ in_its_place (value_in f passed) (value_in f l.stated)

-- ---- along a path

-- the names that are left, if there are some
abbrev pub some_left : List (List ℕ) → Option (List (List ℕ))
some_left [] = None
some_left (name ∷ names) = Some (name ∷ names)

-- along a path: the names that are left, and the rest as it was stated
pub record AlongAPath (left : List (List ℕ)) (before s : Stated) : Type 0 where
  pub start : s.start ≡ some_left left
  pub hops : s.hops ≡ before.hops
  pub rule : s.follow ≡ before.follow
  pub identifier : s.request_id ≡ before.request_id
  pub card : s.return_card ≡ before.return_card
  pub others : KeepsOthers before s

-- ---- the identifier

-- A query that a search passes on carries the search's identifier; one along a path its own, if it has one.
abbrev pub CarriesIdentifier : (path : Option LinkRecord) → Local → Query → Type 0
CarriesIdentifier None l sub = (id : List ℕ) → l.identifier ≡ Some id
    → policy_named sub.policies (codes "request_id") ≡ Some (identifier_policy id)
CarriesIdentifier (Some link) l sub =
    policy_named sub.policies (codes "request_id")
    ≡ policy_named l.query.policies (codes "request_id")

-- Where its policies can be read, a query that a search passes on states the search's identifier; and one along a path
-- the identifier that the visit's own query states, where that one's policies can be read, or none where it states
-- none.
abbrev pub StatesIdentifier : (path : Option LinkRecord) → Local → Query → Type 0
StatesIdentifier None l sub =
    (id : List ℕ) (s : Stated) → l.identifier ≡ Some id → stated sub.policies ≡ Ok s
    → s.request_id ≡ Some id
StatesIdentifier (Some link) l sub =
    (own s : Stated) → stated l.query.policies ≡ Ok own → stated sub.policies ≡ Ok s
    → s.request_id ≡ own.request_id
