-- How a call comes to its trader (OMG's Trading Object Service, "Policies" on starting_trader and request_id, and "Link
-- Follow Behavior").
use Rattle.std.specs.Prelude.{◌≡◌, ℕ, ◌+◌, Bool, true, false, List, length, slice_get, Option, None, Some, Ok}
use Rattle.td_net.specs.declared.call.Call.{Call}
use Rattle.td_net.specs.declared.call.Delivery.{Delivery}
use Rattle.td_ops.specs.declared.call.Query.{Query}
use Rattle.td_policy.specs.Stated.{stated}
use Rattle.td_register.specs.Causes.{Cause}
use Rattle.td_store.specs.declared.local.Local.{Local}
use Rattle.td_store.specs.declared.record.LinkRecord.{LinkRecord}
use Rattle.td_trader.specs.Beginning.{is_search, searched_under}
use Rattle.td_trader.specs.PlainTraders.{PlainTrader, begin_at, store_of}
use Rattle.td_trader.specs.Queries.{parts_of, path_link, refusal}
use Rattle.td_trader.specs.Serving.{local_of, path_of}

-- ---- a query at a trader

-- Where a query goes: nowhere, as it is refused; on over a link, along its path; or it visits the trader.
pub data Way : Type 0 where
  Nowhere : Way
  Along : LinkRecord → Way
  Here : Way

abbrev pub way_by : Cause → (path : Option LinkRecord) → Way
way_by (Some f) path = Nowhere
way_by None (Some link) = Along link
way_by None None = Here

-- read off the trader's store, the number of its marks and the query alone, and not off what is remembered
unfoldable pub way_of : PlainTrader → Query → Way
way_of t q =
    way_by (refusal t.bounds t.marks.count (store_of t) q)
    (path_link (store_of t).links (parts_of q).stated)

abbrev pub is_here : Way → Bool
is_here Nowhere = false
is_here (Along link) = false
is_here Here = true

-- the identifier that a query states
unfoldable pub stated_identifier : Query → Option (List ℕ)
stated_identifier q = (parts_of q).stated.request_id

-- its policies can be read
unfoldable pub HasReadPolicies : Query → Type 0
HasReadPolicies q = stated q.policies ≡ Ok (parts_of q).stated

-- the identifier that it is searched under: the stated one, or else the next one that the trader makes
unfoldable pub identifier_at : PlainTrader → Query → List ℕ
identifier_at t q = (searched_under (store_of t) t.marks q).identifier

-- what it is searched with, under the next mark
abbrev pub search_at : PlainTrader → Query → Local
search_at t q = local_of (store_of t) (length t.history) (t.marks.count + 1) (identifier_at t q) q

-- what it is passed on with
abbrev pub path_at : PlainTrader → LinkRecord → Query → Local
path_at t link q = path_of (store_of t) (length t.history) link q

-- ---- a call at its trader

-- How many calls were delivered before it, and the trader as it was then; under which identifier it came, and how many
-- marks the trader had made; whether it visits the trader, being neither refused nor passed on along its path; and
-- whether the trader is searched.
pub record Arrival : Type 0 where
  pub serial : ℕ
  pub seen : PlainTrader
  pub identifier : List ℕ
  pub before : ℕ
  pub visits : Bool
  pub searches : Bool

abbrev pub arrival_at : (serial : ℕ) → PlainTrader → Query → Arrival
arrival_at serial t q = record {
  serial = serial;
  seen = t;
  identifier = identifier_at t q;
  before = t.marks.count;
  visits = is_here (way_of t q);
  searches = is_search (begin_at t q);
}

abbrev pub arrival_of : Query → Delivery → Arrival
arrival_of q d = arrival_at d.serial d.seen.value q

abbrev pub arrival_at_delivery : Query → Option Delivery → Option Arrival
arrival_at_delivery q None = None
arrival_at_delivery q (Some d) = Some (arrival_of q d)

-- what marks depend on of a call: its trader, the call of its Ask, and how it came there
pub record CallHead : Type 0 where
  pub target : ℕ
  pub root : ℕ
  pub arrival : Option Arrival

abbrev pub head_of : Call → CallHead
head_of k = record {
  target = k.target;
  root = k.root;
  arrival = arrival_at_delivery k.query
      k.delivery;
}

-- a call of the list that came so to its trader
pub record ArrivesAt (hs : List CallHead) (h : CallHead) (d : Arrival) : Type 0 where
  pub place : ℕ
  pub is : slice_get hs place ≡ Some h
  pub has_arrived : h.arrival ≡ Some d
