-- How the query of a walk comes to each trader of a group that others use too (OMG's Trading Object Service, "Policies"
-- on request_id, and "Link Follow Behavior").
use Rattle.std.specs.Prelude.{ℕ, ◌+◌, List, [], ◌∷◌, ◌++◌, Option}
use Rattle.td_cdr.specs.Marks.{Marks}
use Rattle.td_typecode.specs.declared.reference.Ior.{Ior}
use Rattle.td_fed.specs.Visiting.{BeginsVisit}
use Rattle.td_ops.specs.declared.call.Query.{Query}
use Rattle.td_register.specs.declared.history.Accepted.{Accepted}
use Rattle.td_store.specs.declared.local.Local.{Local}
use Rattle.td_trader.specs.Beginning.{searched_under}
use Rattle.td_trader.specs.Worlds.{View, store_seen}
use Rattle.td_walk.specs.Peering.{Exchange, PeerCall, Querying}
use Rattle.td_walk.specs.declared.answer.Next.{Next}
use Rattle.td_walk.specs.declared.answer.StepAnswer.{StepAnswer}
use Rattle.td_walk.specs.declared.trace.TraceItem.{TraceItem}
use Rattle.td_walk.specs.declared.trace.TraceItem.TheVariants as item
use Rattle.td_walk.specs.declared.trace.Visit.{Visit}
use Rattle.td_query_walk.specs.Walks.{WalkState, Start, Step, Steps, Walk}
use Rattle.td_query_walk.specs.Walks.{asked, asking, done, evaluated, outside, refused, repeat, no_memory_with}
use Rattle.td_query_walk.specs.Walks.{unevaluated, unreachable, visited}

-- ---- queries that went outside

abbrev pub sent_by : PeerCall → ℕ
sent_by (Querying target q) = 1
sent_by other = 0

-- how many of these calls sent a query to a trader outside
abbrev pub sent : List Exchange → ℕ
sent [] = 0
sent (x ∷ xs) = sent_by x.call + sent xs

-- ---- arrivals

-- A query came to a trader: the item that notes it, and the items before; how many queries had gone outside; the
-- trader as it was last seen, and as it is seen now, with what others did since.
pub record Arrival : Type 0 where
  pub item : TraceItem
  pub before : List TraceItem
  pub sent : ℕ
  pub query : Query
  pub last : View
  pub seen : View

-- the identifier under which it visits the trader: the stated one, or else the next one that the trader makes
abbrev pub identifier_of : Arrival → List ℕ
identifier_of a = (searched_under (store_seen a.seen) a.seen.marks a.query).identifier

abbrev pub arrival : {others : List Accepted → Type 0} → {later : Marks → Marks → Type 0}
    → (before : List TraceItem)
    → (gone : ℕ) → TraceItem → {w : List View} → {trader : ℕ} → {q : Query} → {start : Start}
    → {u : List View} → BeginsVisit others later w trader q start u → Arrival
arrival before gone i {q = q} b = record {
  item = i;
  before = before;
  sent = gone;
  query = q;
  last = b.begun.meanwhile.view;
  seen = b.begun.seen;
}

module _ {others : List Accepted → Type 0} {later : Marks → Marks → Type 0}
    {inside : List View → (target : Ior) → Option ℕ} where
  abbrev mutual
    -- the arrivals of a walk that stands behind these items, in the order of its trace
    pub arrivals : (before : List TraceItem) → {s : WalkState (List View)} → {k : ℕ} → {q : Query}
        → {t : List TraceItem} → {v : Visit} → {u : WalkState (List View)}
        → Walk (BeginsVisit others later) inside s k q t v u → List Arrival
    arrivals before (refused {s = s} {k = k} {point = point} b) =
        arrival before (sent s.calls) (item.Refused k point) b ∷ []
    arrivals before (repeat {s = s} {k = k} {point = point} {mark = mark} b) =
        arrival before (sent s.calls) (item.Repeat k point mark) b ∷ []
    arrivals before (asking {s = s} {head = head} b opens steps ends) =
        arrival before (sent s.calls) head b ∷ arrivals_in (before ++ head ∷ []) steps

    pub arrivals_in : (before : List TraceItem) → {s : WalkState (List View)} → {l : Local}
        → {answers : List StepAnswer} → {t : List TraceItem} → {all : List StepAnswer}
        → {u : WalkState (List View)}
        → Steps (BeginsVisit others later) inside s l answers t all u → List Arrival
    arrivals_in before (done none_left) = []
    arrivals_in before (asked {t = t} step steps) = arrivals_by before step
        ++ arrivals_in (before ++ t) steps

    pub arrivals_by : (before : List TraceItem) → {s : WalkState (List View)} → {question : Next}
        → {t : List TraceItem} → {r : StepAnswer} → {u : WalkState (List View)}
        → Step (BeginsVisit others later) inside s question t r u → List Arrival
    arrivals_by before (visited there walk) = arrivals before walk
    arrivals_by before (outside there small) = []
    arrivals_by before (no_memory_with there fault) = []
    arrivals_by before (evaluated reached) = []
    arrivals_by before (unevaluated reached fault) = []
    arrivals_by before (unreachable nowhere) = []
