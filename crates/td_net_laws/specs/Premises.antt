-- What is asked of an Ask's identifier, and what then holds of its calls.
use Rattle.std.specs.Prelude.{◌≡◌, ℕ, ◌+◌, ◌<◌, List, map, length, slice_get, Option, Some, None, true}
use Rattle.td_cdr.specs.Marks.{Marks, RemembersAs}
use Rattle.td_net.specs.Schedules.{Run}
use Rattle.td_net.specs.Worlds.{World, Becomes, inside, start, step_of}
use Rattle.td_net.specs.declared.call.Call.{Call}
use Rattle.td_net.specs.declared.call.Delivery.{Delivery}
use Rattle.td_net.specs.declared.call.Stage.TheVariants.{Ended}
use Rattle.td_net.specs.declared.event.Event.{Event}
use Rattle.td_net.specs.declared.event.Event.TheVariants.{Ask}
use Rattle.td_net_laws.specs.Arrivals.{Arrival, ArrivesAt, CallHead, head_of, stated_identifier, way_of}
use Rattle.td_net_laws.specs.Steps.{GivesAnswer, EndedAs}
use Rattle.td_net_laws.specs.Trees.{IsTree}
use Rattle.td_ops.specs.declared.call.Query.{Query}
use Rattle.td_trader.specs.Beginning.{is_search}
use Rattle.td_trader.specs.PlainTraders.{PlainTrader, begin_at}
use Rattle.td_trader_laws.specs.Reaching.{AreReached}
use Rattle.td_walk.specs.declared.answer.SubAnswer.{SubAnswer}
use Rattle.td_walk.specs.declared.trace.Address.{Address}
use Rattle.td_walk.specs.declared.trace.Visit.{Visit}
use Rattle.td_query_walk.specs.Walks.{answer_in}

-- a call of the Ask r that visited its trader
pub record CallVisits (r : ℕ) (hs : List CallHead) (h : CallHead) (d : Arrival) : Type 0 where
  pub at : ArrivesAt hs h d
  pub root : h.root ≡ r
  pub visits : d.visits ≡ true

-- no trader remembers the identifier
abbrev pub IsForgotten : List PlainTrader → List ℕ → Type 0
IsForgotten ts id = (n : ℕ) (t : PlainTrader) (k : ℕ) → slice_get ts n ≡ Some t
    → RemembersAs t.marks id k
    → ⊥

-- Fresh: at the Ask no trader remembered an identifier under which its calls came.
abbrev pub IsFresh : (before : List PlainTrader) → (r : ℕ) → List CallHead → Type 0
IsFresh before r hs = (h : CallHead) (d : Arrival) → CallVisits r hs h d
    → IsForgotten before d.identifier

-- Alone: no call of another Ask came under it, stated or made, earlier or later.
abbrev pub IsAlone : (r : ℕ) → List CallHead → Type 0
IsAlone r hs =
    (h g : CallHead) (d e : Arrival) → CallVisits r hs h d → ArrivesAt hs g e → e.visits ≡ true
    → e.identifier ≡ d.identifier → g.root ≡ r

-- Remembered: between two visits of the Ask's calls at one trader fewer marks were made than it remembers.
abbrev pub IsRemembered : (r : ℕ) → List CallHead → Type 0
IsRemembered r hs =
    (h g : CallHead) (d e : Arrival) → CallVisits r hs h d → CallVisits r hs g e → g.target
    ≡ h.target
    → d.serial < e.serial → d.searches ≡ true → e.before < d.before + 1 + d.seen.bounds.ring

-- the three of them: of the traders before the Ask r, and of the calls afterwards
pub record Premises (before : List PlainTrader) (r : ℕ) (calls : List Call) : Type 0 where
  pub fresh : IsFresh before r (map head_of calls)
  pub alone : IsAlone r (map head_of calls)
  pub remembered : IsRemembered r (map head_of calls)

-- each ended call of the Ask r gives its tree
abbrev pub AllTrees : (r : ℕ) → World → Type 0
AllTrees r w =
    (c : ℕ) (k : Call) (v : Visit) → slice_get w.calls c ≡ Some k → k.root ≡ r → k.stage ≡ Ended v
    → IsTree (length w.calls) w.calls (inside w.traders w.home) w.words c (answer_in v)

-- One depth-first walk results, whatever comes before the Ask, between and after.
abbrev pub OneTree : Type 0
OneTree =
    (ts : List PlainTrader) (home : Address) (words : List ℕ) (events later : List Event)
    (w u v : World) (n : ℕ) (q : Query) → AreReached ts → Run (start ts home words) events w
    → Becomes w (step_of w (Ask n q)) u
    → Run u later v → Premises w.traders (length w.calls) v.calls → AllTrees (length w.calls) v

-- what an ended call gives follows from its own sub-calls
abbrev pub IsAnsweredBySubCalls : World → (c : ℕ) → Call → SubAnswer → Delivery → Type 0
IsAnsweredBySubCalls w c k a d =
    GivesAnswer w.calls (inside w.traders w.home) c (EndedAs w.calls) w.words k d.seen.value a
    (way_of d.seen.value k.query) (is_search (begin_at d.seen.value k.query))

abbrev pub AllAnswered : World → Type 0
AllAnswered w =
    (c : ℕ) (k : Call) (v : Visit) → slice_get w.calls c ≡ Some k → k.stage ≡ Ended v
    → (d : Delivery) × (k.delivery ≡ Some d) × IsAnsweredBySubCalls w c k (answer_in v) d

-- the calls of an Ask that states an identifier visit under it
abbrev pub CallsGoByIdentifier : World → Type 0
CallsGoByIdentifier w =
    (r : ℕ) (k : Call) (id : List ℕ) → slice_get w.calls r ≡ Some k → k.caller ≡ None
    → stated_identifier k.query ≡ Some id → (h : CallHead) (d : Arrival)
    → CallVisits r (map head_of w.calls) h d → d.identifier ≡ id

-- whether stated or made: all calls of an Ask visit under one identifier
abbrev pub AreUnderOne : World → Type 0
AreUnderOne w =
    (r : ℕ) (h g : CallHead) (d e : Arrival) → CallVisits r (map head_of w.calls) h d
    → CallVisits r (map head_of w.calls) g e → d.identifier ≡ e.identifier

-- a list of events leads to one world
abbrev pub RunsAreOne : Type 0
RunsAreOne = (w u v : World) (es : List Event) → Run w es u → Run w es v → u ≡ v

-- a call has one tree
abbrev pub TreesAreOne : Type 0
TreesAreOne =
    (f : ℕ) (w : World) (c : ℕ) (a b : SubAnswer)
    → IsTree f w.calls (inside w.traders w.home) w.words c a
    → IsTree f w.calls (inside w.traders w.home) w.words c b → a ≡ b
