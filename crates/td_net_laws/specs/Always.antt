-- What is claimed of every list of events.
use Rattle.std.specs.Prelude.{◌≡◌, ℕ, ◌+◌, ◌<◌, ◌⊎◌, List, ◌++◌, length, slice_get, Some}
use Rattle.td_changes.specs.Histories.{at}
use Rattle.td_net.specs.Schedules.{Run}
use Rattle.td_net.specs.Worlds.{World, start}
use Rattle.td_net.specs.declared.call.Call.{Call}
use Rattle.td_net.specs.declared.call.Delivery.{Delivery}
use Rattle.td_net.specs.declared.event.Event.{Event}
use Rattle.td_register.specs.declared.history.Accepted.{Accepted}
use Rattle.td_store.specs.declared.local.Local.{Local}
use Rattle.td_trader.specs.PlainTraders.{PlainTrader, begin_at, store_of}
use Rattle.td_trader.specs.declared.begin.Begin.TheVariants.{Search}
use Rattle.td_trader_laws.specs.Reaching.{AreReached}
use Rattle.td_walk.specs.declared.trace.Address.{Address}

-- It holds of every world to which events lead, in whatever order they come.
abbrev pub Always : (World → Type 0) → Type 0
Always P =
    (ts : List PlainTrader) (home : Address) (words : List ℕ) (events : List Event) (w : World)
    → AreReached ts → Run (start ts home words) events w → P w

-- the two numbers differ by more than this
abbrev pub AreFar : (most a b : ℕ) → Type 0
AreFar most a b = (a + most < b) ⊎ (b + most < a)

-- the call of this number was delivered, and its trader was searched for it
pub record CallSearched (calls : List Call) (c : ℕ) (k : Call) (d : Delivery)
    (l : Local) : Type 0 where
  pub is : slice_get calls c ≡ Some k
  pub delivered : k.delivery ≡ Some d
  pub begun : begin_at d.seen.value k.query ≡ Search l

-- Two searches of one trader under one identifier have marks whose numbers differ by more than it remembers.
abbrev pub MarksAreApart : World → Type 0
MarksAreApart w =
    (i j : ℕ) (h g : Call) (d e : Delivery) (k l : Local) (identifier : List ℕ) → (i ≡ j → ⊥)
    → CallSearched w.calls i h d k → CallSearched w.calls j g e l → g.target ≡ h.target
    → k.identifier ≡ Some identifier → l.identifier ≡ Some identifier
    → AreFar d.seen.value.bounds.ring k.mark l.mark

-- what a trader was seen as is what it is, but for later changes and marks: its opening store, its bounds, and the
-- store at the point to which its history had come
pub record IsPast (seen t : PlainTrader) : Type 0 where
  pub name : seen.name ≡ t.name
  pub opening : seen.opening ≡ t.opening
  pub bounds : seen.bounds ≡ t.bounds
  pub more : List Accepted
  pub history : t.history ≡ seen.history ++ more
  pub store : store_of seen ≡ at t.opening t.history (length seen.history)

-- What a call was served with is of its trader at one point of the history.
abbrev pub AreRead : World → Type 0
AreRead w =
    (c : ℕ) (k : Call) (d : Delivery) (t : PlainTrader) → slice_get w.calls c ≡ Some k
    → k.delivery ≡ Some d → slice_get w.traders k.target ≡ Some t → IsPast d.seen.value t
