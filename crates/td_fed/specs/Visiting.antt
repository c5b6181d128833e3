-- A walk through a group of traders, as those who call them see it.
use Rattle.std.specs.Prelude.{◌≡◌, ℕ, List, ◌++◌, length}
use Rattle.td_cdr.specs.Marks.{Marks}
use Rattle.td_targets.specs.Targets.{inside_group}
use Rattle.td_ops.specs.declared.call.Query.{Query}
use Rattle.td_register.specs.declared.history.Accepted.{Accepted}
use Rattle.td_trader.specs.Worlds.{BeginsQuery, View, Watches, history_at}
use Rattle.td_trader.specs.declared.begin.Begin.{Begin}
use Rattle.td_trader.specs.declared.begin.Begin.TheVariants as begin
use Rattle.td_walk.specs.Peering.{Exchange}
use Rattle.td_query_walk.specs.Beginnings.{WalkBegins}
use Rattle.td_query_walk.specs.Walks.{WalkState, Start, Refused, Repeat, Search, Path, Walk}
use Rattle.td_walk.specs.declared.trace.Address.{Address}
use Rattle.td_walk.specs.declared.trace.TraceItem.{TraceItem}
use Rattle.td_walk.specs.declared.trace.Visit.{Visit}

-- a beginning, with the point at which it was made
abbrev pub start_of : (point : ℕ) → Begin → Start
start_of point (begin.Refused o) = Refused point o
start_of point (begin.Repeat mark) = Repeat point mark
start_of point (begin.Search l) = Search l
start_of point (begin.Path l) = Path l

-- How a query begins at a trader of the group: as the trader's rules say, at what is seen then.
pub record BeginsVisit (others : List Accepted → Type 0) (later : Marks → Marks → Type 0)
    (w : List View)
    (trader : ℕ) (q : Query) (start : Start) (u : List View) : Type 0 where
  pub begin : Begin
  pub begun : BeginsQuery others later w trader q begin u
  pub is : start ≡ start_of (length (history_at u trader)) begin

-- how far everything has come in a group
abbrev pub course : List View → (words : ℕ → ℕ) → List Exchange → WalkState (List View)
course w words calls = record { world = w; words = words; calls = calls }

-- a walk through the group
abbrev pub Walks : (others : List Accepted → Type 0) → (later : Marks → Marks → Type 0)
    → (home : Address)
    → WalkState (List View) → (trader : ℕ) → Query → List TraceItem → Visit → WalkState (List View)
    → Type 0
Walks others later home = Walk (BeginsVisit others later) (inside_group home)

-- The items that came are a walk, and this is what it comes to.
pub record WalksTo (others : List Accepted → Type 0) (later : Marks → Marks → Type 0)
    (home : Address) (s : WalkState (List View)) (trader : ℕ) (q : Query)
    (before after : List TraceItem) (v : Visit) (u : WalkState (List View)) : Type 0 where
  pub items : List TraceItem
  pub notes : after ≡ before ++ items
  pub walk : Walks others later home s trader q items v u

-- the beginning of a walk through the group, when memory ran out
abbrev pub WalksSoFar : (others : List Accepted → Type 0) → (later : Marks → Marks → Type 0)
    → (home : Address)
    → WalkState (List View) → (trader : ℕ) → Query → List TraceItem → WalkState (List View) → Type 0
WalksSoFar others later home = WalkBegins (BeginsVisit others later) (Watches others later)
    (inside_group home)

-- The items that came are the beginning of a walk.
pub record VisitedSoFar (others : List Accepted → Type 0) (later : Marks → Marks → Type 0)
    (home : Address) (s : WalkState (List View)) (trader : ℕ) (q : Query)
    (before after : List TraceItem) (u : WalkState (List View)) : Type 0 where
  pub items : List TraceItem
  pub notes : after ≡ before ++ items
  pub walk : WalksSoFar others later home s trader q items u
