-- What holds of every answer.
use Rattle.std.specs.Prelude.{◌≡◌, ℕ, ◌≤◌, false, IsTrue, List, length}
use Rattle.td_cdr.specs.Marks.{Marks}
use Rattle.td_cdr.specs.Writing.{Draft}
use Rattle.td_changes.specs.Histories.{StandsAt, is_done}
use Rattle.td_changes.specs.Laws.{applied_after}
use Rattle.td_changes.specs.declared.bounds.Bounds.{Bounds}
use Rattle.td_iter.specs.Desks.{Live}
use Rattle.td_ops.specs.Outcomes.{is_short}
use Rattle.td_ops.specs.declared.call.Change.{Change}
use Rattle.td_ops.specs.declared.call.Look.{Look}
use Rattle.td_ops.specs.declared.outcome.Outcome.{Outcome}
use Rattle.td_ops.specs.declared.outcome.Outcome.TheVariants.{Done}
use Rattle.td_ops.specs.declared.outcome.Reply.{Reply}
use Rattle.td_register.specs.Stores.{Store}
use Rattle.td_register.specs.declared.history.Accepted.{Accepted}
use Rattle.td_trader.specs.PlainTraders.{HasShortReplies}
use Rattle.td_trader.specs.Worlds.{AdmittedAt, View, Watches, history_at}
use Rattle.td_walk.specs.declared.trace.Address.{Address}
use Rattle.td_servant.specs.Changing.{ChangeComes}
use Rattle.td_servant.specs.Looking.{LookComes}
use Rattle.td_servant.specs.declared.entry.Entry.{Entry}
use Rattle.td_servant.specs.declared.entry.Entry.TheVariants.{Point}

-- ---- replies that fit in few bytes

-- each change that is accepted is answered shortly, whatever came before it
abbrev pub AcceptedAreShort : Type 0
AcceptedAreShort =
    (bounds : Bounds) (opening : Store) (history : List Accepted) (c : Change) (content : Reply)
    → HasShortReplies opening
    → (applied_after bounds opening history c).outcome ≡ Done content
    → IsTrue (is_short (Done content))

module _ (others : List Accepted → Type 0) (later : Marks → Marks → Type 0) where
  -- the same of a trader of a group
  abbrev pub ChangesAreShort : Type 0
  ChangesAreShort =
      (w u : List View) (k : ℕ) (c : Change) (content : Reply) (e : Entry) → AdmittedAt w k
      → ChangeComes others later w k c (Done content) e u → IsTrue (is_short (Done content))

  -- ---- points

  -- an accepted change is the entry of the history at its point
  abbrev pub ChangesStand : Type 0
  ChangesStand =
      (w u : List View) (k : ℕ) (c : Change) (content : Reply) (point : ℕ)
      → ChangeComes others later w k c (Done content) (Point k point) u
      → StandsAt (history_at u k) point c content

  -- a point is no less than what was seen before, and no more than what is seen after
  abbrev pub PointsAreSeen : Type 0
  PointsAreSeen =
      (w u : List View) (k : ℕ) (c : Change) (o : Outcome) (point : ℕ)
      → ChangeComes others later w k c o (Point k point) u
      → (length (history_at w k) ≤ point) × (point ≤ length (history_at u k))

  -- ---- what changes nothing

  abbrev pub RefusalsChangeNothing : Type 0
  RefusalsChangeNothing =
      (w u : List View) (k : ℕ) (c : Change) (o : Outcome) (e : Entry)
      → ChangeComes others later w k c o e u → is_done o ≡ false → Watches others later w k u

  abbrev pub LooksChangeNothing : Type 0
  LooksChangeNothing =
      (home : Address) (w u : List View) (d after : Live) (k : ℕ) (l : Look) (draft : Draft)
      (o : Outcome) (e : Entry)
      → LookComes others later home w d k l draft o e u after → Watches others later w k u
