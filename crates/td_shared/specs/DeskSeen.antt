-- What sessions see of the desk that they share, one beside the other.
use Rattle.std.specs.Prelude.{◌≡◌, ℕ, List, [], Option, None, Some}
use Rattle.td_cell.specs.Lists.{Rises, itself, merge}
use Rattle.td_cell.specs.declared.pass.View.{View}
use Rattle.td_desk.specs.Acting.{ExtendsHistory}
use Rattle.td_desk.specs.declared.event.Event.{Event}

-- the history, and the places of one's own calls in it
pub record DeskSeen : Type 0 where
  pub history : List Event
  pub own : List ℕ

abbrev pub history_or_none : Option (List Event) → List Event
history_or_none None = []
history_or_none (Some h) = h

-- what a pass has seen
abbrev pub desk_seen : View (List Event) → DeskSeen
desk_seen v = record { history = history_or_none v.seen; own = v.own }

-- what another has seen, with nothing of one's own
abbrev pub bare_desk : DeskSeen → DeskSeen
bare_desk d = record d { own = [] }

-- the second may be what the first has become
abbrev pub DeskContinues : DeskSeen → DeskSeen → Type 0
DeskContinues d e = ExtendsHistory d.history e.history

-- What was seen before a session was taken in and what the session has seen lead to what is seen then. What is own is
-- own of both, and no place is in both.
pub record DeskJoins (d session e : DeskSeen) : Type 0 where
  pub before : DeskContinues d e
  pub seen : DeskContinues session e
  pub own : e.own ≡ merge itself d.own session.own
  pub apart : Rises itself e.own
