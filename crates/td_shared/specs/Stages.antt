-- How a session stands between two messages whose server shares a desk of iterators.
use Rattle.std.specs.Prelude.{◌≡◌, ℕ, ◌+◌, List, [], ◌∷◌}
use Rattle.td_cell.specs.declared.pass.View.{View}
use Rattle.td_desk.specs.declared.event.Event.{Event}
use Rattle.td_desk_calls.specs.declared.desk_call.DeskCall.{DeskCall}
use Rattle.td_desk_calls.specs.declared.desk_call.DeskCall.TheVariants.{At, Memory, Full}
use Rattle.td_iter.specs.Desks.{Live}
use Rattle.td_iter.specs.declared.desk.DeskEntry.{DeskEntry as Iterator}
use Rattle.td_iter.specs.declared.item.Item.{Item}
use Rattle.td_dispatch.specs.Backends.{BackendSeen}
use Rattle.td_session.specs.Rooms.{Room}
use Rattle.td_session.specs.Stages.{Stage, stage_in}
use Rattle.td_shared.specs.declared.entry.SharedEntry.{SharedEntry}
use Rattle.td_shared.specs.declared.entry.SharedEntry.TheVariants.{Desk}

-- what the session stands on beside the desk, in which nothing is noted and no iterator is kept; what its pass has seen
-- of the desk and done on it; and what was noted so far
pub record SharedStage : Type 0 where
  pub stage : Stage
  pub view : View (List Event)
  pub journal : List SharedEntry

abbrev pub shared_stage : Stage → View (List Event) → List SharedEntry → SharedStage
shared_stage stage view journal = record { stage = stage; view = view; journal = journal }

-- by what a session stands on, its room, what its pass knows of the desk, and its journal
abbrev pub shared_in : BackendSeen → Room → View (List Event) → List SharedEntry → SharedStage
shared_in seen room view journal = shared_stage (stage_in seen room) view journal

-- with these iterators of its own, the next of which gets this number, and nothing noted
abbrev pub with_desk : Stage → List (Iterator Item) → ℕ → Stage
with_desk s kept next = record s { scene = record s.scene { desk = (kept, next) }; journal = [] }

-- what is noted of a call of the desk: its place in the history
abbrev pub entry_of_call : DeskCall → List SharedEntry
entry_of_call (At place) = Desk place ∷ []
entry_of_call Memory = []
entry_of_call Full = []

abbrev pub IsDone : DeskCall → Type 0
IsDone (At place) = Unit {0}
IsDone Memory = Unit {0}
IsDone Full = ⊥

-- ---- what a message keeps

-- none is kept, and this number is next
abbrev pub none_kept : ℕ → Live
none_kept n = ([], n)

abbrev pub one_kept : ℕ → List ℕ → Item → Live
one_kept n name item = (record { trader = name; number = n; item = item } ∷ [], n + 1)

-- what is kept then: as before, or one more with this number
pub data KeepsOne (n : ℕ) (e : Live) : Type 0 where
  keeps_none : e ≡ none_kept n → KeepsOne n e
  keeps_one : (name : List ℕ) (item : Item) → e ≡ one_kept n name item → KeepsOne n e
