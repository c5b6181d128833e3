-- Schedules: events in their order.
use Rattle.std.specs.Prelude.{◌≡◌, ◌⊎◌, ℕ, List, [], ◌∷◌, Option, None, Some, Result, Ok, Err, take, slice_get}
use Rattle.td_net.specs.Worlds.{World, Becomes, fault_of, step_of}
use Rattle.td_net.specs.declared.event.Event.{Event}
use Rattle.td_net.specs.declared.event.NetFault.{NetFault}
use Rattle.td_net.specs.declared.event.NetFault.TheVariants.{Memory}

-- The world becomes this by these events in order; one that is refused changes nothing.
pub data Run : World → List Event → World → Type 0 where
  over : {w : World} → Run w [] w
  then : {w v u : World} {e : Event} {es : List Event} → Becomes w (step_of w e) v → Run v es u
      → Run w (e ∷ es) u

-- and none of them is refused
pub data AcceptsAll : World → List Event → World → Type 0 where
  none : {w : World} → AcceptsAll w [] w
  more : {w v u : World} {e : Event} {es : List Event} → fault_of w e ≡ None
      → Becomes w (step_of w e) v → AcceptsAll v es u → AcceptsAll w (e ∷ es) u

-- the events before this one are accepted, and it is refused for this, or runs out of memory
pub record IsFirstRefused (w : World) (events : List Event) (place : ℕ)
    (f : NetFault) : Type 0 where
  pub before : World
  pub accepted : AcceptsAll w (take place events) before
  pub event : Event
  pub stands : slice_get events place ≡ Some event
  pub refused : (fault_of before event ≡ Some f) ⊎ (f ≡ Memory)

-- what a schedule comes to: each event is accepted in order, or this is the first that isn't
abbrev pub IsChecked : World → List Event → Result Unit (ℕ × NetFault) → Type 0
IsChecked w events (Ok x) = (u : World) × AcceptsAll w events u
IsChecked w events (Err p) = IsFirstRefused w events p.0 p.1
