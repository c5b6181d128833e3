-- What the network answers to an event.
use Rattle.std.proofs.Common.{◌≡◌, None, Result, Ok, refl, subst}
use Rattle.td_net.specs.Worlds.{World, Becomes, OnAs, OnBy, EventResult, TakenAs, Refused, Moved, Closing, fault_in}
use Rattle.td_net.specs.Worlds.{fault_of}
use Rattle.td_net.specs.Worlds.{step_of, wants}
use Rattle.td_net.specs.declared.event.Event.{Event}
use Rattle.td_net.specs.declared.event.NetFault.{NetFault}
use Rattle.td_audit.specs.Events.{IsWithinLimits}
use Rattle.td_audit.proofs.Limited.{event-limited}

-- where no event ran out of memory before
taken : (w u : World) (e : Event) (r : Result (Unit {0}) NetFault) → IsWithinLimits w → OnAs w e r u
    → TakenAs w (step_of w e) r u × (u.no_memory_outcome ≡ wants r)
taken w u e r sound on = subst (λ b. OnBy b w (step_of w e) r u) sound.no_memory_outcome on

ok-by : (w u : World) (t : EventResult) → TakenAs w t (Ok tt) u → (fault_in t ≡ None) × Becomes w t u
ok-by w u (Refused f) h = absurd h
ok-by w u (Moved v) h = (refl, h)
ok-by w u (Closing v c k l rs ss) h = (refl, h)

-- an accepted event
pub accepted : (w u : World) (e : Event) → IsWithinLimits w → OnAs w e (Ok tt) u
    → (fault_of w e ≡ None) × Becomes w (step_of w e) u
accepted w u e sound on = ok-by w u (step_of w e) (taken w u e (Ok tt) sound on).0

pub stays-sound : (w u : World) (e : Event) → IsWithinLimits w → OnAs w e (Ok tt) u → IsWithinLimits u
stays-sound w u e sound on = record {
  no_memory_outcome = (taken w u e (Ok tt) sound on).1;
  limits = event-limited w u e sound.limits (accepted w u e sound on).1;
}
