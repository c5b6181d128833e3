-- What the functions answer that hand an event to the network.
use Rattle.std.specs.Prelude.{◌≡◌, false, List, None, Some, Result}
use Rattle.std.specs.List.{AllByRecursion}
use Rattle.td_lookup.specs.Answering.{HasLimits}
use Rattle.td_net.specs.Worlds.{World, Becomes, fault_of, step_of}
use Rattle.td_net.specs.declared.call.Call.{Call}
use Rattle.td_net.specs.declared.call.Stage.{Stage}
use Rattle.td_net.specs.declared.call.Stage.TheVariants.{Ended}
use Rattle.td_net.specs.declared.event.Event.{Event}
use Rattle.td_audit.specs.Verdicts.{Stops}
use Rattle.td_audit.specs.declared.verdict.Cause.{Cause}
use Rattle.td_audit.specs.declared.verdict.Cause.TheVariants.{Net}
use Rattle.td_audit.specs.declared.verdict.AuditStop.{AuditStop}

-- for a fault of the network
abbrev pub FaultedAs : World → Event → Cause → Type 0
FaultedAs w e (Net f) = fault_of w e ≡ Some f
FaultedAs w e other = ⊥

-- the event is accepted, or refused for this
abbrev pub HappensAs : World → Event → Result (Unit {0}) AuditStop → World → Type 0
HappensAs w e r u = Stops ((fault_of w e ≡ None) × Becomes w (step_of w e) u) (FaultedAs w e) r

-- where a call has ended, only limits that a query can have are told
abbrev pub LimitedAt : Stage → Type 0
LimitedAt (Ended v) = HasLimits v
LimitedAt other = Unit {0}

abbrev pub AreLimited : List Call → Type 0
AreLimited calls = AllByRecursion (λ (k : Call). LimitedAt k.stage) calls

-- No event ran out of memory, and the calls that have ended have such limits.
pub record IsWithinLimits (w : World) : Type 0 where
  pub no_memory_outcome : w.no_memory_outcome ≡ false
  pub limits : AreLimited w.calls
