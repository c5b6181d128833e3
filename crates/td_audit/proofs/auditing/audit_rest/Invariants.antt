use Rattle.std.proofs.Common.{◌≤◌, ◌+◌, [], length}
use Rattle.td_audit.specs.Auditing.{state}
use Rattle.td_audit.specs.Events.{IsWithinLimits}
use Rattle.td_audit.proofs.Carrying.{Carries}
use Rattle.td_audit.proofs.auditing.audit_rest.Given as goal
use Rattle.td_log.specs.Words.{lines_of}

abbrev pub decreases-lines : goal.decreases-lines
decreases-lines l = length l.rest

-- what is left comes to what all comes to, lines are no more than bytes, and the network is sound
abbrev pub invariant-lines : goal.invariant-lines
invariant-lines l = record {
  carries : Carries l.group.home l.group.names (state l.net l.asked) l.number (lines_of l.rest) (state l.fn.net [])
      l.fn.number (lines_of l.log);
  few : l.number + length l.rest ≤ l.fn.number + length l.log;
  sound : IsWithinLimits l.net;
}
