use Rattle.td_audit.specs.Events.{IsWithinLimits}
use Rattle.td_audit.proofs.Going.{Ahead}
use Rattle.td_audit.proofs.making.follow.Given as goal

-- what follows from here follows from the begin
abbrev pub invariant-loop : goal.invariant-loop
invariant-loop l = record {
  ahead : Ahead l.root l.net l.text.items l.initial.net l.initial.text.items;
  sound : IsWithinLimits l.net;
}
