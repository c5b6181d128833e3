use Rattle.std.proofs.Common.{drop}
use Rattle.td_audit.specs.Events.{IsWithinLimits}
use Rattle.td_audit.proofs.Going.{AheadAll}
use Rattle.td_audit.proofs.making.make_log.Given as goal

-- with what is told of those that are left it is the log
abbrev pub invariant-loop-trader : goal.invariant-loop-trader
invariant-loop-trader l = record {
  ahead : AheadAll l.fn.solo.traders.items l.fn.home l.net l.trader (drop l.trader l.name-items) l.text.items;
  sound : IsWithinLimits l.net;
}
