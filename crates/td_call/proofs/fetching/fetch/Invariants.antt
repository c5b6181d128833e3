use Rattle.std.proofs.Common.{◌+◌, ◌-◌, length}
use Rattle.td_call.proofs.Holding.{Held, most_held}
use Rattle.td_call.proofs.fetching.fetch.Given as goal

-- what came so far is held
abbrev pub invariant-loop-wire : goal.invariant-loop-wire
invariant-loop-wire g l = record {
  same : g.L.Wire.same l.initial.wire l.wire;
  held :
      Held l.initial.framer l.framer (g.L.Wire.content l.initial.wire) (g.L.Wire.content l.wire)
      (g.L.Wire.faults l.initial.wire) (g.L.Wire.faults l.wire);
}

abbrev pub decreases-loop-wire : goal.decreases-loop-wire
decreases-loop-wire g l = length l.initial.framer.rest + most_held - length l.framer.rest
