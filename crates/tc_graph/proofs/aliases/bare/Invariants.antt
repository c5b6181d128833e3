use Rattle.std.proofs.Common.{◌≡◌, ◌<◌, ◌-◌, length}
use Rattle.tc_graph.specs.Aliases.{bare, bare_within}
use Rattle.tc_graph.proofs.aliases.bare.Given as goal

abbrev pub invariant-loop-step : goal.invariant-loop-step
invariant-loop-step l = record {
  within : l.place < length l.nodes;
  same : bare_within (length l.nodes - l._step) l.nodes l.place ≡ bare l.nodes l.fn.place;
}
