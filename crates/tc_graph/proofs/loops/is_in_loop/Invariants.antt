use Rattle.std.proofs.Common.{ℕ, suc, ◌<◌, length}
use Rattle.tc_graph.specs.Aliases.{AliasChain}
use Rattle.tc_graph.proofs.loops.is_in_loop.Given as goal

abbrev pub invariant-loop-step : goal.invariant-loop-step
invariant-loop-step l = record {
  within : l.place < length l.nodes;
  chain : AliasChain l._step l.nodes l.start l.place;
  none : (k : ℕ) → k < l._step → AliasChain (suc k) l.nodes l.start l.start → ⊥;
}
