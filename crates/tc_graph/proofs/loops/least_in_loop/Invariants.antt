use Rattle.std.proofs.Common.{ℕ, ◌<◌}
use Rattle.tc_graph.specs.Aliases.{IsInLoop}
use Rattle.tc_graph.proofs.loops.least_in_loop.Given as goal

abbrev pub invariant-loop-place : goal.invariant-loop-place
invariant-loop-place l = (k : ℕ) → k < l.place → IsInLoop l.nodes k → ⊥
