use Rattle.std.proofs.Common.{ℕ, ◌≡◌, ◌<◌, length, slice_index}
use Rattle.tc_graph.specs.Aliases.{bare}
use Rattle.tc_graph.proofs.aliases.bare_places.Given as goal

abbrev pub invariant-loop-place : goal.invariant-loop-place
invariant-loop-place l = record {
  count : length l.places.items ≡ l.place;
  each : (k : ℕ) → k < l.place → slice_index l.places.items k ≡ bare l.nodes k;
  within : (k : ℕ) → k < l.place → slice_index l.places.items k < length l.nodes;
}
