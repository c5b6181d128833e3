use Rattle.std.proofs.Common.{◌≡◌, ℕ, ◌<◌, length, min}
use Rattle.std.specs.Prelude.{slice_index_or, None}
use Rattle.tc_edges.specs.Edges.{spelled_before}
use Rattle.tc_edges.proofs.spellings.note_all.Given as goal

abbrev pub invariant-loop-place : goal.invariant-loop-place
invariant-loop-place l = record {
  size : length l.table ≡ length l.graph;
  each : (j : ℕ) → j < length l.graph
      → slice_index_or l.table j None ≡ spelled_before l.graph j (min l.place j);
}
