use Rattle.std.proofs.Common.{◌≡◌, ℕ, ◌-◌, ◌<◌, length, drop}
use Rattle.std.specs.Prelude.{slice_index_or, None}
use Rattle.tc_edges.specs.Edges.{noted_at}
use Rattle.tc_edges.proofs.spellings.note_edges.Given as goal

abbrev pub invariant-loop-done : goal.invariant-loop-done
invariant-loop-done l = record {
  size : length l.table ≡ length l.initial.table;
  each : (j : ℕ) → j < length l.initial.table
      → slice_index_or l.table j None
      ≡ noted_at l.place (l.count - l.done) (drop (l.count - l.done) l.edges) (slice_index_or l.initial.table j None) j;
}
