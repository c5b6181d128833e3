use Rattle.std.proofs.Common.{length, ◌-◌, ◌≤◌, take}
use Rattle.std.specs.Io.KnownBytes.{Appends}
use Rattle.td_out.proofs.writing.write_all.Given as goal

-- the front of the text is written
abbrev pub invariant-loop-sent : goal.invariant-loop-sent
invariant-loop-sent g l = record {
  within : l.sent ≤ length l.text;
  given : Appends (g.E.Sink.written l.initial.sink) (g.E.Sink.written l.sink) (take l.sent l.text);
  later : g.E.Sink.faults l.initial.sink ≤ g.E.Sink.faults l.sink;
}

abbrev pub decreases-loop-sent : goal.decreases-loop-sent
decreases-loop-sent g l = length l.text - l.sent
