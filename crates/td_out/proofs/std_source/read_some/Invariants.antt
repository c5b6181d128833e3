use Rattle.std.specs.Io.KnownBytes.{Keeps}
use Rattle.td_out.proofs.std_source.read_some.Given as goal

-- the reads that were interrupted moved nothing
abbrev pub invariant-loop : goal.invariant-loop
invariant-loop g l = Keeps (g.R.Read.remaining l.initial.reader) (g.R.Read.remaining l.reader)
