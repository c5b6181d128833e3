use Rattle.std.specs.Io.KnownBytes.{Keeps}
use Rattle.td_out.proofs.std_sink.write_some.Given as goal

-- what was interrupted changed nothing
abbrev pub invariant-loop : goal.invariant-loop
invariant-loop g l = Keeps (g.W.Write.contents l.initial.writer) (g.W.Write.contents l.writer)
