use Rattle.std.proofs.Common.{◌≡◌, ◌≤◌, length, option_map}
use Rattle.td_wire.specs.Connections.{wrote}
use Rattle.td_call.specs.Moving.{SendsFront}
use Rattle.td_call.proofs.sending.write_all.Given as goal

-- with what is left written, all is
abbrev pub invariant-loop-rest : goal.invariant-loop-rest
invariant-loop-rest g l = record {
  same : g.L.Wire.same l.initial.wire l.wire;
  whole :
      option_map (wrote l.rest) (g.L.Wire.content l.wire) ≡ option_map (wrote l.piece) (g.L.Wire.content l.initial.wire);
  sent : (s : SendsFront l.piece (g.L.Wire.content l.initial.wire) (g.L.Wire.content l.wire)) × (s.unwritten ≡ l.rest);
  later : g.L.Wire.faults l.initial.wire ≤ g.L.Wire.faults l.wire;
}

abbrev pub decreases-loop-rest : goal.decreases-loop-rest
decreases-loop-rest g l = length l.rest
