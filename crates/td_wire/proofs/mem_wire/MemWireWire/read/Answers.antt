use Rattle.std.proofs.Common.{ap}
use Rattle.td_wire.specs.InMemory.{WireState}
use Rattle.td_wire.proofs.Drawing.{drawn}
use Rattle.td_wire.proofs.mem_wire.MemWireWire.read.Goals as goal

pub returns-in-Some-clause-bytes : goal.returns-in-Some-clause-bytes
returns-in-Some-clause-bytes c =
    drawn (record {
      past = c.self.inside.past.items;
      current = c.self.inside.current;
      answers = c.self.inside.answers.items;
    })
    _ _ _ _ _ (ap (λ (w : WireState). w.traffic) c.self.view_is) c.in-Some.ensures.gave
