use Rattle.std.proofs.Common.{arith}
use Rattle.td_types.proofs.Placing.{linked_all}
use Rattle.td_types.proofs.places.links_of.Goals as goal

pub returns : goal.returns
returns c =
    linked_all c.args.declared.now c.loop-entry.links.items c.loop-entry.entry-index (omega arith)
    c.loop-entry.invariant
