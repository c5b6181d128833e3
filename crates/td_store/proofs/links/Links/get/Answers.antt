use Rattle.std.proofs.Common.{◌∙◌}
use Rattle.td_store.proofs.Linked.{found}
use Rattle.td_store.proofs.links.Links.get.Goals as goal

pub returns : goal.returns
returns c =
    rw (← c.self.view_is, ← c.as_slice.ensures)
    (c.get.ensures.value ∙ found c.self.inside.named.entries c.as_slice.result.now c.self.invariant.names)
