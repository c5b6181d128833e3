use Rattle.std.proofs.Common.{◌∙◌}
use Rattle.td_types.proofs.ByName.{found}
use Rattle.td_types.proofs.entries.Entries.get.Goals as goal

pub returns : goal.returns
returns c =
    rw (← c.self.view_is) (c.get.ensures.value
    ∙ found c.self.inside.named.entries c.args.name.now c.self.invariant.names)
