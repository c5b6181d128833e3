use Rattle.std.proofs.Common.{ap, ◌∙◌}
use Rattle.td_names.specs.Stores.{Store, is_live}
use Rattle.td_naming.proofs.naming.Naming.live.Goals as goal

pub returns : goal.returns
returns c =
    rw (← c.self.view_is) (c.live.ensures ∙ ap (λ (s : Store). is_live s c.args.context) c.self.invariant.store)
