use Rattle.std.proofs.Common.{◌∙◌}
use Rattle.td_call.proofs.calling.evaluate_at.Goals as goal

pub returns-in-Ok-clause-leaves : goal.returns-in-Ok-clause-leaves
returns-in-Ok-clause-leaves g c =
    rw (c.bytes.ensures ∙ c.in-Ok.ensures) at c.ask_at.ensures.leaves
