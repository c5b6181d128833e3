use Rattle.std.proofs.Common.{◌∙◌, ap, sym}
use Rattle.td_net.proofs.Snapshots.{value-shown}
use Rattle.td_net.proofs.resuming.value_step.Goals as goal
use Rattle.td_net.specs.Worlds.{value_step}
use Rattle.td_net.specs.declared.call.QuestionStep.TheVariants.{Valued}

pub returns-in-Some : goal.returns-in-Some
returns-in-Some c =
    ap Valued (value-shown c.of.result c.in-Some.value (c.of.ensures ∙ c.get.ensures))
    ∙ ap value_step (sym c.in-Some.is)
