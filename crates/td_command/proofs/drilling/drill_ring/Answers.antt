use Rattle.std.proofs.Common.{◌∙◌}
use Rattle.td_make.specs.Generated.{generated_file}
use Rattle.td_command.specs.Printing.{DrillsWith}
use Rattle.td_command.proofs.Said.{of_text}
use Rattle.td_command.proofs.drilling.drill_ring.Goals as goal

pub returns-in-Ok : goal.returns-in-Ok
returns-in-Ok g c =
    of_text (DrillsWith (g.W.Words.word_after c.args.words.now)) c.as_slice.result.now (generated_file c.args.count)
    c.drill_text.result _ _ (c.as_slice.ensures ∙ c.in-Ok.ensures) c.drill_text.ensures
