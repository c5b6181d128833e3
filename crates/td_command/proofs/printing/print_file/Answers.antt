use Rattle.std.proofs.Common.{◌≡◌, ◌∙◌}
use Rattle.td_make.specs.Generated.{generated_file}
use Rattle.td_command.proofs.Said.{said}
use Rattle.td_command.proofs.printing.print_file.Goals as goal

pub returns-in-Ok : goal.returns-in-Ok
returns-in-Ok g c =
    said (λ text. text ≡ generated_file c.args.count) c.as_slice.result.now c.print.result _ _
    (c.as_slice.ensures ∙ c.in-Ok.ensures) c.print.ensures
