use Rattle.std.proofs.Common.{◌∙◌}
use Rattle.td_file.specs.Files.{seen}
use Rattle.td_command.specs.Printing.{Checks}
use Rattle.td_command.proofs.Said.{said}
use Rattle.td_command.proofs.checking.check_opened.Goals as goal

pub returns-in-Ok : goal.returns-in-Ok
returns-in-Ok g c =
    said (Checks (seen c.args.opened)) c.as_slice.result.now c.print.result _ _ (c.as_slice.ensures ∙ c.in-Ok.ensures)
    c.print.ensures
