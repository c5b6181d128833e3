use Rattle.td_file.specs.Files.{seen}
use Rattle.td_command.specs.Printing.{Checks}
use Rattle.td_command.proofs.Said.{with_text}
use Rattle.td_command.proofs.checking.check_text.Goals as goal

pub returns-in-Ok : goal.returns-in-Ok
returns-in-Ok g c =
    with_text Checks c.args.text.now (seen c.in-Ok.opened) c.check_opened.result _ _ c.in-Ok.ensures.answers
    c.check_opened.ensures
