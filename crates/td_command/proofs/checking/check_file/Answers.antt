use Rattle.td_command.specs.Printing.{Checks}
use Rattle.td_command.specs.Shelves.{shelves}
use Rattle.td_command.proofs.Said.{of_text, with_file}
use Rattle.td_command.proofs.checking.check_file.Goals as goal

pub returns-in-Ok-clause-prints : goal.returns-in-Ok-clause-prints
returns-in-Ok-clause-prints g c =
    with_file Checks
    (shelves (g.F.Texts.content c.args.files.now) (g.F.Texts.faults c.args.files.now) (g.F.Texts.faults c.text.new.self))
    c.args.name.now c.in-Ok.text c.check_text.result _ _ c.in-Ok.ensures.gives
    (of_text Checks c.as_slice.result.now c.in-Ok.text c.check_text.result _ _ c.as_slice.ensures c.check_text.ensures)
