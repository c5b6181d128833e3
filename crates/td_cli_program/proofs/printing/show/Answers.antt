use Rattle.td_cli_program.specs.Printing.{no_lines}
use Rattle.td_cli_program.proofs.Showing.{shows, shows_not}
use Rattle.td_cli_program.proofs.printing.show.Goals as goal

pub returns-in-Ok-true : goal.returns-in-Ok-true
returns-in-Ok-true g c =
    shows c.args.outcome.now c.in-Ok-true.field-0 c.new-lines.result.items c.put_outcome.new.out.items
    c.as_slice.result.now c.outcome_status.result _ _ c.print.result c.in-Ok-true.field-0-test
    c.new-lines.ensures.items c.in-Ok-true.ensures c.as_slice.ensures.value c.outcome_status.ensures c.print.ensures

pub returns-in-Ok-false : goal.returns-in-Ok-false
returns-in-Ok-false g c =
    shows_not c.args.outcome.now c.in-Ok-false.field-0 c.new-lines.result.items c.put_outcome.new.out.items _
    c.in-Ok-false.field-0-test c.in-Ok-false.ensures

pub returns : goal.returns
returns g c = no_lines _
