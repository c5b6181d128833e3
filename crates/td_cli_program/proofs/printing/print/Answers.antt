use Rattle.td_cli_program.specs.Printing.{all_printed, sink_failed}
use Rattle.td_cli_program.proofs.printing.print.Goals as goal

pub returns-in-Ok : goal.returns-in-Ok
returns-in-Ok g c = all_printed _ _ c.in-Ok.ensures.whole c.write_all.ensures.tells.later

pub returns-in-Err : goal.returns-in-Err
returns-in-Err g c = sink_failed _ _ c.write_all.ensures.tells c.in-Err.ensures.failed
