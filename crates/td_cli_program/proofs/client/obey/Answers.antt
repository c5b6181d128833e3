use Rattle.td_cli_program.specs.Runs.{obeyed, refused}
use Rattle.td_cli_program.proofs.client.obey.Goals as goal

pub returns-in-Ok : goal.returns-in-Ok
returns-in-Ok g c = obeyed c.in-Ok.asking _ _ _ _ _ c.send_and_print-status.result c.in-Ok.ensures c.send_and_print-status.ensures

pub returns-in-Err : goal.returns-in-Err
returns-in-Err g c = refused c.in-Err.refusal _ _ _ _ c.refuse-status.result c.in-Err.ensures c.refuse-status.ensures
