use Rattle.td_cli_program.specs.Runs.{answered, failed}
use Rattle.td_cli_program.proofs.running.send_and_print.Goals as goal

pub returns-in-Ok : goal.returns-in-Ok
returns-in-Ok g c = answered c.in-Ok.outcome _ _ _ _ c.show-status.result c.in-Ok.ensures c.show-status.ensures

pub returns-in-Err : goal.returns-in-Err
returns-in-Err g c =
    rw c.fault_status.ensures (failed c.in-Err.fault _ _ _ c.in-Err.ensures)
