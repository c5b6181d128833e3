use Rattle.td_cli_program.specs.Runs.{no_memory}
use Rattle.td_cli_program.proofs.running.refuse.Goals as goal

pub returns-in-Memory : goal.returns-in-Memory
returns-in-Memory g c = no_memory _ _
