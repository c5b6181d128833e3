use Rattle.td_cli_program.specs.Runs.{by_clap, no_memory}
use Rattle.td_cli_program.proofs.running.refuse_words.Goals as goal

pub returns-in-Ok : goal.returns-in-Ok
returns-in-Ok g c = by_clap c.args.error.now _ _ _ c.write_all.ensures.tells

pub returns-in-Err : goal.returns-in-Err
returns-in-Err g c = no_memory _ _
