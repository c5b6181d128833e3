use Rattle.td_command.proofs.exit.run_program.Goals as goal

pub returns-clause-complete : goal.returns-clause-complete
returns-clause-complete g c = rw c.from.ensures c.run.ensures.complete
