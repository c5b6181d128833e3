use Rattle.td_command.proofs.Whole.{answered}
use Rattle.td_command.proofs.command.run.Goals as goal

pub returns-clause-complete : goal.returns-clause-complete
returns-clause-complete g c = answered _ _ _ _ _ _ _ c.status.ensures c.obey-ended.ensures.obeys
