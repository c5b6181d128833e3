use Rattle.td_command_laws.proofs.NotRefused.{drill-ends}
use Rattle.td_command_laws.proofs.laws.drills_are_not_refused.Goals as goal

pub returns : goal.returns
returns c = drill-ends c.generated_files_open.ensures
