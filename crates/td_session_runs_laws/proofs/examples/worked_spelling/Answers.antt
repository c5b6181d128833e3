use Rattle.td_session_runs_laws.proofs.Worked.{spelling}
use Rattle.td_session_runs_laws.proofs.examples.worked_spelling.Goals as goal

pub returns : goal.returns
returns c = spelling
