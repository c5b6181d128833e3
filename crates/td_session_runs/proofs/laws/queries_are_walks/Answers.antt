use Rattle.td_session_runs.proofs.Running.{queries-walk}
use Rattle.td_session_runs.proofs.laws.queries_are_walks.Goals as goal

pub returns : goal.returns
returns c s = queries-walk _ _
