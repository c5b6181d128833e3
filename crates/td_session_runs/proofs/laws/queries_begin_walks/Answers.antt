use Rattle.td_session_runs.proofs.Running.{queries-begin}
use Rattle.td_session_runs.proofs.laws.queries_begin_walks.Goals as goal

pub returns : goal.returns
returns c s = queries-begin _ _
