use Rattle.td_session_runs.proofs.Running.{seen-legal}
use Rattle.td_session_runs.proofs.laws.what_is_seen_is_legal.Goals as goal

pub returns : goal.returns
returns c s = seen-legal _ _
