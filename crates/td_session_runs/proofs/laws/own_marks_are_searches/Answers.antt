use Rattle.td_session_runs.proofs.Running.{own-searches}
use Rattle.td_session_runs.proofs.laws.own_marks_are_searches.Goals as goal

pub returns : goal.returns
returns c s = own-searches _ _
