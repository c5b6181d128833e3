use Rattle.td_session_runs.proofs.Running.{points-rise}
use Rattle.td_session_runs.proofs.laws.points_rise.Goals as goal

pub returns : goal.returns
returns c s = points-rise _ _
