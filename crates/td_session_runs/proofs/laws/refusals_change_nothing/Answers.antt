use Rattle.td_session_runs.proofs.Running.{refused-nothing}
use Rattle.td_session_runs.proofs.laws.refusals_change_nothing.Goals as goal

pub returns : goal.returns
returns c s = refused-nothing _ _
