use Rattle.td_session_runs.proofs.Running.{no_memory_outcome-nothing}
use Rattle.td_session_runs.proofs.laws.no_memory_changes_nothing.Goals as goal

pub returns : goal.returns
returns c s = no_memory_outcome-nothing _ _
