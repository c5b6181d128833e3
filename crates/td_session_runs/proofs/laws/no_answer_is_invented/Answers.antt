use Rattle.td_session_runs.proofs.Running.{none-invented, peers-shown}
use Rattle.td_session_runs.proofs.laws.no_answer_is_invented.Goals as goal

pub returns-clause-run : goal.returns-clause-run
returns-clause-run c s = none-invented _ _

pub returns-clause-request : goal.returns-clause-request
returns-clause-request c s = peers-shown _ _
