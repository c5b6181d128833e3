use Rattle.td_session_runs.proofs.Worked.{journal, run}
use Rattle.td_session_runs.proofs.examples.worked_turns.Goals as goal

pub returns-clause-journal : goal.returns-clause-journal
returns-clause-journal c s = journal

pub returns-clause-run : goal.returns-clause-run
returns-clause-run c s = run _ _
