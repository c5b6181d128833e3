use Rattle.td_session_runs.proofs.Running.{accepted-stand, own-accepted}
use Rattle.td_session_runs.proofs.laws.own_changes_are_accepted.Goals as goal

pub returns-clause-places : goal.returns-clause-places
returns-clause-places c s = own-accepted _ _

pub returns-clause-stand : goal.returns-clause-stand
returns-clause-stand c s = accepted-stand _ _
