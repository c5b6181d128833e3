use Rattle.td_session_runs.proofs.Owning.{alone-grows}
use Rattle.td_session_runs.proofs.laws.alone_histories_grow_by_own_changes.Goals as goal

pub returns : goal.returns
returns c = alone-grows
