use Rattle.td_session_runs.proofs.Running.{words-drawn}
use Rattle.td_session_runs.proofs.laws.words_are_drawn_in_order.Goals as goal

pub returns : goal.returns
returns c s = words-drawn _ _
