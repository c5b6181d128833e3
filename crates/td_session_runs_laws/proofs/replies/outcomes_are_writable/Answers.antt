use Rattle.td_session_runs_laws.proofs.WritingRuns.{outcomes-writable}
use Rattle.td_session_runs_laws.proofs.replies.outcomes_are_writable.Goals as goal

pub returns : goal.returns
returns g c = outcomes-writable g.T.Traders.others g.T.Traders.later g.met.T.Traders.others_admitted
