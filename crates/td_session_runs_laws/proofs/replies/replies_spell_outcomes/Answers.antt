use Rattle.td_session_runs_laws.proofs.WritingRuns.{replies-spell}
use Rattle.td_session_runs_laws.proofs.replies.replies_spell_outcomes.Goals as goal

pub returns : goal.returns
returns g c = replies-spell g.T.Traders.others g.T.Traders.later g.met.T.Traders.others_admitted
