use Rattle.td_name_sessions.proofs.AllMet.{fresh_is_met}
use Rattle.td_name_sessions.proofs.Taking.{fresh_view}
use Rattle.td_name_sessions.proofs.serving.open_with.Goals as goal

pub returns-in-Ok-clause-met : goal.returns-in-Ok-clause-met
returns-in-Ok-clause-met c = fresh_is_met _ _ _ c.in-Ok.ensures.fresh

pub returns-in-Ok-clause-opened : goal.returns-in-Ok-clause-opened
returns-in-Ok-clause-opened c = c.in-Ok.ensures.fresh.opened_is

pub returns-in-Ok-clause-seen : goal.returns-in-Ok-clause-seen
returns-in-Ok-clause-seen c = fresh_view _ _ _ c.in-Ok.ensures.fresh
