use Rattle.td_sessions.proofs.AllMet.{fresh_are_met}
use Rattle.td_sessions.proofs.Taking.{fresh_views, opened_all}
use Rattle.td_shared_sessions.proofs.serving.open_with.Goals as goal

pub returns-in-Ok-clause-met : goal.returns-in-Ok-clause-met
returns-in-Ok-clause-met c = fresh_are_met _ _ _ c.in-Ok.ensures.opened

pub returns-in-Ok-clause-opened : goal.returns-in-Ok-clause-opened
returns-in-Ok-clause-opened c = opened_all _ _ _ c.in-Ok.ensures.opened

pub returns-in-Ok-clause-seen : goal.returns-in-Ok-clause-seen
returns-in-Ok-clause-seen c = fresh_views _ _ _ c.in-Ok.ensures.opened
