use Rattle.td_sessions.proofs.Taking.{splits_first, splits_keep}
use Rattle.td_sessions.proofs.service.TraderServiceServiceVisitorTraderPassJGroupPassSessionEndJ.begin.Goals as goal

pub returns-in-Ok-clause-seen : goal.returns-in-Ok-clause-seen
returns-in-Ok-clause-seen g c = splits_keep _ _ _ c.in-Ok.ensures.split

pub returns-in-Ok-clause-sees : goal.returns-in-Ok-clause-sees
returns-in-Ok-clause-sees g c = splits_first _ _ _ c.in-Ok.ensures.split

pub returns-in-Ok-clause-stays : goal.returns-in-Ok-clause-stays
returns-in-Ok-clause-stays g c = λ p. c.in-Ok.ensures.stays _
