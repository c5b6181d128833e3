use Rattle.td_name_sessions.proofs.Taking.{split_first, split_keeps}
use Rattle.td_name_sessions.proofs.service.NameServiceServiceVisitorSessionPassNamePassSessionEnd.begin.Goals as goal

pub returns-in-Ok-clause-seen : goal.returns-in-Ok-clause-seen
returns-in-Ok-clause-seen g c = split_keeps _ _ _ c.in-Ok.ensures.split

pub returns-in-Ok-clause-sees : goal.returns-in-Ok-clause-sees
returns-in-Ok-clause-sees g c = split_first _ _ _ c.in-Ok.ensures.split

pub returns-in-Ok-clause-stays : goal.returns-in-Ok-clause-stays
returns-in-Ok-clause-stays g c = λ p. c.in-Ok.ensures.stays _
