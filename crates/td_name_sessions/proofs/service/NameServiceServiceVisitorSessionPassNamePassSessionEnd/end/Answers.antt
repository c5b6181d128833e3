use Rattle.td_name_sessions.proofs.Taking.{join_seen}
use Rattle.td_shared_names.proofs.Passing.{still_out}
use Rattle.td_name_sessions.proofs.service.NameServiceServiceVisitorSessionPassNamePassSessionEnd.end.Goals as goal

pub take_in-requires-clause-out : goal.take_in-requires-clause-out
take_in-requires-clause-out g c = still_out _ _ _ c.requires.came.2 c.requires.came.1

pub returns-in-Ok-clause-joins : goal.returns-in-Ok-clause-joins
returns-in-Ok-clause-joins g c = join_seen _ _ _ c.take_in.ensures.met

pub returns-in-Ok-clause-stays : goal.returns-in-Ok-clause-stays
returns-in-Ok-clause-stays g c = λ p. c.take_in.ensures.stays _
