use Rattle.td_audit_laws.proofs.Walks.{replies-of-one-walk}
use Rattle.td_audit_laws.proofs.laws.audited_replies_are_of_one_walk.Goals as goal

pub returns : goal.returns
returns c = replies-of-one-walk c.every_schedule_gives_one_walk.ensures
