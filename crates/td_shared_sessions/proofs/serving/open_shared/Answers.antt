use Rattle.td_shared_sessions.proofs.Desks.{desk_is_new}
use Rattle.td_shared_sessions.proofs.serving.open_shared.Goals as goal

pub open_with-requires-clause-new : goal.open_with-requires-clause-new
open_with-requires-clause-new c = desk_is_new _ c.in-Ok.ensures.seen

pub open_with-requires-clause-desk : goal.open_with-requires-clause-desk
open_with-requires-clause-desk c = record { belongs = c.in-Ok.ensures.own.0; opening = c.in-Ok.ensures.own.1 }
