use Rattle.td_desk.proofs.Ordering.{first_in_order}
use Rattle.td_desk.proofs.shared.SharedDesk.open.Goals as goal

pub returns-clause-order : goal.returns-clause-order
returns-clause-order c = first_in_order _ _ _ _ c.in_ok-cell.ensures.seen
