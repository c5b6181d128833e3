use Rattle.td_desk.proofs.Ordering.{later_in_order}
use Rattle.td_desk.proofs.laws.passes_stay_in_order.Goals as goal

pub returns : goal.returns
returns c = later_in_order
