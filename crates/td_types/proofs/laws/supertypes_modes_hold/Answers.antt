use Rattle.td_types.proofs.Stronger.{as-strong}
use Rattle.td_types.proofs.laws.supertypes_modes_hold.Goals as goal

pub returns : goal.returns
returns c = as-strong
