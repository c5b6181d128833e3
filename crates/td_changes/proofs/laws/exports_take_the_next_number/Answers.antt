use Rattle.td_changes.proofs.Refusing.{next}
use Rattle.td_changes.proofs.laws.exports_take_the_next_number.Goals as goal

pub returns : goal.returns
returns c = next
