use Rattle.std.proofs.Common.{refl}
use Rattle.td_typecode.proofs.plain.ushort_at.Goals as goal

pub returns : goal.returns
returns c = rw c.in_ok-u16.ensures refl
