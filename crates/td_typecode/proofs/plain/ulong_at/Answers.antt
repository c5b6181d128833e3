use Rattle.std.proofs.Common.{refl}
use Rattle.td_typecode.proofs.plain.ulong_at.Goals as goal

pub returns : goal.returns
returns c = rw c.in_ok-u32.ensures.gives refl
