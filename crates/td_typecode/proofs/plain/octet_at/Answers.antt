use Rattle.std.proofs.Common.{refl}
use Rattle.td_typecode.proofs.plain.octet_at.Goals as goal

pub returns : goal.returns
returns c = rw c.in_ok-octet.ensures refl
