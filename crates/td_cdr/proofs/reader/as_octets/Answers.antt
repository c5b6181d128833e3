use Rattle.std.proofs.Math.Facts.{Fits-lt-pow}
use Rattle.td_cdr.proofs.reader.as_octets.Goals as goal

pub returns-clause-octets : goal.returns-clause-octets
returns-clause-octets c = record { each = λ i. Fits-lt-pow (c.type_inv.bytes i) }
