-- What a call says unless it runs out of memory.
use Rattle.std.proofs.Common.{Bool, true, false}
use Rattle.td_cdr.specs.Format.{Unless}

pub unless-map : (b : Bool) (P Q : Type 0) → (P → Q) → Unless b P → Unless b Q
unless-map true P Q f u = tt
unless-map false P Q f u = f u
