-- CORBA, General Inter-ORB Protocol, "CDR Transfer Syntax": the octets that stand for one of two values.
use Rattle.std.specs.Prelude.{ℕ, zero, suc, Bool, true, false, Result, Ok, Err}
use Rattle.td_cdr.specs.declared.order.Order.{Order}
use Rattle.td_cdr.specs.declared.order.Order.TheVariants.{Big, Little}
use Rattle.td_cdr.specs.declared.fault.CdrFault.{CdrFault}
use Rattle.td_cdr.specs.declared.fault.CdrFault.TheVariants.{BadBoolean}

-- Boolean: an octet that is 0 or 1
abbrev pub truth : ℕ → ℕ → Result Bool CdrFault
truth place zero = Ok false
truth place (suc zero) = Ok true
truth place (suc (suc n)) = Err (BadBoolean place)

-- Encapsulation: FALSE is big-endian, and TRUE little-endian
abbrev pub order_of : Bool → Order
order_of false = Big
order_of true = Little
