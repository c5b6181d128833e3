-- CORBA, General Inter-ORB Protocol, "CDR Transfer Syntax": an octet stream, seen from where a reader stands in it.
use Rattle.std.specs.Prelude.{ℕ, List}
use Rattle.td_cdr.specs.declared.order.Order.{Order}

-- where a reader stands
pub record At : Type 0 where
  -- what is left of the message or encapsulation
  pub rest : List ℕ
  -- counted from the message's first byte
  pub place : ℕ
  -- where alignment counts from
  pub origin : ℕ
  pub order : Order
