-- An acceptor in memory.
use Rattle.std.specs.Prelude.{◌≡◌, ℕ, Bool, true, false, List, [], ◌∷◌, Option, Some, Result, IfOk, OnOk}
use Rattle.std.specs.Prelude.{OnErr, is_err}
use Rattle.td_out.specs.declared.fault.Failed.{Failed}
use Rattle.td_out.specs.declared.calls.Calls.{Calls}
use Rattle.td_accept.specs.declared.mem_accept.Endpoint.{Endpoint}
use Rattle.td_out.specs.Calls.{fails, count_call, count_failure}
use Rattle.td_accept.specs.Doors.{VisitorComes, Door, bound_to}

pub record VisitorList (X : Type 0) : Type 0 where
  pub door : Door X
  pub calls : Calls

-- there is one
abbrev pub some_of : List Endpoint → Bool
some_of [] = false
some_of (x ∷ xs) = true

-- ---- calls. Each fails where its number is among those that do

-- a bind is refused only when out of memory besides
pub record BindsAddress {X : Type 0} (host : List ℕ) (port : ℕ) (old new : VisitorList X)
    (result : Result (Unit {0}) Failed) : Type 0 where
  pub fails_as_set : OnOk result (fails old.calls ≡ false)
  pub opened : OnOk result (new
      ≡ record { door = bound_to host port old.door; calls = count_call old.calls })
  pub refused : OnErr result (new ≡ record old { calls = count_failure old.calls })

-- a visitor is refused there alone
pub record Admits {X : Type 0} (old new : VisitorList X)
    (result : Result (Option X) Failed) : Type 0 where
  pub fails_as_set : is_err result ≡ fails old.calls
  pub came : IfOk result (λ came. VisitorComes came (Some old.door) (Some new.door))
  pub counted_on : OnOk result (new.calls ≡ count_call old.calls)
  pub refused : OnErr result (new ≡ record old { calls = count_failure old.calls })
