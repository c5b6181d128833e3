use Rattle.std.proofs.Common.{◌≡◌, ◌-◌, length}
use Rattle.td_audit.specs.Making.{innermost_call}
use Rattle.td_audit.proofs.making.innermost_call.Given as goal

-- from the call that was reached, the rest of the steps lead where all lead
abbrev pub invariant-loop : goal.invariant-loop
invariant-loop l =
    innermost_call (length l.net.calls - l.counter) l.net.calls l.call ≡ innermost_call (length l.net.calls) l.net.calls l.fn.call
