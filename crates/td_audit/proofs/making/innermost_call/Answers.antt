use Rattle.std.proofs.Common.{◌≡◌, ◌-◌, ◌+◌, Some, length, sym, ◌∙◌, arith}
use Rattle.td_net.specs.Worlds.{state_at}
use Rattle.td_net.specs.declared.event.CallState.TheVariants as state
use Rattle.td_audit.proofs.Going.{inner-step}
use Rattle.td_audit.proofs.making.innermost_call.Goals as goal

pub loop-preserved : goal.loop-preserved
loop-preserved c =
    let calls = c.args.net.now.calls in
    let is : state_at calls c.loop.call ≡ Some (state.Waiting c.in-Some-Waiting.sub) = cc in
    sym (inner-step (length calls - c.loop.counter) (length calls - (c.loop.counter + 1)) calls c.loop.call
    c.in-Some-Waiting.sub (omega arith) is)
    ∙ c.loop.invariant
