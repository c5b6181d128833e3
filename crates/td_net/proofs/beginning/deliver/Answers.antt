use Rattle.std.proofs.Common.{◌≡◌, ◌<◌, ap, length, rules, subst, sym, true}
use Rattle.td_net.proofs.Becoming.{read, some-there}
use Rattle.td_net.proofs.Delivering.{delivers-at, sent-of}
use Rattle.td_net.proofs.Taking.{there}
use Rattle.td_net.proofs.beginning.deliver.Goals as goal
use Rattle.td_net.specs.Worlds.{is_sent, world_of}
use Rattle.td_net.specs.declared.call.Call.{Call}
use Rattle.std.specs.Prelude.{Some, slice_get}

pub returns : goal.returns
returns c =
    let calls = c.args.visits.now.calls.items in
    let ts = c.args.group.now.traders.items in
    let x = c.index.result.now in
    let within : c.args.call < length calls = search rules in
    let is = there calls c.args.call x within c.index.ensures in
    let same : x ≡ c.index-2.result.now = read calls c.args.call x c.index-2.result.now is c.index-2.ensures in
    let sent_now : is_sent x.stage ≡ true = search rules in
    let stage = sent-of x.stage sent_now in
    let target_is : x.target ≡ c.index-2.result.now.target = ap (λ (z : Call). z.target) same in
    let within2 : c.index-2.result.now.target < length ts = search rules in
    let t = some-there ts c.index-2.result.now.target within2 in
    delivers-at (world_of c.args.group.now c.args.visits.now c.args.clock.now) c.args.call x t.0 c.deliver_next.result
    (world_of c.deliver_next.new.group c.deliver_next.new.visits c.deliver_next.new.clock) is stage
    (subst (λ z. slice_get ts z ≡ Some t.0) (sym target_is) t.1)
    (c.deliver_next.ensures x t.0 is target_is stage t.1)
