use Rattle.std.proofs.Common.{◌<◌, length, refl, rules, None}
use Rattle.td_net.proofs.Becoming.{some-there}
use Rattle.td_net.proofs.Delivering.{asked-from}
use Rattle.td_net.proofs.Taking.{ask-wants}
use Rattle.td_net.proofs.beginning.ask.Goals as goal
use Rattle.td_net.specs.Worlds.{sent, world_of}

pub returns-in-Ok : goal.returns-in-Ok
returns-in-Ok c =
    let ts = c.args.group.now.traders.items in
    let calls = c.args.visits.now.calls.items in
    let within : c.args.trader < length ts = search rules in
    let t = some-there ts c.args.trader within in
    asked-from ts c.args.group.now.home calls c.open_asked.new.calls.items c.args.clock.now c.args.visits.now.words
    c.args.trader c.args.query t.0 c.in-Ok.call c.deliver_next.result
    (world_of c.deliver_next.new.group c.deliver_next.new.visits c.deliver_next.new.clock) t.1
    c.in-Ok.ensures.number c.in-Ok.ensures.opened
    (λ at. c.deliver_next.ensures (sent c.args.trader c.args.query (length calls) None) t.0 at refl refl t.1)

pub returns-in-Err : goal.returns-in-Err
returns-in-Err c =
    let ts = c.args.group.now.traders.items in
    let within : c.args.trader < length ts = search rules in
    let t = some-there ts c.args.trader within in
    ask-wants ts c.args.group.now.home c.args.visits.now.calls.items c.open_asked.new.calls.items c.args.clock.now
    c.args.visits.now.words c.args.trader c.args.query t.0 t.1 c.in-Err.ensures.kept
