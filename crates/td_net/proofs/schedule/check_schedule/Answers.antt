use Rattle.std.proofs.Common.{◌≡◌, rules}
use Rattle.td_net.proofs.Scheduling.{first-refused, passed-none, passed-on}
use Rattle.td_net.proofs.schedule.check_schedule.Goals as goal

pub loop-place-init : goal.loop-place-init
loop-place-init c =
    let all : c.into_iter-place-iterator.result.iter.rest.items ≡ c.args.events = search rules in
    let first : c.into_iter-place-iterator.result.count ≡ 0 = search rules in
    passed-none c.args.net c.args.events c.into_iter-place-iterator.result.iter.rest.items
    c.into_iter-place-iterator.result.count all first

pub loop-place-preserved : goal.loop-place-preserved
loop-place-preserved c =
    passed-on c.args.net c.loop-place.net c.on.new.self c.args.events c.loop-place.place-iterator.iter.rest.items
    c.next.new.self.iter.rest.items c.loop-place.place-iterator.count c.next.new.self.count c.in-Some.event
    c.loop-place.invariant c.in-Some.ensures.steps.0.0 c.in-Some.ensures.steps.2 c.in-Ok.ensures

pub returns-in-Err : goal.returns-in-Err
returns-in-Err c =
    first-refused c.args.net c.loop-place.net c.on.new.self c.args.events
    c.loop-place.place-iterator.iter.rest.items c.next.new.self.iter.rest.items c.loop-place.place-iterator.count
    c.in-Some.place c.in-Some.event c.in-Err.fault c.loop-place.invariant c.in-Some.ensures.steps.0.0
    c.in-Some.ensures.steps.1 c.in-Err.ensures
