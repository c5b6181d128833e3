use Rattle.std.proofs.Common.{sym}
use Rattle.td_audit.proofs.Going.{ahead-on, ahead-over}
use Rattle.td_audit.proofs.making.follow.Goals as goal

pub returns-in-Some-clause-follows : goal.returns-in-Some-clause-follows
returns-in-Some-clause-follows c =
    ahead-over c.args.root c.loop.net c.args.net.now c.loop.text.items c.args.text.now.items c.in-Some.field-0.now
    (sym c.in-Some.ensures) c.loop.invariant.ahead

pub loop-preserved : goal.loop-preserved
loop-preserved c =
    let goes = rw c.innermost_call.ensures at c.in_ok-go_on-in-None.ensures.goes in record {
      ahead =
          ahead-on c.args.root c.loop.net c.go_on.new.net c.args.net.now c.loop.text.items c.go_on.new.text.items
          c.args.text.now.items (sym c.in-None.ensures) goes c.loop.invariant.ahead;
      sound = c.in_ok-go_on-in-None.ensures.sound;
    }
