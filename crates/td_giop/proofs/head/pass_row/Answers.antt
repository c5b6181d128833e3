use Rattle.std.proofs.Common.{rules, ◌≡◌, Ok}
use Rattle.td_cdr.specs.Format.{array_format}
use Rattle.td_giop.specs.Heads.{context, skip_value}
use Rattle.td_giop.proofs.Passing.{goes_on}
use Rattle.td_giop.proofs.head.pass_row.Goals as goal

pub loop-turn-preserved : goal.loop-turn-preserved
loop-turn-preserved c =
    let read : context.format.reads c.loop-turn.r
    ≡ Ok ((c.in_ok-_id._id, c.in_ok-_octets._octets.now), c.octets.new.self) =
    search rules in
    goes_on context.format c.args.count c.loop-turn.turn c.loop-turn.r c.octets.new.self
    (c.in_ok-_id._id, c.in_ok-_octets._octets.now)
    (skip_value ((array_format context.format c.args.count).reads c.args.r.now)) c.loop-turn-test.true read
    c.loop-turn.invariant
