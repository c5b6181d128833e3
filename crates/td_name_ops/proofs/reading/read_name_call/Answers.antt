use Rattle.std.proofs.Common.{sym}
use Rattle.td_name_ops.proofs.Told.{call-answered}
use Rattle.td_name_ops.proofs.reading.read_name_call.Goals as goal

pub returns : goal.returns
returns c =
    let is = rw c.copied-next.ensures.same at c.in_ok-call.ensures in
    call-answered c.args.kind c.args.operation.now c.args.body.now c.read_parameters.new.r c.in-Some.operation
    c.in_ok-call.call (sym c.in-Some.ensures) c.copied-next.ensures.inside c.copied-next.ensures.octets is
