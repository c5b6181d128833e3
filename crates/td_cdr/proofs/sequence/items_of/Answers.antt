use Rattle.std.proofs.lemmas.Result.{err_from_is_err_and}
use Rattle.td_cdr.specs.ValueFaults.{is_memory}
use Rattle.td_cdr.specs.Format.{array_format}
use Rattle.td_cdr.proofs.SequenceReading.{goes_on, ends, is_done}
use Rattle.td_cdr.proofs.sequence.items_of.Goals as goal

pub returns-in_err-item : goal.returns-in_err-item
returns-in_err-item g c =
    let f = g.T.Spelled.format in
    let p = err_from_is_err_and c.from_residual-in_err-item.result c.from_residual-in_err-item.ensures.1 in
    rw (p.1, p.2) (ends is_memory f c.loop.items c.args.count c.loop.counter c.loop.r c.read.new.r _
    ((array_format f c.args.count).reads c.args.r.now) c.loop-test.true c.in_err-item.ensures c.loop.invariant)

pub loop-preserved : goal.loop-preserved
loop-preserved g c =
    rw c.in_ok-push.ensures.ok
    (goes_on g.T.Spelled.format c.loop.items c.args.count c.loop.counter c.loop.r _ _
    ((array_format g.T.Spelled.format c.args.count).reads c.args.r.now) c.loop-test.true c.in_ok-item.ensures
    c.loop.invariant)

pub returns : goal.returns
returns g c =
    is_done g.T.Spelled.format c.loop.items c.args.count c.loop.counter c.loop.r
    ((array_format g.T.Spelled.format c.args.count).reads c.args.r.now) c.loop-test.false c.loop.invariant
