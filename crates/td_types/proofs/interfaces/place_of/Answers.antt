use Rattle.td_types.proofs.Placing.{none_before_more, none_before_all}
use Rattle.td_types.proofs.interfaces.place_of.Goals as goal

pub loop-place-preserved : goal.loop-place-preserved
loop-place-preserved c =
    none_before_more c.args.declared.now c.args.id.now c.loop-place.place c.index-declared-place.result
    c.as_slice.result.now c.eq.result c.loop-place-test.true c.index-declared-place.is c.as_slice.ensures
    c.eq.ensures c.if-eq.false c.loop-place.invariant

pub returns : goal.returns
returns c =
    none_before_all c.args.declared.now c.args.id.now c.loop-place.place c.loop-place-test.false c.loop-place.invariant
