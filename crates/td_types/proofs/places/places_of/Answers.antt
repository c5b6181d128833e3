use Rattle.td_types.proofs.Placing.{declared_here, placed_push, placed_skip, placed_all}
use Rattle.td_types.proofs.places.places_of.Goals as goal
use Rattle.td_types.proofs.places.places_of.Goals.{then-is_among+in_ok-push, else-is_among}

pub loop-place-preserved : goal.loop-place-preserved
loop-place-preserved c =
    elim c.if-is_among.branch [
      | then-is_among+in_ok-push w ↦
          rw (w.places-is, w.in_ok-push.ensures.ok)
          (placed_push c.args.declared.now c.args.ids.now c.loop-place.places c.loop-place.place
          (declared_here c.args.declared.now c.args.ids.now c.loop-place.place c.index-declared-place.result
          c.as_slice.result.now c.is_among.result _ c.loop-place-test.true c.index-declared-place.is
          c.as_slice.ensures c.is_among.ensures w.if-is_among.true)
          c.loop-place.invariant)
      | else-is_among w ↦
          rw w.places-is
          (placed_skip c.args.declared.now c.args.ids.now c.loop-place.places c.loop-place.place
          (declared_here c.args.declared.now c.args.ids.now c.loop-place.place c.index-declared-place.result
          c.as_slice.result.now c.is_among.result _ c.loop-place-test.true c.index-declared-place.is
          c.as_slice.ensures c.is_among.ensures w.if-is_among.false)
          c.loop-place.invariant)
    ]

pub returns : goal.returns
returns c =
    placed_all c.args.declared.now c.args.ids.now c.loop-place.places c.loop-place.place c.loop-place-test.false
    c.loop-place.invariant
