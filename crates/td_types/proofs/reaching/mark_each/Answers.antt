use Rattle.std.proofs.Common.{◌<◌, true, false, length, get_or, take, arith}
use Rattle.std.proofs.lemmas.List.{take_more}
use Rattle.td_types.proofs.Walks.{in-index, read_mark, marks_skip, marks_push}
use Rattle.td_types.proofs.reaching.mark_each.Goals as goal
use Rattle.td_types.proofs.reaching.mark_each.Goals.{then-not-index+in_ok-push, else-not-index}

pub index-requires : goal.index-requires
index-requires c =
    let b = c.requires _ (in-index c.args.places.now c.loop-place.place-index c.loop-place-test.true) in
    omega (arith, b, c.loop-place.invariant.count, c.loop-place.marks.ok.0)

pub index_mut-requires : goal.index_mut-requires
index_mut-requires c =
    let b = c.requires _ (in-index c.args.places.now c.loop-place.place-index c.loop-place-test.true) in
    omega (arith, b, c.loop-place.invariant.count, c.loop-place.marks.ok.0)

pub loop-place-preserved : goal.loop-place-preserved
loop-place-preserved c =
    elim c.if-not-index.branch [
      | then-not-index+in_ok-push w ↦
          let p = get_or c.args.places.now c.loop-place.place-index 0 in
          let b : p < length c.args.marks.now.items =
          c.requires p (in-index c.args.places.now c.loop-place.place-index c.loop-place-test.true) in
          rw (
            w.marks-is,
            w.queue-is,
            w.in_ok-push.ensures.items,
            take_more c.args.places.now c.loop-place.place-index 0 c.loop-place-test.true,
          )
          (marks_push (take c.loop-place.place-index c.args.places.now) p c.args.marks.now.items c.args.queue.now.items
          c.loop-place.marks.items c.loop-place.queue.items b
          (read_mark c.loop-place.marks.items p c.index.result.now false
          (omega (arith, b, c.loop-place.invariant.count)) c.index.ensures w.if-not-index.true)
          c.loop-place.invariant)
      | else-not-index w ↦
          let p = get_or c.args.places.now c.loop-place.place-index 0 in
          let b : p < length c.args.marks.now.items =
          c.requires p (in-index c.args.places.now c.loop-place.place-index c.loop-place-test.true) in
          rw (w.marks-is, w.queue-is, take_more c.args.places.now c.loop-place.place-index 0 c.loop-place-test.true)
          (marks_skip (take c.loop-place.place-index c.args.places.now) p c.args.marks.now.items c.args.queue.now.items
          c.loop-place.marks.items c.loop-place.queue.items
          (read_mark c.loop-place.marks.items p c.index.result.now true (omega (arith, b, c.loop-place.invariant.count))
          c.index.ensures w.if-not-index.false)
          c.loop-place.invariant)
    ]
