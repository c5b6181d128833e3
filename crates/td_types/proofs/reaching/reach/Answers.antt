use Rattle.std.proofs.Common.{◌≡◌, ◌<◌, ℕ, List, length, get_or, true, subst, arith}
use Rattle.td_types.specs.Marking.{Marks}
use Rattle.td_types.specs.Reaching.{is_in}
use Rattle.td_types.proofs.Walks.{place-within, places-read, walked_more, walked_all}
use Rattle.td_types.proofs.reaching.reach.Goals as goal

pub index-requires : goal.index-requires
index-requires c =
    let h = c.loop-next-test.true in
    let b : c.loop-next.next < length c.loop-next.queue.items =
    omega (arith, h, c.len-in-loop-next.ensures, c.loop-next.queue.ok.0) in
    let k =
    place-within c.args.links.now.items c.args.starts.now c.loop-next.marks.items c.loop-next.queue.items
    c.loop-next.next c.index-place.result.now b c.index-place.ensures c.loop-next.invariant in
    omega (arith, k, c.args.links.now.ok.0)

pub mark_each-requires-in-loop-next : goal.mark_each-requires-in-loop-next
mark_each-requires-in-loop-next c place i =
    let h = c.loop-next-test.true in
    let b : c.loop-next.next < length c.loop-next.queue.items =
    omega (arith, h, c.len-in-loop-next.ensures, c.loop-next.queue.ok.0) in
    let k =
    place-within c.args.links.now.items c.args.starts.now c.loop-next.marks.items c.loop-next.queue.items
    c.loop-next.next c.index-place.result.now b c.index-place.ensures c.loop-next.invariant in
    let read =
    places-read c.args.links.now.items c.loop-next.queue.items c.loop-next.next c.index-place.result.now
    c.index.result.now c.as_slice.result.now b c.index-place.ensures k c.index.ensures c.as_slice.ensures in
    let m =
    c.requires.links (get_or c.loop-next.queue.items c.loop-next.next 0) place
    (subst (λ (places : List ℕ). is_in place places ≡ true) read i) in
    omega (arith, m, c.loop-next.invariant.count)

pub loop-next-preserved : goal.loop-next-preserved
loop-next-preserved c =
    let h = c.loop-next-test.true in
    let b : c.loop-next.next < length c.loop-next.queue.items =
    omega (arith, h, c.len-in-loop-next.ensures, c.loop-next.queue.ok.0) in
    let k =
    place-within c.args.links.now.items c.args.starts.now c.loop-next.marks.items c.loop-next.queue.items
    c.loop-next.next c.index-place.result.now b c.index-place.ensures c.loop-next.invariant in
    let read =
    places-read c.args.links.now.items c.loop-next.queue.items c.loop-next.next c.index-place.result.now
    c.index.result.now c.as_slice.result.now b c.index-place.ensures k c.index.ensures c.as_slice.ensures in
    let marks = c.mark_each-in-loop-next.new.marks.items in
    let queue = c.mark_each-in-loop-next.new.queue.items in
    walked_more c.args.links.now.items c.args.starts.now c.loop-next.marks.items c.loop-next.queue.items
    c.loop-next.next marks queue b
    (subst (λ (places : List ℕ). Marks places c.loop-next.marks.items c.loop-next.queue.items marks queue) read
    c.in_ok-mark_each-2.ensures)
    c.loop-next.invariant

pub returns : goal.returns
returns c =
    rw c.from_vec.ensures
    (walked_all c.args.links.now.items c.args.starts.now c.loop-next.marks.items c.loop-next.queue.items
    c.loop-next.next (omega (arith, c.loop-next-test.false, c.len-in-loop-next.ensures, c.loop-next.queue.ok.0))
    c.loop-next.invariant)
