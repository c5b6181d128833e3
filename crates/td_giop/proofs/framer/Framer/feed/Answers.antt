use Rattle.std.proofs.Common.{◌≡◌, ◌+◌, ◌<◌, ◌≤◌, length, ℕ, arith, length-append, ap, sym, subst, ◌^◌, ◌∙◌}
use Rattle.td_giop.specs.Stream.{Stream}
use Rattle.td_giop.proofs.Framing.{filled, fed, bounded}
use Rattle.td_giop.proofs.framer.Framer.feed.Goals as goal

pub invariant_of-self-2 : goal.invariant_of-self-2
invariant_of-self-2 c =
    let old = c.self.inside.ring.items in
    let piece = c.args.piece.now in
    let room : length old + length piece ≤ c.make_room.new.ring.capacity =
    omega (arith, c.in_ok-make_room.ensures.room, c.len.ensures.len) in
    let ring_is =
    filled old c.make_room.new.ring.items c.fill_from_slice-count.new.self.items piece
    c.fill_from_slice-count.result c.make_room.new.ring.capacity
    c.fill_from_slice-count.ensures.count (ap (λ b. b.items) c.fill_from_slice-count.ensures.items)
    c.in_ok-make_room.ensures.items room in
    let held : length c.fill_from_slice-count.new.self.items ≡ length old + length piece =
    ap (length {A = ℕ}) ring_is ∙ length-append old piece in
    let within =
    subst (λ (v : Stream). v.start + (length v.rest + length piece) < 2 ^ 64) (sym c.self.view_is) c.requires in (
      bounded c.self.inside.start c.self.inside.message.items old piece c.reserve.new.self.items
          c.fill_from_slice-count.new.self.items c.reserve.ensures.items ring_is within,
      fed c.self.inside.limit c.reserve.new.self old c.fill_from_slice-count.new.self.items piece
          (rw c.reserve.ensures.items c.self.invariant.1.front) ring_is
          (omega (arith, held, c.in_ok-reserve.ensures.ok, c.len.ensures.len)),
    )
