use Rattle.std.proofs.Common.{◌≤◌, ◌++◌, length, ℕ, List, refl, arith, ap, sym, subst, ◌∙◌}
use Rattle.std.proofs.lemmas.Bool.Decides.{when_true}
use Rattle.td_giop.specs.Stream.{Stream}
use Rattle.td_giop.specs.Header.{order_of_flag}
use Rattle.std.proofs.lemmas.Grind.{get_or_default_zero}
use Rattle.td_giop.specs.FramerLends.{IsRaw}
use Rattle.td_giop.proofs.Framing.{whole, is_raw}
use Rattle.td_giop.proofs.framer.Framer.next_message.Goals as goal

abbrev stream : ℕ → ℕ → List ℕ → Stream
stream start limit rest = record { start = start; rest = rest; limit = limit }

pub index-requires : goal.index-requires
index-requires c =
    let front = when_true _ _ c.if-not-branch.false c.in_ok-complete_message.ensures.found in
    let w = whole _ _ _ front in
    omega (arith, w.size)

pub index-requires-2 : goal.index-requires-2
index-requires-2 c =
    let front = when_true _ _ c.if-not-branch.false c.in_ok-complete_message.ensures.found in
    let w = whole _ _ _ front in
    omega (arith, w.size)

pub index-requires-3 : goal.index-requires-3
index-requires-3 c =
    let front = when_true _ _ c.if-not-branch.false c.in_ok-complete_message.ensures.found in
    let w = whole _ _ _ front in
    omega (arith, w.size)

pub returns : goal.returns
returns c =
    let front = when_true _ _ c.if-not-branch.false c.in_ok-complete_message.ensures.found in
    let w = whole _ _ _ front in
    let long : 12 ≤ length c.complete_message.new.message.items = omega (arith, w.size) in
    let same = c.in_ok-complete_message.ensures.same in
    let raw =
    is_raw (stream c.self.inside.start c.self.inside.limit
    (c.self.inside.message.items ++ c.self.inside.ring.items))
    c.complete_message.new.message.items c.complete_message.new.ring.items
    (record {
      start = c.self.inside.start;
      kind = c.index.result.now;
      order = c.order_of.result;
      bytes = c.as_slice.result;
      minor = c.index-3.result.now;
    })
    (sym same) front c.as_slice.ensures.value refl
    (c.index.ensures ∙ get_or_default_zero c.complete_message.new.message.items 7 c.index.result.now (omega arith))
    (c.order_of.ensures ∙ ap order_of_flag
    (c.index-2.ensures ∙ get_or_default_zero c.complete_message.new.message.items 6 c.index-2.result.now (omega arith)))
    (c.index-3.ensures ∙ get_or_default_zero c.complete_message.new.message.items 5 c.index-3.result.now (omega arith)) in (
      (refl, (λ _. tt), ap (stream c.self.inside.start c.self.inside.limit) same ∙ c.self.view_is),
      record {
        stays = tt;
        found = subst
            (λ (v : Stream). IsRaw v (record {
              start = c.self.inside.start;
              kind = c.index.result.now;
              order = c.order_of.result;
              bytes = c.as_slice.result;
              minor = c.index-3.result.now;
            }))
            c.self.view_is raw;
      },
    )
