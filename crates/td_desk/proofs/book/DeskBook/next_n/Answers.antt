use Rattle.std.proofs.Common.{ℕ, ◌+◌, ◌<◌, ◌≤◌, Bool, List, [], ◌∷◌, ◌++◌, Result, Err, sym, ap, subst, ◌∙◌, arith}
use Rattle.td_cdr.specs.declared.order.Order.{Order}
use Rattle.td_ghost_list.specs.Entries.{entries_of}
use Rattle.td_desk.proofs.Kept.{gives_done, gives_memory}
use Rattle.td_desk.proofs.Replaying.{given_on}
use Rattle.td_desk.specs.Acting.{GivesBatch}
use Rattle.td_desk.specs.Standings.{IsReplayed, most}
use Rattle.td_desk.specs.declared.event.Event.{Event}
use Rattle.td_desk.specs.declared.event.Event.TheVariants.{Next}
use Rattle.td_desk.specs.declared.fault.DeskFault.{DeskFault}
use Rattle.td_desk.specs.declared.fault.DeskFault.TheVariants.{Memory}
use Rattle.td_desk.proofs.book.DeskBook.next_n.Goals as goal

pub invariant_of-self-in-Ok : goal.invariant_of-self-in-Ok
invariant_of-self-in-Ok c =
    let s = c.self.inside in
    let lt : s.calls < most = omega (arith, c.if-self-ge-MOST.false) in (
      subst (λ (h : List Event). IsReplayed h c.give.new.entries.items s.draws s.adds (s.calls + 1))
          (sym c.note.ensures) (given_on (entries_of s.past) s.entries.items s.draws s.adds s.calls c.self.invariant.0
          c.args.trader c.args.number c.args.n c.order-order.result c.place_of-place.result c.give.new.entries.items
          c.args.begun.writer c.give.new.w c.in-Ok.given c.place_of-place.ensures.place c.in-Ok.ensures.given
          c.order-order.ensures lt),
      subst (λ (k : ℕ). 4096 ≤ k) (sym c.in-Ok.ensures.capacity) c.self.invariant.1,
    )

pub returns-in-Err : goal.returns-in-Err
returns-in-Err c =
    let s = c.self.inside in
    let lt : s.calls < most = omega (arith, c.if-self-ge-MOST.false) in
    subst (λ (h : List Event). GivesBatch h c.args.trader c.args.number c.args.n c.args.begun.writer c.give.new.w
    (entries_of s.past) (Err Memory)) c.self.view_is (gives_memory (entries_of s.past) s.entries.items s.draws s.adds
    s.calls c.self.invariant.0 c.args.trader c.args.number c.args.n c.args.begun.writer lt c.place_of-place.result
    c.place_of-place.ensures.place c.give.new.entries.items c.give.new.w c.in-Err.ensures.order c.in-Err.field-0
    c.in-Err.ensures.given)

pub returns-in-Ok : goal.returns-in-Ok
returns-in-Ok c =
    let s = c.self.inside in
    let h = entries_of s.past in
    let lt : s.calls < most = omega (arith, c.if-self-ge-MOST.false) in
    subst (λ (h : List Event). GivesBatch h c.args.trader c.args.number c.args.n c.args.begun.writer c.give.new.w
    (entries_of c.note.new.self) c.or_absent.result) c.self.view_is
    (subst (λ (r : Result Bool DeskFault). GivesBatch h c.args.trader c.args.number c.args.n c.args.begun.writer
    c.give.new.w (entries_of c.note.new.self) r) (sym c.or_absent.ensures)
    (gives_done h s.entries.items s.draws s.adds
    s.calls c.self.invariant.0 c.args.trader c.args.number c.args.n c.args.begun.writer lt c.place_of-place.result
    c.place_of-place.ensures.place c.give.new.entries.items c.give.new.w c.in-Ok.ensures.order c.in-Ok.given
    (entries_of c.note.new.self) c.in-Ok.ensures.given
    (c.note.ensures ∙ ap (λ (o : Order). h ++ Next c.args.trader c.args.number c.args.n o ∷ []) c.order-order.ensures)))
