use Rattle.std.proofs.Common.{◌-◌, arith, sym, ◌∙◌, subst, ap}
use mathlib.Core.Option.{none}
use Rattle.atomic_table.specs.Table.{Allows, step}
use Rattle.td_cell.specs.Rules.{KeepsRule, LearnsMet, count_met, met_view}
use Rattle.td_cell.proofs.Meets.{meet_allowed, learn_allows}
use Rattle.td_cell.proofs.Chains.{one_seen}
use Rattle.td_cell.proofs.Counts.{meeting-within}
use Rattle.td_cell.proofs.cell.Cell.meet.Goals as goal

pub join_seat-requires : goal.join_seat-requires
join_seat-requires g c =
    let p = c.args.pass.now in
    let q = c.args.told in (
      c.requires.own.0,
      c.requires.own.1,
      q.empty,
      omega (arith, c.args.self.now.three_words),
      meet_allowed g.B.Book.later g.B.Book.size g.B.Book.remembers c.args.self.now.table.shared.key.value p.seat.id
          q.seat.id p.seat.me.0 q.seat.me.0 c.requires.opening p.live p.rests c.requires.split_off.number q.live
          q.rests,
    )

pub load-pass-requires : goal.load-pass-requires
load-pass-requires g c =
    let p = c.args.pass.now in
    let q = c.args.told in
    let b = g.B.Book in
    let tab = c.args.self.now.table.shared in
    let n = tab.table_id.slots in
    let e = c.join_seat.ensures.2 ∙ ap (λ xs. (met_view p.seat.me.0 q.seat.me.0, xs)) p.empty in
    let x = one_seen p.seat.me.0.seen p.knows in
    let y = one_seen q.seat.me.0.seen q.knows in (
      c.join_seat.ensures.0 ∙ c.requires.own.0,
      omega (arith, c.args.self.now.three_words),
      subst (λ m. Allows (KeepsRule b.later b.size b.remembers tab.key.value) n c.join_seat.new.seat.id m 1 (λ n. n)
          (LearnsMet b.later b.size b.remembers (step n 1 0 0 none) m))
          (sym e)
          (learn_allows b.later b.size b.remembers tab.key.value g.met.B.Book.later_itself
          (λ x y l. (g.met.B.Book.later_marks x y l).ring) n (met_view p.seat.me.0 q.seat.me.0)
          c.join_seat.new.seat.id c.requires.opening p.live p.rests x.0 y.0 x.1 y.1),
    )

pub overflow_add-pass : goal.overflow_add-pass
overflow_add-pass g c =
    let p = c.args.pass.now in
    let q = c.args.told in
    let e = c.join_seat.ensures.2 in
    let counted = ap (λ m. m.0.meetings) (sym e) ∙ c.load-pass.ensures.2.0.meetings ∙ ap (λ m. count_met m.0.met) e in
    let within = meeting-within p.seat.me.0.met (q.seat.me.0.number - 1) p.seat.me.0.meetings p.splits counted
    p.splits_counted in
    omega (arith, within, p.meetings_counted, c.fits-pass)
