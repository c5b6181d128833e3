use Rattle.std.proofs.Common.{◌==◌, sym, ◌∙◌, ap, subst, arith}
use mathlib.Core.Option.{none}
use prog.Atomic.{either}
use Rattle.atomic_table.specs.Table.{Allows, step}
use Rattle.td_cell.specs.Rules.{KeepsRule, TakesTurn}
use Rattle.td_cell.proofs.Keeps.{take_allows}
use Rattle.td_cell.proofs.cell.Cell.take.Goals as goal

pub compare_exchange-requires : goal.compare_exchange-requires
compare_exchange-requires g c =
    let i = c.loop.invariant in
    let w = c.requires.own in
    let t = c.args.self.now.table.shared in
    let n = t.table_id.slots in
    let me = c.loop.seat.me in
    let empty = ap (λ m. m.1) i.4 ∙ c.requires.free.0 in
    let later = g.B.Book.later in
    let size = g.B.Book.size in
    let kept = g.B.Book.remembers in (
      i.2 ∙ w,
      omega (arith, c.args.self.now.three_words),
      subst (λ xs. Allows (KeepsRule later size kept t.key.value) n c.loop.seat.id (me.0, xs) 0 (λ k. either (k == 0) 1 k)
          (TakesTurn later size kept (step n 0 0 1 none) (me.0, xs)))
          (sym empty)
          (take_allows later size kept g.met.B.Book.later_itself g.met.B.Book.later_on t.key.value n me.0 c.loop.seat.id
          (ap (λ m. m.0.spent) i.4 ∙ c.requires.free.1)),
    )
