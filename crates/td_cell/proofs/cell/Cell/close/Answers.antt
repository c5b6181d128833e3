use Rattle.std.proofs.Common.{sym, ◌∙◌, subst}
use mathlib.Core.Option.{some-injective}
use Rattle.td_cell.specs.Rules.{Before}
use Rattle.td_cell.proofs.Closes.{at_home}
use Rattle.td_cell.proofs.cell.Cell.close.Goals as goal

pub returns-clause-later : goal.returns-clause-later
returns-clause-later g c =
    let p = c.args.pass in
    let b = g.B.Book in
    let key = c.args.self.table.shared.key.value in
    let met = sym c.whole.ensures ∙ c.if-not-whole.false in
    let h =
    at_home b.later b.size b.remembers key p.seat.id p.seat.me.0 c.requires.opening p.live p.rests met _ _
    c.close_with-closed.ensures.values.2 in
    let one = some-injective _ _ (sym h.1 ∙ c.take-book.ensures.value) in
    (subst (λ x. Before b.later p.seat.me.0.seen x) one h.2.seen, subst (λ x. b.later key x) one h.2.since)

pub returns-clause-places : goal.returns-clause-places
returns-clause-places g c =
    let p = c.args.pass in
    let b = g.B.Book in
    let key = c.args.self.table.shared.key.value in
    let met = sym c.whole.ensures ∙ c.if-not-whole.false in
    let h =
    at_home b.later b.size b.remembers key p.seat.id p.seat.me.0 c.requires.opening p.live p.rests met _ _
    c.close_with-closed.ensures.values.2 in
    let one = some-injective _ _ (sym h.1 ∙ c.take-book.ensures.value) in
    λ k above below. h.2.places k above (rw one below)
