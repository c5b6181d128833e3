use Rattle.std.proofs.Common.{◌+◌, ◌∷◌, [], false, length, arith, sym, ◌∙◌, ap, length-append}
use Rattle.td_cell.specs.Rules.{count_met}
use Rattle.td_cell.proofs.Counts.{count-more}
use Rattle.td_cell.proofs.Splits.{split_allowed}
use Rattle.td_cell.proofs.cell.Cell.split.Goals as goal

pub split_seat-seat-requires : goal.split_seat-seat-requires
split_seat-seat-requires g c =
    let p = c.args.pass.now in (
      c.requires.own,
      omega (arith, c.args.self.now.three_words),
      split_allowed g.B.Book.later g.B.Book.size g.B.Book.remembers c.args.self.now.table.shared.key.value p.seat.id
          p.seat.me.0 c.requires.opening p.live p.rests,
    )

pub invariant_of-pass : goal.invariant_of-pass
invariant_of-pass g c =
    let p = c.args.pass.now in
    let e = c.split_seat-seat.ensures.2 in
    let met = p.seat.me.0.met in record {
      splits_counted =
          ap (λ n. n + 1) p.splits_counted ∙ sym (length-append met (false ∷ [])) ∙ ap (λ m. length m.0.met) (sym e);
      meetings_counted = p.meetings_counted ∙ ap (λ m. m.0.meetings) (sym e);
      meetings_are_met = p.meetings_are_met ∙ sym (count-more met) ∙ ap (λ m. count_met m.0.met) (sym e);
      counted = p.counted ∙ ap (λ m. m.0.changes) (sym e);
      live = ap (λ m. m.0.spent) e ∙ p.live;
      rests = ap (λ m. m.0.holds) e ∙ p.rests;
      knows = rw e p.knows;
      sized = rw e p.sized;
      quiet = ap (λ m. m.0.content) e ∙ p.quiet;
      empty = ap (λ m. m.1) e ∙ p.empty;
    }
