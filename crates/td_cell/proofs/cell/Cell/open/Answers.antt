use Rattle.td_cell.proofs.Splits.{begins}
use Rattle.td_cell.proofs.cell.Cell.open.Goals as goal

pub new-requires : goal.new-requires
new-requires g c =
    rw (
      c.of-about.ensures,
      c.in_ok-push.ensures.items,
      c.in_ok-slots.ensures.items,
      c.changes-changes.ensures,
      c.marks-marks.ensures,
    )
    (begins g.B.Book.later g.B.Book.size g.B.Book.remembers g.met.B.Book.later_itself c.args.book)
