-- What contracts say of passes and cells.
use Rattle.std.specs.Prelude.{◌≡◌, ◌<◌, ◌≤◌, length}
use Rattle.td_cell.specs.declared.book.Book.{Ghosts}
use Rattle.td_cell.specs.declared.pass.Pass.{Pass}
use Rattle.td_cell.specs.declared.pass.View.{View}
use Rattle.td_cell.specs.declared.cell.Cell.{Cell}

-- the number and the passes that were met are as before
pub record SameNumbers {B : Type 0} (v w : View B) : Type 0 where
  pub number : w.number ≡ v.number
  pub met : w.met ≡ v.met

module _ {B A R : Type 0} where
  -- the book with which the cell was opened
  abbrev pub opened_book : Cell B A R → B
  opened_book c = c.table.shared.key.value

  module _ {g : Ghosts B A R} where
    -- what a pass knows
    abbrev pub knowledge : Pass B A R g → View B
    knowledge p = p.seat.me.0

    -- the pass is of this cell
    abbrev pub Belongs : Pass B A R g → Cell B A R → Type 0
    Belongs p c = p.seat.table_id ≡ c.table.shared.table_id

    -- both are passes of one cell
    abbrev pub SameCell : Pass B A R g → Pass B A R g → Type 0
    SameCell p q = p.seat.table_id ≡ q.seat.table_id

    -- the pass with which the cell was opened
    abbrev pub IsOpening : Pass B A R g → Type 0
    IsOpening p = (knowledge p).number ≡ 0

    -- the second was split off the first, an opening pass, which hasn't met it
    pub record IsSplitOff (opening other : Pass B A R g) : Type 0 where
      pub number : 0 < (knowledge other).number
      pub known : (knowledge other).number ≤ length (knowledge opening).met
