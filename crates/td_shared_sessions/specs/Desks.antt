-- The passes of the desk of iterators that sessions share.
use Rattle.std.specs.Prelude.{List}
use Rattle.td_cell.specs.Passes.{Belongs, IsOpening, IsSplitOff, SameCell}
use Rattle.td_cell.specs.declared.book.Book.{Ghosts}
use Rattle.td_cell.specs.declared.cell.Cell.{Cell}
use Rattle.td_cell.specs.declared.pass.Pass.{Pass}
use Rattle.td_desk.specs.declared.event.Event.{Event}

module _ {A R : Type 0} {g : Ghosts (List Event) A R} where
  -- the pass with which this desk was opened
  pub record OpensDesk (c : Cell (List Event) A R) (p : Pass (List Event) A R g) : Type 0 where
    pub belongs : Belongs p c
    pub opening : IsOpening p

  -- t was split off p, the opening pass, which hasn't met it
  pub record IsOutOf (p t : Pass (List Event) A R g) : Type 0 where
    pub of_cell : SameCell t p
    pub split : IsSplitOff p t
