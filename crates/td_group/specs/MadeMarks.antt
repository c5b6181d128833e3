-- The marks that a session makes at a trader, and their identifiers (OMG's Trading Object Service, the policy
-- request_id of a query and the attribute request_id_stem).
use Rattle.std.specs.Prelude.{◌≡◌, ℕ, List, ◌++◌, slice_get, Some}
use Rattle.td_cdr.specs.Marks.{In}
use Rattle.td_cell.specs.Passes.{knowledge}
use Rattle.td_cell.specs.declared.book.Book.{Ghosts}
use Rattle.td_cell.specs.declared.pass.Mark.{Mark}
use Rattle.td_cell.specs.declared.pass.Pass.{Pass}
use Rattle.td_trader.specs.PlainTraders.{PlainTrader}
use Rattle.td_group.specs.Made.{IsMadeAt}
use Rattle.td_group.specs.Seeing.{trader_of}

-- no two of them whose identifiers were made have one identifier
abbrev pub AreMadeApart : List Mark → Type 0
AreMadeApart ms =
    (a b : Mark) (k l : ℕ) → In a ms → In b ms → a.made ≡ Some k → b.made ≡ Some l
    → a.identifier ≡ b.identifier → a ≡ b

-- What a turn at trader k makes of the pass's own marks. A new one whose identifier was made has that of the trader's
-- stem at this point and of the counter's value; and of all its own, no two that were made have one identifier.
pub record MarksAt {A R : Type 0} {g : Ghosts PlainTrader A R} (ps : List (Pass PlainTrader A R g))
    (k : ℕ) (qs : List (Pass PlainTrader A R g)) : Type 0 where
  pub before : Pass PlainTrader A R g
  pub after : Pass PlainTrader A R g
  pub here : slice_get ps k ≡ Some before
  pub there : slice_get qs k ≡ Some after
  pub more : List Mark
  pub own_marks : (knowledge after).own_marks ≡ (knowledge before).own_marks ++ more
  pub made : (m : Mark) (value : ℕ) → In m more → m.made ≡ Some value
      → IsMadeAt (trader_of after) m.identifier value
  pub apart : AreMadeApart (knowledge after).own_marks
