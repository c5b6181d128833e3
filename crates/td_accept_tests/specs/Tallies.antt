-- A tally makes no marks.
use Rattle.std.specs.Prelude.{[]}
use Rattle.std.proofs.Common.{refl, le_refl}
use Rattle.td_cdr.specs.Marks.{Marks, Later}

abbrev pub no_marks : Marks
no_marks = record { count = 0; counter = 0; ring = 0; kept = [] }

pub marks_stay : Later no_marks no_marks
marks_stay = record {
  ring = refl;
  count = le_refl 0;
  counter = le_refl 0;
  keeps = λ e h b. h;
  same = λ e. refl;
}
