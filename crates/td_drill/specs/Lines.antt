-- The line of a drill.
use Rattle.std.specs.Prelude.{ℕ, List, ◌++◌, codes}
use Rattle.td_forms.specs.Counted.{label_number}
use Rattle.td_drill.specs.declared.tally.Tally.{Tally}

abbrev pub group_part : (traders offers : ℕ) → List ℕ
group_part traders offers = label_number (codes "traders ") traders
    ++ label_number (codes " offers ") offers

abbrev pub walks_part : Tally → List ℕ
walks_part t =
    label_number (codes " queries ") t.queries ++ label_number (codes " searched ") t.searched
    ++ label_number (codes " repeats ") t.repeats ++ label_number (codes " returned ") t.returned
    ++ codes "\n"

abbrev pub drill_line : (traders offers : ℕ) → Tally → List ℕ
drill_line traders offers t = group_part traders offers ++ walks_part t
