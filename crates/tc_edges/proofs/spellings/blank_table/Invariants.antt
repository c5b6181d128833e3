use Rattle.std.proofs.Common.{◌≡◌, length}
use Rattle.tc_edges.specs.Edges.{IsBlank}
use Rattle.tc_edges.proofs.spellings.blank_table.Given as goal

abbrev pub invariant-loop : goal.invariant-loop
invariant-loop l = record { size : length l.table.items ≡ l.counter; blank : IsBlank l.table.items }
