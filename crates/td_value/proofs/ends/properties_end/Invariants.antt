use Rattle.std.proofs.Common.{◌≡◌, ◌+◌, length, map, drop}
use Rattle.td_cdr.specs.Format.{row}
use Rattle.td_cdr.specs.declared.order.Order.TheVariants.{Big}
use Rattle.td_value.specs.Structures.{property}
use Rattle.td_value.proofs.ends.properties_end.Given as goal

-- what is left ends where all of it does
abbrev pub invariant-loop-p : goal.invariant-loop-p
invariant-loop-p l =
    l.end + length (row (map property.format.writes (drop l.p-index l.properties)) Big l.end)
    ≡ l.initial.end + length (row (map property.format.writes l.properties) Big l.initial.end)
