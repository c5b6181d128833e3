use Rattle.std.proofs.Common.{◌≡◌, ◌+◌, length, map, drop}
use Rattle.td_cdr.specs.Format.{row}
use Rattle.td_cdr.specs.declared.order.Order.TheVariants.{Big}
use Rattle.td_typecode.specs.References.{profile}
use Rattle.td_value.proofs.ends.profiles_end.Given as goal

-- what is left ends where all of it does
abbrev pub invariant-loop-p : goal.invariant-loop-p
invariant-loop-p l =
    l.end + length (row (map profile.format.writes (drop l.p-index l.profiles)) Big l.end)
    ≡ l.initial.end + length (row (map profile.format.writes l.profiles) Big l.initial.end)
