use Rattle.std.proofs.Common.{◌≡◌, drop}
use Rattle.td_names.specs.Walking.{holder}
use Rattle.td_names.proofs.store.NameStore.holder.Given as goal

abbrev pub invariant-loop-i : goal.invariant-loop-i
invariant-loop-i l = holder l.self l.context l.name ≡ holder l.self l.at (drop l.i l.name)
