use Rattle.std.proofs.Common.{◌≡◌, map, take}
use Rattle.td_names.specs.Applying.{binding_of}
use Rattle.td_names.proofs.bindings.Bindings.list.Given as goal

abbrev pub invariant-loop-i : goal.invariant-loop-i
invariant-loop-i l = l.list ≡ map binding_of (take l.i l.self)
