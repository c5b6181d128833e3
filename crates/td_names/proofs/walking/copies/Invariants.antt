use Rattle.std.proofs.Common.{◌≡◌, take}
use Rattle.td_names.proofs.walking.copies.Given as goal

abbrev pub invariant-loop-component : goal.invariant-loop-component
invariant-loop-component l = l.copies ≡ take l.component-index l.components
