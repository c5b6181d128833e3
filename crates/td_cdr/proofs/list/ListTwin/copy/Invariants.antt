use Rattle.std.proofs.Common.{◌≡◌, take}
use Rattle.td_cdr.proofs.list.ListTwin.copy.Given as goal

-- what was copied so far is what was gone over
abbrev pub invariant-loop-item : goal.invariant-loop-item
invariant-loop-item g l = l.twin ≡ take l.item-index l.item-items
