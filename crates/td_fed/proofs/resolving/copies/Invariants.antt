use Rattle.std.proofs.Common.{◌≡◌, take}
use Rattle.td_fed.proofs.resolving.copies.Given as goal

-- what was copied so far is what was gone over
abbrev pub invariant-loop-name : goal.invariant-loop-name
invariant-loop-name l = l.copies ≡ take l.name-index l.names
