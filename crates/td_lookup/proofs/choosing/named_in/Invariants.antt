use Rattle.std.proofs.Common.{◌≡◌, ◌++◌, drop}
use Rattle.td_lookup.proofs.choosing.named_in.Given as goal
use Rattle.td_lookup.specs.Choosing.{named_in}

-- what is named and what is left make what all make
abbrev pub invariant-loop-name : goal.invariant-loop-name
invariant-loop-name l =
    l.named ++ named_in (drop l.name-index l.names) l.properties ≡ named_in l.names l.properties
