use Rattle.std.proofs.Common.{◌≡◌, drop}
use Rattle.td_cdr.specs.Format.{value_named}
use Rattle.td_cdr.proofs.named.find_named.Given as goal

-- what is left to look through finds what all of it finds
abbrev pub invariant-loop-item : goal.invariant-loop-item
invariant-loop-item g l =
    value_named g.K.Named.name_of (drop l.item-index l.all) l.name ≡ value_named g.K.Named.name_of l.all l.name
