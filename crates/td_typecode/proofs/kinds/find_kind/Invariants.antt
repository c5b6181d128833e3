use Rattle.std.proofs.Common.{◌≡◌, drop}
use Rattle.td_typecode.specs.Kinds.{kind_by_number}
use Rattle.td_typecode.proofs.kinds.find_kind.Given as goal

-- what is left to look through finds what all of it finds
abbrev pub invariant-loop-kind : goal.invariant-loop-kind
invariant-loop-kind l = kind_by_number (drop l.kind-index l.kinds) l.number ≡ kind_by_number l.kinds l.number
