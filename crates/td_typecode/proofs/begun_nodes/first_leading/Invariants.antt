use Rattle.std.proofs.Common.{◌≡◌, map, drop}
use Rattle.td_indirection.specs.Indirections.{number_from}
use Rattle.td_typecode.proofs.begun_nodes.first_leading.Given as goal

-- the first of those that are left is the first of all
abbrev pub invariant-loop-number : goal.invariant-loop-number
invariant-loop-number l =
    number_from l.number (map (λ b. b.place) (drop l.number l.nodes)) l.distance l.place
    ≡ number_from 0 (map (λ b. b.place) l.nodes) l.distance l.place
