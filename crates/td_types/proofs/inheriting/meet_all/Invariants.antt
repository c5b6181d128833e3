use Rattle.std.proofs.Common.{◌≡◌, drop}
use Rattle.td_types.specs.Conforming.{once}
use Rattle.td_cdr.specs.Seen.{HaveSeen}
use Rattle.td_types.proofs.inheriting.meet_all.Given as goal

abbrev pub invariant-loop-name : goal.invariant-loop-name
invariant-loop-name l =
    HaveSeen l.fn.seen l.fn.met
    → (once l.met (drop l.name-index l.names) ≡ once l.fn.met l.names) × HaveSeen l.seen l.met
