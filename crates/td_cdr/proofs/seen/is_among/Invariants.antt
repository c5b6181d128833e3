use Rattle.std.proofs.Common.{◌≡◌, drop}
use Rattle.td_cdr.specs.Seen.{is_among, names_of}
use Rattle.td_cdr.proofs.seen.is_among.Given as goal

abbrev pub invariant-loop-other : goal.invariant-loop-other
invariant-loop-other l = is_among l.name (names_of (drop l.other-index l.names)) ≡ is_among l.name (names_of l.names)
