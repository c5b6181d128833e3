use Rattle.std.proofs.Common.{◌≡◌, drop}
use Rattle.td_file.specs.Openings.{missing_among}
use Rattle.td_file.proofs.unknown.missing_among.Given as goal

-- what is left tells what all tell
abbrev pub invariant-loop-one : goal.invariant-loop-one
invariant-loop-one l = missing_among l.traders (drop l.one-index l.entries) ≡ missing_among l.traders l.entries
