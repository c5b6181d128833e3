use Rattle.std.proofs.Common.{◌≡◌, drop}
use Rattle.td_file.specs.Openings.{missing_in}
use Rattle.td_file.proofs.unknown.missing_in.Given as goal

-- what is left tells what all tell
abbrev pub invariant-loop-trader : goal.invariant-loop-trader
invariant-loop-trader l = missing_in l.all (drop l.trader-index l.traders) ≡ missing_in l.all l.traders
