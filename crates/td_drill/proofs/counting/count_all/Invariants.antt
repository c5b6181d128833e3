use Rattle.std.proofs.Common.{◌≡◌, ◌+◌, drop}
use Rattle.td_drill.specs.Drills.{offers_in}
use Rattle.td_drill.proofs.counting.count_all.Given as goal

-- with what is left, it makes what all makes
abbrev pub invariant-loop-trader : goal.invariant-loop-trader
invariant-loop-trader l = l.count + offers_in (drop l.trader-index l.traders) ≡ offers_in l.traders
