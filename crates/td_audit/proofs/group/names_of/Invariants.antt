use Rattle.std.proofs.Common.{◌≡◌, map, take}
use Rattle.td_trader.specs.PlainTraders.{PlainTrader}
use Rattle.td_audit.proofs.group.names_of.Given as goal

-- the names of those that were gone over
abbrev pub invariant-loop-trader : goal.invariant-loop-trader
invariant-loop-trader l = l.names ≡ map (λ (t : PlainTrader). t.name) (take l.trader-index l.traders)
