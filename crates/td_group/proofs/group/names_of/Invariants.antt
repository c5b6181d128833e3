use Rattle.std.proofs.Common.{◌≡◌, ◌++◌, drop, map, take}
use Rattle.std.specs.List.{All}
use Rattle.td_trader.specs.PlainTraders.{PlainTrader}
use Rattle.td_group.specs.Soundness.{IsLegalTrader}
use Rattle.td_group.proofs.group.names_of.Given as goal

-- the names so far and those of the traders that are left are those of all
abbrev pub invariant-loop-trader : goal.invariant-loop-trader
invariant-loop-trader l =
    (l.names.items ++ map (λ (t : PlainTrader). t.name) (drop l.trader-index l.traders)
    ≡ map (λ (t : PlainTrader). t.name) l.traders)
    × All IsLegalTrader (take l.trader-index l.traders)
