use Rattle.std.proofs.Common.{◌≡◌, ◌++◌, drop}
use Rattle.td_check.specs.Checked.{all_lines}
use Rattle.td_check.proofs.checking.put_all.Given as goal

-- with what is left, it makes what all makes
abbrev pub invariant-loop-trader : goal.invariant-loop-trader
invariant-loop-trader l =
    l.text.items ++ all_lines l.home (drop l.trader-index l.traders)
    ≡ l.initial.text.items ++ all_lines l.home l.traders
