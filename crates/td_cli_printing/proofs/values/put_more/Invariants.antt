use Rattle.std.proofs.Common.{◌≡◌, ◌++◌, drop}
use Rattle.td_cli_printing.specs.Values.{with_commas}
use Rattle.td_cli_printing.proofs.values.put_more.Given as goal

-- with what is left, it makes what all makes
abbrev pub invariant-loop-value : goal.invariant-loop-value
invariant-loop-value l =
    l.out.items ++ with_commas (drop l.value-index l.values) ≡ l.initial.out.items ++ with_commas l.values
