use Rattle.std.proofs.Common.{◌≡◌, ◌++◌, drop}
use Rattle.td_cli_printing.specs.Names.{limit_words}
use Rattle.td_cli_printing.proofs.names.put_limit_words.Given as goal

-- with what is left, it makes what all makes
abbrev pub invariant-loop-limit : goal.invariant-loop-limit
invariant-loop-limit l =
    l.out.items ++ limit_words (drop l.limit-index l.limits) ≡ l.initial.out.items ++ limit_words l.limits
