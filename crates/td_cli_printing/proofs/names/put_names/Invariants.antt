use Rattle.std.proofs.Common.{◌≡◌, ◌++◌, drop}
use Rattle.td_cli_printing.specs.Names.{name_lines}
use Rattle.td_cli_printing.proofs.names.put_names.Given as goal

-- with what is left, it makes what all makes
abbrev pub invariant-loop-name : goal.invariant-loop-name
invariant-loop-name l =
    l.out.items ++ name_lines (drop l.name-index l.names) ≡ l.initial.out.items ++ name_lines l.names
