use Rattle.std.proofs.Common.{◌≡◌, ◌+◌, ◌-◌, ◌≤◌, [], false, length, drop}
use Rattle.td_lang.specs.Lexing.{quoted_from}
use Rattle.td_lang.proofs.lexer.quoted_from.Given as goal

abbrev pub invariant-loop-size : goal.invariant-loop-size
invariant-loop-size l = record {
  within : l.size ≤ length l.text;
  so_far : quoted_from false [] 1 l.text ≡ quoted_from l.escaped l.own.items (l.size + 1) (drop l.size l.text);
}

abbrev pub decreases-loop-size : goal.decreases-loop-size
decreases-loop-size l = length l.text - l.size
