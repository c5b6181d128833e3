use Rattle.std.proofs.Common.{◌≡◌, ◌+◌, ◌-◌, ◌≤◌, length, drop}
use Rattle.td_lang.specs.Lexing.{lead, is_blank}
use Rattle.td_lang.proofs.lexer.blank_length.Given as goal

abbrev pub invariant-loop-n : goal.invariant-loop-n
invariant-loop-n l = record {
  in_range : l.n ≤ length l.text;
  so_far : lead is_blank l.text ≡ lead is_blank (drop l.n l.text) + l.n;
}

abbrev pub decreases-loop-n : goal.decreases-loop-n
decreases-loop-n l = length l.text - l.n
