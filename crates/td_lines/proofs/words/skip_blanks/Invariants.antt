use Rattle.std.proofs.Common.{◌≡◌, ◌≤◌, length}
use Rattle.td_lines.specs.Words.{cut_word}
use Rattle.td_lines.proofs.words.skip_blanks.Given as goal

abbrev pub decreases-loop-first : goal.decreases-loop-first
decreases-loop-first l = length l.rest

-- skipped blanks leave the words
abbrev pub invariant-loop-first : goal.invariant-loop-first
invariant-loop-first l = record {
  same : cut_word l.rest ≡ cut_word l.line;
  shorter : length l.rest ≤ length l.line;
}
