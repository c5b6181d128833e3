use Rattle.std.proofs.Common.{◌≡◌, ◌≤◌, ◌+◌, length}
use Rattle.std.specs.Str.Lines.{lines}
use Rattle.td_lines.specs.Scripts.{rest_of_file, script_of}
use Rattle.td_lines.proofs.reading.read_script.Given as goal

abbrev pub decreases-loop-rest : goal.decreases-loop-rest
decreases-loop-rest l = length l.rest

-- what is left of the file says what the file says, and lines are no more than bytes
abbrev pub invariant-loop-rest : goal.invariant-loop-rest
invariant-loop-rest l = record {
  same : rest_of_file l.number l.draft (lines l.rest) ≡ script_of l.text;
  few : l.number + length l.rest ≤ length l.text;
}
