use Rattle.std.proofs.Common.{◌≡◌, ◌++◌, drop}
use Rattle.td_lang.specs.Spelling.{inside_quotes}
use Rattle.td_eval.proofs.expansion.put_inside.Given as goal

abbrev pub invariant-loop-byte : goal.invariant-loop-byte
invariant-loop-byte l =
    l.out.items ++ inside_quotes (drop l.byte-index l.text) ≡ l.initial.out.items ++ inside_quotes l.text
