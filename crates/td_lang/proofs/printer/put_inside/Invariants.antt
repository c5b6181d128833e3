use Rattle.std.proofs.Common.{◌≡◌, ◌++◌, drop}
use Rattle.td_lang.specs.Spelling.{inside_quotes}
use Rattle.td_lang.proofs.printer.put_inside.Given as goal

abbrev pub invariant-loop-byte : goal.invariant-loop-byte
invariant-loop-byte l =
    l.word.items ++ inside_quotes (drop l.byte-index l.text) ≡ l.initial.word.items ++ inside_quotes l.text
