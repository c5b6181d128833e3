use Rattle.std.proofs.Common.{◌≡◌, ◌-◌, ◌≤◌, reverse, length, drop}
use Rattle.td_lang.specs.Machine.{stand}
use Rattle.td_lang.specs.Reading.{start}
use Rattle.td_lang.specs.Tape.{tape, read_tape}
use Rattle.td_lang.proofs.reader.read_from.Given as goal

abbrev pub invariant-turns : goal.invariant-turns
invariant-turns l = record {
  shallow : l.depth ≤ 64;
  within : l.place ≤ length l.text;
  so_far : read_tape start (tape 0 l.from (drop l.from l.text))
      ≡ read_tape (stand l.depth (reverse l.stack.items) l.state) (tape 0 l.place (drop l.place l.text));
}

abbrev pub decreases-turns : goal.decreases-turns
decreases-turns l = length l.text - l.place
