use Rattle.std.proofs.Common.{◌≡◌, length}
use Rattle.std.specs.Vec.Iter.{into_iter_items, into_iter_len}
use Rattle.td_lines.specs.Laws.{AreShort}
use Rattle.td_file.specs.Openings.{all_traders}
use Rattle.td_file.proofs.Rows.{with_front}
use Rattle.td_file.proofs.trading.open_all.Given as goal

-- those so far and those of what is left are those of all
abbrev pub invariant-loop-one : goal.invariant-loop-one
invariant-loop-one l = record {
  same : with_front l.traders (all_traders l.home (into_iter_items l.one-iterator))
      ≡ all_traders l.home (into_iter_items l.initial.one-iterator);
  short : AreShort (into_iter_items l.one-iterator);
  left : into_iter_len l.one-iterator ≡ length (into_iter_items l.one-iterator);
}
