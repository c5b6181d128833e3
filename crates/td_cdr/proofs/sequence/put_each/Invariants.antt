use Rattle.std.proofs.Common.{◌≡◌, ◌++◌, length, map, take}
use Rattle.td_cdr.specs.Format.{row}
use Rattle.td_cdr.proofs.sequence.put_each.Given as goal

abbrev pub invariant-loop-item : goal.invariant-loop-item
invariant-loop-item g l = record {
  bytes : l.w.bytes ≡ l.initial.w.bytes
      ++ row (map g.T.Spelled.format.writes (take l.item-index l.items)) l.initial.w.order (length l.initial.w.bytes);
  order : l.w.order ≡ l.initial.w.order;
}
