use Rattle.std.proofs.Common.{◌≡◌, ◌++◌, length, map, take}
use Rattle.td_cdr.specs.Format.{row, text}
use Rattle.td_typecode.proofs.graph_writing.write_each_name.Given as goal

abbrev pub invariant-loop-name : goal.invariant-loop-name
invariant-loop-name l = record {
  bytes : l.w.bytes ≡ l.initial.w.bytes
      ++ row (map text.writes (take l.name-index l.names)) l.initial.w.order (length l.initial.w.bytes);
  order : l.w.order ≡ l.initial.w.order;
}
