use Rattle.std.proofs.Common.{◌≡◌, ◌++◌, length, map, take}
use Rattle.td_cdr.specs.Format.{row}
use Rattle.td_typecode.specs.WritingCodes.{member_piece, arm_piece}
use Rattle.td_typecode.proofs.writing.+writing.Given as goal

abbrev pub invariant-write_members-loop-member : goal.invariant-write_members-loop-member
invariant-write_members-loop-member l = record {
  bytes : l.w.bytes ≡ l.initial.w.bytes
      ++ row (map member_piece (take l.member-index l.members)) l.initial.w.order (length l.initial.w.bytes);
  order : l.w.order ≡ l.initial.w.order;
}

abbrev pub invariant-write_arms-loop-arm : goal.invariant-write_arms-loop-arm
invariant-write_arms-loop-arm l = record {
  bytes : l.w.bytes ≡ l.initial.w.bytes
      ++ row (map arm_piece (take l.arm-index l.arms)) l.initial.w.order (length l.initial.w.bytes);
  order : l.w.order ≡ l.initial.w.order;
}
