use Rattle.std.proofs.Common.{◌≡◌, ◌+◌, ◌≤◌, ◌++◌, replicate}
use Rattle.td_cdr.proofs.writer.Writer.put_zeros.Given as goal

abbrev pub invariant-loop : goal.invariant-loop
invariant-loop l =
    (l.self-inside.bytes.items ≡ l.initial.self-inside.bytes.items ++ replicate l.counter 0)
    × (l.self-inside.bytes.len ≡ l.initial.self-inside.bytes.len + l.counter)
    × (l.self-inside.bytes.cap ≡ l.initial.self-inside.bytes.cap) × (l.self-inside.order ≡ l.initial.self-inside.order)
    × (l.initial.self-inside.bytes.len + l.count ≤ l.initial.self-inside.bytes.cap)
    × (l.initial.self-inside.bytes.len + l.count ≤ 4294967295)
