-- Where the bytes of a stream come from and go to: its source and its sink.
use Rattle.std.specs.Prelude.{ℕ, List, Option}

-- the bytes that the source has left and those that the sink was given, each where it tells, and their counts of faults
pub record Outside : Type 0 where
  pub left : Option (List ℕ)
  pub reads : ℕ
  pub written : Option (List ℕ)
  pub writes : ℕ

abbrev pub outside : Option (List ℕ) → ℕ → Option (List ℕ) → ℕ → Outside
outside left reads written writes = record {
  left = left;
  reads = reads;
  written = written;
  writes = writes;
}
