use Rattle.std.specs.Prelude.{ℕ}

-- a reader or a writer with a count of its faults
pub record Over (X : Type 0) : Type 0 where
  pub inner : X
  pub faults : ℕ
