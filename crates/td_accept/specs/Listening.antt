use Rattle.std.specs.Prelude.{ℕ, Bool}

-- of an acceptor over TCP: whether it was bound, and the count of its faults
pub record TcpAcceptState : Type 0 where
  pub bound : Bool
  pub faults : ℕ

-- of a source over TCP: whether it was limited, and the count of its faults
pub record TcpSourceState : Type 0 where
  pub limited : Bool
  pub faults : ℕ

-- of a sink over TCP: whether its connection is open, whether it was limited, and the count of its faults
pub record TcpSinkState : Type 0 where
  pub connected : Bool
  pub limited : Bool
  pub faults : ℕ

-- of a wire that may refuse: the one below it, whether it connects to nobody, and the count of the connections that it
-- refused
pub record Refusable (L : Type 0) : Type 0 where
  pub wire : L
  pub refuses : Bool
  pub refused : ℕ
