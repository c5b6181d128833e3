-- Replies on their way: what a sink was given, and what is held behind it.
use Rattle.std.specs.Prelude.{◌≡◌, ℕ, ◌<◌, ◌≤◌, Bool, true, false, List, [], ◌++◌, length, take, Option}
use Rattle.std.specs.Io.KnownBytes.{Appends}
use Rattle.td_out.specs.Causes.{Rose}

-- what was written, where the sink tells; its count of faults; what is held; and whether a send has failed
pub record Outbound : Type 0 where
  pub written : Option (List ℕ)
  pub writes : ℕ
  pub held : List ℕ
  pub failed : Bool

abbrev pub outbound : Option (List ℕ) → ℕ → List ℕ → Bool → Outbound
outbound written writes held failed = record {
  written = written;
  writes = writes;
  held = held;
  failed = failed;
}

-- these bytes came behind what was held, and a front of both was written
pub record SendsBytes (bytes : List ℕ) (a b : Outbound) : Type 0 where
  pub sent : List ℕ
  pub gave : Appends a.written b.written sent
  pub rest : sent ++ b.held ≡ a.held ++ bytes

-- a send failed: of what was held and these bytes a front that isn't all was written
pub record Misses (bytes : List ℕ) (a b : Outbound) : Type 0 where
  pub sent : ℕ
  pub short : sent < length (a.held ++ bytes)
  pub gave : Appends a.written b.written (take sent (a.held ++ bytes))
  pub rose : Rose a.writes b.writes

-- once a send has failed, no other is made
abbrev pub SendsOrMisses : (before after : Bool) → List ℕ → Outbound → Outbound → Type 0
SendsOrMisses false false bytes a b = SendsBytes bytes a b
SendsOrMisses false true bytes a b = Misses bytes a b
SendsOrMisses true true bytes a b = Appends a.written b.written [] × (b.writes ≡ a.writes)
SendsOrMisses true false bytes a b = ⊥

-- these bytes were put, and what is held was sent or not
pub record PutsReply (bytes : List ℕ) (a b : Outbound) : Type 0 where
  pub moves : SendsOrMisses a.failed b.failed bytes a b
  pub later : a.writes ≤ b.writes

-- what is held was sent, as far as it could be
pub record SendsAll (a b : Outbound) : Type 0 where
  pub puts : PutsReply [] a b
  pub empty : b.failed ≡ false → b.held ≡ []

-- nothing is held, and no send has failed
pub record IsSent (out : Outbound) : Type 0 where
  pub held : out.held ≡ []
  pub works : out.failed ≡ false
