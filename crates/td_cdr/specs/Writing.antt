-- What a writer holds, and what it appends by CORBA, General Inter-ORB Protocol, "CDR Transfer Syntax".
use Rattle.std.specs.Prelude.{◌≡◌, ℕ, ◌+◌, ◌<◌, ◌≤◌, List, ◌++◌, [], ◌∷◌, take, length, Result, OnOk, OnErr, replicate}
use Rattle.td_cdr.specs.declared.order.Order.{Order}
use Rattle.td_cdr.specs.Gap.{gap, bytes_of, flag}

-- what is written so far of a message, or of the inside of an encapsulation
pub record Draft : Type 0 where
  pub bytes : List ℕ
  pub order : Order
  -- how many bytes it has room for, with those that it holds
  pub room : ℕ

-- the spelling of a number with padding 0
abbrev pub written_number : ℕ → Order → ℕ → ℕ → List ℕ
written_number size order place v = replicate (gap size place) 0 ++ bytes_of order size v

-- Sequence: bytes behind their number
abbrev pub written_octets : Order → ℕ → List ℕ → List ℕ
written_octets order place v = written_number 4 order place (length v) ++ v

-- these bytes were appended; a writer that refuses is as before, and refuses only for want of room
pub record Adds {E : Type 0} (more : List ℕ) (old new : Draft)
    (result : Result (Unit {0}) E) : Type 0 where
  pub done : OnOk result ((new.bytes ≡ old.bytes ++ more) × (new.order ≡ old.order)
      × (old.room ≤ new.room))
  pub refused : OnErr result ((new ≡ old) × (old.room < length old.bytes + length more))

-- Encapsulation: the first octet tells the order in which the bytes after it are written
abbrev pub BeginsWithOrder : Draft → Type 0
BeginsWithOrder inner = take 1 inner.bytes ≡ flag inner.order ∷ []
