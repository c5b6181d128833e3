-- A stream of messages: what stands in front of it.
use Rattle.std.specs.Global.{Vec}
use Rattle.std.specs.Prelude.{◌⊎◌, vec_capacity, ◌≡◌, ℕ, ◌+◌, ◌≤◌, ◌<◌, nat_lt, if◌then◌else◌, List, ◌++◌, length, drop}
use Rattle.std.specs.Prelude.{Option, Some, None, Result, Ok, Err}
use Rattle.td_giop.specs.declared.fault.FrameFault.{FrameFault}
use Rattle.td_giop.specs.declared.header.Header.{Header}
use Rattle.td_giop.specs.declared.header.TheConstants.{HEADER_SIZE}
use Rattle.td_giop.specs.Header.{header_at}

-- what of a stream was not taken away
pub record Stream : Type 0 where
  -- the place in the whole stream of rest's first byte
  pub start : ℕ
  pub rest : List ℕ
  -- the most bytes that may follow a header
  pub limit : ℕ

-- the size of a message, where so many bytes have come
abbrev pub whole_within : ℕ → Result (Option Header) FrameFault → Result (Option ℕ) FrameFault
whole_within held (Ok (Some h)) =
    if nat_lt held (HEADER_SIZE + h.size) then Ok None else Ok (Some (HEADER_SIZE + h.size))
whole_within held (Ok None) = Ok None
whole_within held (Err f) = Err f

-- the size of the whole message in front, with its header
unfoldable pub first_at : ℕ → List ℕ → Result (Option ℕ) FrameFault
first_at limit bytes = whole_within (length bytes) (header_at limit bytes)

-- the stream without the whole message in front
abbrev pub without_first : Stream → Result (Option ℕ) FrameFault → Stream
without_first s (Ok (Some size)) = record s { start = s.start + size; rest = drop size s.rest }
without_first s (Ok None) = s
without_first s (Err f) = s

-- a message began and isn't whole
pub record IsInside (s : Stream) : Type 0 where
  pub began : 0 < length s.rest
  pub goes_on : first_at s.limit s.rest ≡ Ok None

-- The message is nothing or the whole message in front of the stream, and there is room for any that may follow it.
pub record IsFrontOfStream (limit : ℕ) (message : Vec ℕ) (ring : List ℕ) : Type 0 where
  pub front : (length message.items ≡ 0)
      ⊎ (first_at limit (message.items ++ ring) ≡ Ok (Some (length message.items)))
  pub room : length ring ≤ vec_capacity message
