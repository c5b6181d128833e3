-- Sources, sinks and texts in memory.
use Rattle.std.specs.Prelude.{◌≡◌, ℕ, ◌-◌, ◌^◌, map, min, max, nat_lt, if◌then◌else◌, List, ◌++◌, length, take, drop}
use Rattle.std.specs.Prelude.{Option, None, Some, Result, Ok, Err, IfOk, OnOk, OnErr, is_err, false}
use Rattle.std.specs.List.{slice_get}
use Rattle.td_out.specs.declared.fault.Failed.{Failed}
use Rattle.td_out.specs.declared.fault.TextFault.{TextFault}
use Rattle.td_out.specs.declared.fault.TextFault.TheVariants as fault
use Rattle.td_out.specs.declared.calls.Calls.{Calls}
use Rattle.td_out.specs.Calls.{fails, count_call, count_failure}
use Rattle.td_out.specs.Texts.{NamedText, longest_text, text_named}

-- ---- a source

pub record Supply : Type 0 where
  -- the bytes that are left
  pub left : List ℕ
  -- the greatest size of each call in turn, those of the calls that were made too
  pub pieces : List ℕ
  pub calls : Calls

-- the greatest size of a call: at least a byte, since a read of none is the end, and none is set past the list's end
abbrev pub most_of : Option ℕ → ℕ
most_of None = 2 ^ 64 - 1
most_of (Some piece) = max piece 1

-- how many bytes the next call gives to so much room
abbrev pub given_bytes : Supply → ℕ → ℕ
given_bytes s room = min (most_of (slice_get s.pieces s.calls.made)) (min (length s.left) room)

-- a read: it fails exactly where its number is among those that do, and then moves nothing
pub record ReadsSupply (old new : Supply) (before after : List ℕ)
    (result : Result ℕ Failed) : Type 0 where
  pub fails_as_set : is_err result ≡ fails old.calls
  pub gave : IfOk result (λ n. n ≡ given_bytes old (length before))
  pub filled : IfOk result (λ n. after ≡ take n old.left ++ drop n before)
  pub moved : IfOk result (λ n. new
      ≡ record old { left = drop n old.left; calls = count_call old.calls })
  pub refused : OnErr result ((after ≡ before)
      × (new ≡ record old { calls = count_failure old.calls }))

-- ---- a sink

pub record SinkState : Type 0 where
  -- what was written
  pub written : List ℕ
  pub calls : Calls

-- a write: it takes the whole piece. It fails where its number is among those that do, and only when out of memory
-- besides
pub record WritesSink (old new : SinkState) (piece : List ℕ) (result : Result ℕ Failed) :
    Type 0 where
  pub fails_as_set : OnOk result (fails old.calls ≡ false)
  pub took : IfOk result (λ n. n ≡ length piece)
  pub added : OnOk result (new
      ≡ record { written = old.written ++ piece; calls = count_call old.calls })
  pub refused : OnErr result (new ≡ record old { calls = count_failure old.calls })

-- ---- texts

pub record Shelf : Type 0 where
  pub texts : List NamedText
  pub calls : Calls

-- a text as it is given
abbrev pub as_given : Option (List ℕ) → Result (List ℕ) TextFault
as_given None = Err fault.Failed
as_given (Some text) = if nat_lt longest_text (length text) then Err fault.TooLong else Ok text

-- what a call answers for that name where memory is there: it fails where its number is among those that do, and for a
-- name that isn't there
abbrev pub answer_of : Shelf → List ℕ → Result (List ℕ) TextFault
answer_of s name = if fails s.calls then Err fault.Failed else as_given (text_named name s.texts)

-- what an answer leaves: running out of memory leaves all as it was
abbrev pub left_by : Result (List ℕ) TextFault → Shelf → Shelf
left_by (Ok text) s = record s { calls = count_call s.calls }
left_by (Err fault.Failed) s = record s { calls = count_failure s.calls }
left_by (Err fault.TooLong) s = record s { calls = count_call s.calls }
left_by (Err fault.Memory) s = s

-- the files with their names
abbrev pub named_texts : List (List ℕ × List ℕ) → List NamedText
named_texts files = map (λ f. record { name = f.0; bytes = f.1 }) files
