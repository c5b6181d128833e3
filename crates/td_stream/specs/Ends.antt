-- How a stream that goes no further ends.
use Rattle.std.specs.Prelude.{◌≡◌, ◌≢◌, ◌^◌, ℕ, ◌<◌, true, [], length}
use Rattle.td_giop.specs.declared.fault.FrameFault.{FrameFault}
use Rattle.td_giop.specs.Stream.{Stream}
use Rattle.td_stream.specs.declared.end.Cause.{Cause}
use Rattle.td_stream.specs.declared.end.End.{End}
use Rattle.td_stream.specs.declared.end.End.TheVariants.{Closed, Broken, Truncated, ReadFault, WriteFault, Long}
use Rattle.td_stream.specs.declared.end.End.TheVariants.{Memory}
use Rattle.td_stream.specs.Messages.{message_error}
use Rattle.td_stream.specs.Outbound.{Outbound, PutsReply, IsSent}
use Rattle.td_stream.specs.Pieces.{WritesFront}
use Rattle.td_stream.specs.Steps.{cause_of}

-- at the end of the input a stream without a whole message is at the border of a message, or inside one
abbrev pub EndsInput : Stream → End → Type 0
EndsInput s Closed = s.rest ≡ []
EndsInput s (Truncated place) = (place ≡ s.start) × (0 < length s.rest)
EndsInput s (Broken place cause) = ⊥
EndsInput s ReadFault = ⊥
EndsInput s WriteFault = ⊥
EndsInput s Long = ⊥
EndsInput s Memory = ⊥

-- what was held was sent, and a MessageError written behind it
pub record SendsError (o p : Outbound) : Type 0 where
  pub middle : Outbound
  pub puts : PutsReply [] o middle
  pub sent : IsSent middle
  pub error : WritesFront message_error middle.written p.written middle.writes p.writes

-- what was held could not be sent whole
abbrev pub FailsToSend : (o p : Outbound) → Type 0
FailsToSend o p = PutsReply [] o p × (p.failed ≡ true)

-- a stream is broken off at this place for this cause, or what was held can't be sent
abbrev pub BreaksOff : (start : ℕ) → Cause → End → (o p : Outbound) → Type 0
BreaksOff start cause (Broken place content) o p = (place ≡ start) × (content ≡ cause)
    × SendsError o p
BreaksOff start cause WriteFault o p = FailsToSend o p
BreaksOff start cause Closed o p = ⊥
BreaksOff start cause (Truncated place) o p = ⊥
BreaksOff start cause ReadFault o p = ⊥
BreaksOff start cause Long o p = ⊥
BreaksOff start cause Memory o p = ⊥

-- at a bad header a stream ends as Long where all was taken that is taken, and otherwise it is broken off
abbrev pub EndsAtBad : (start taken : ℕ) → FrameFault → End → (o p : Outbound) → Type 0
EndsAtBad start taken fault Long o p = (taken ≡ 2 ^ 40) × PutsReply [] o p × IsSent p
EndsAtBad start taken fault (Broken place cause) o p =
    (taken ≢ 2 ^ 40) × BreaksOff start (cause_of fault) (Broken place cause) o p
EndsAtBad start taken fault WriteFault o p = FailsToSend o p
EndsAtBad start taken fault Closed o p = ⊥
EndsAtBad start taken fault (Truncated place) o p = ⊥
EndsAtBad start taken fault ReadFault o p = ⊥
EndsAtBad start taken fault Memory o p = ⊥
