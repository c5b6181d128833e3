-- How far one turn brings a stream: it answers the message in front, or takes a piece, or comes to the end.
use Rattle.std.specs.Prelude.{◌≡◌, ℕ, ◌+◌, ◌-◌, ◌*◌, ◌<◌, ◌≤◌, true, false, List, [], ◌++◌, length, Option, Some, None}
use Rattle.std.specs.Io.KnownBytes.{Consumes}
use Rattle.td_giop.specs.Cut.{Fronts}
use Rattle.td_stream.specs.declared.end.End.{End}
use Rattle.td_stream.specs.declared.end.End.TheVariants.{Closed, Broken, Truncated, ReadFault, WriteFault, Long}
use Rattle.td_stream.specs.declared.end.End.TheVariants.{Memory}
use Rattle.td_stream.specs.Exchanges.{MessageExchange, Run, messages_of, output, requests}
use Rattle.td_stream.specs.Messages.{message_error, message_limit}
use Rattle.td_stream.specs.Outbound.{Outbound, outbound, PutsReply, IsSent}
use Rattle.td_stream.specs.Outside.{Outside, outside}
use Rattle.td_stream.specs.Pieces.{WritesFront}
use Rattle.td_stream.specs.Streams.{HasReason, bytes_limit, request_limit}

-- what the source has left, and its count of faults; the bytes that aren't answered yet; how many bytes were taken and
-- Requests answered; and the replies on their way
pub record StreamState : Type 0 where
  pub left : Option (List ℕ)
  pub reads : ℕ
  pub rest : List ℕ
  pub taken : ℕ
  pub requests : ℕ
  pub out : Outbound

abbrev pub stand : Option (List ℕ) → ℕ → List ℕ → ℕ → ℕ → Outbound → StreamState
stand left reads rest taken asked out =
    record { left = left; reads = reads; rest = rest; taken = taken; requests = asked; out = out }

-- where a stream begins
abbrev pub first_stand : Outside → StreamState
first_stand o = stand o.left o.reads [] 0 0 (outbound o.written o.writes [] false)

abbrev pub outside_of : StreamState → Outside
outside_of s = outside s.left s.reads s.out.written s.out.writes

-- what is left to do: bytes to be taken and then answered
abbrev pub work : StreamState → ℕ
work s = 2 * (bytes_limit - s.taken) + length s.rest

-- from one stand to another bytes were taken, and these messages answered, whose replies were put
pub record StreamMoves (exchanges : List MessageExchange) (old new : StreamState) : Type 0 where
  pub taken : List ℕ
  pub took : Consumes old.left new.left taken
  pub cut : Fronts message_limit (old.rest ++ taken) (messages_of exchanges) new.rest
  pub bytes : new.taken ≡ old.taken + length taken
  pub asked : new.requests ≡ old.requests + requests exchanges
  pub puts : PutsReply (output exchanges) old.out new.out
  pub reads : old.reads ≤ new.reads

-- this is the reason of the end here, and all replies were sent
pub record StopsAt (end : End) (old at : StreamState) : Type 0 where
  pub reason : HasReason end (outside_of old) (outside_of at) at.taken at.requests at.rest
  pub sent : IsSent at.out

-- why the stream ends here, behind all that was answered
abbrev pub EndsAt : End → StreamState → StreamState → Type 0
EndsAt Closed old at = StopsAt Closed old at
EndsAt (Broken place cause) old at = StopsAt (Broken place cause) old at
EndsAt (Truncated place) old at = StopsAt (Truncated place) old at
EndsAt ReadFault old at = StopsAt ReadFault old at
EndsAt WriteFault old at = at.out.failed ≡ true
EndsAt Long old at = StopsAt Long old at
EndsAt Memory old at = StopsAt Memory old at

-- what an end writes behind the replies: nothing, but for Broken a MessageError
abbrev pub WritesLast : End → Outbound → Outbound → Type 0
WritesLast Closed o p = p ≡ o
WritesLast (Broken place cause) o p = WritesFront message_error o.written p.written o.writes
    p.writes
WritesLast (Truncated place) o p = p ≡ o
WritesLast ReadFault o p = p ≡ o
WritesLast WriteFault o p = p ≡ o
WritesLast Long o p = p ≡ o
WritesLast Memory o p = p ≡ o

-- the stream ends here
pub record StreamEnds (end : End) (old at new : StreamState) : Type 0 where
  pub ends : EndsAt end old at
  pub bytes : at.taken ≤ bytes_limit
  pub few : at.requests ≤ request_limit
  pub left : new.left ≡ at.left
  pub reads : new.reads ≡ at.reads
  pub last : WritesLast end at.out new.out

-- the stream goes on from here
pub record StreamGoesOn (old at new : StreamState) : Type 0 where
  pub here : new ≡ at
  pub works : new.out.failed ≡ false
  pub less : work new < work old

abbrev pub Continues : Option End → (old at new : StreamState) → Type 0
Continues None old at new = StreamGoesOn old at new
Continues (Some end) old at new = StreamEnds end old at new

-- these messages were answered, up to where the stream goes on or ends
pub record Advances (exchanges : List MessageExchange) (result : Option End)
    (old new : StreamState) : Type 0 where
  pub at : StreamState
  pub moves : StreamMoves exchanges old at
  pub goes : Continues result old at new

-- where it goes on the servant is as the last message has left it
module _ {V : Type 0} (serves : V → List ℕ → List ℕ → V → Type 0) (stays : V → V → Type 0) where
  abbrev pub StreamLeaves : Option End → V → V → Type 0
  StreamLeaves None m u = u ≡ m
  StreamLeaves (Some end) m u = stays m u

  -- these messages were answered meanwhile: one or none
  pub record Proceeds (s u : V) (old new : StreamState) (result : Option End) : Type 0 where
    pub exchanges : List MessageExchange
    pub last : V
    pub run : Run serves s exchanges last
    pub leaves : StreamLeaves result last u
    pub advances : Advances exchanges result old new
