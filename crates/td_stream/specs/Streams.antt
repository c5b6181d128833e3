-- What serving a stream does, from one state of its source and its sink to another.
use Rattle.std.specs.Prelude.{◌≡◌, ◌⊎◌, ℕ, ◌+◌, ◌^◌, ◌<◌, ◌≤◌, List, [], ◌∷◌, ◌++◌, length, take, Some, None, Ok, Err}
use Rattle.std.specs.Io.KnownBytes.{Appends, Consumes, IsAtEnd}
use Rattle.td_out.specs.Causes.{Rose}
use Rattle.td_giop.specs.declared.fault.FrameFault.{FrameFault}
use Rattle.td_giop.specs.Stream.{first_at}
use Rattle.td_giop.specs.Cut.{IsFirstMessage, Fronts}
use Rattle.td_stream.specs.Messages.{message_error, message_limit}
use Rattle.td_stream.specs.declared.end.Cause.{Cause}
use Rattle.td_stream.specs.declared.end.End.{End}
use Rattle.td_stream.specs.declared.end.End.TheVariants.{Closed, Broken, Truncated, ReadFault, WriteFault, Long}
use Rattle.td_stream.specs.declared.end.End.TheVariants.{Memory}
use Rattle.td_stream.specs.Exchanges.{MessageExchange, Run, messages_of, output, requests}
use Rattle.td_stream.specs.Outside.{Outside}
use Rattle.td_stream.specs.Steps.{MessageStep, closes, breaks, step_of, cause_of}

-- how many bytes of a stream are taken, and how many of its Requests served, at most
abbrev pub bytes_limit : ℕ
bytes_limit = 2 ^ 40

abbrev pub request_limit : ℕ
request_limit = 1000000

-- Behind bytes that were taken before, more were taken. In front of them all stand the messages that were
-- served, one after the other, and the rest behind them. These bytes were given.
pub record ServesBytes (exchanges : List MessageExchange) (before after : Outside)
    (held taken rest given : List ℕ) : Type 0 where
  pub took : Consumes before.left after.left taken
  pub cut : Fronts message_limit (held ++ taken) (messages_of exchanges) rest
  pub gave : Appends before.written after.written given
  pub reads : before.reads ≤ after.reads
  pub writes : before.writes ≤ after.writes

-- the message in front has this step
pub record FirstHasStep (rest : List ℕ) (step : MessageStep) : Type 0 where
  pub message : List ℕ
  pub front : IsFirstMessage message_limit rest message
  pub has_step : step_of message ≡ step

-- no whole message stands in front
abbrev pub IsServed : List ℕ → Type 0
IsServed rest = (n : ℕ) → first_at message_limit rest ≡ Ok (Some n) → ⊥

-- The input ended where no message had begun, or the message in front closes the stream.
abbrev pub ClosesAt : Outside → ℕ → List ℕ → Type 0
ClosesAt after count rest = ((count < bytes_limit) × (rest ≡ []) × IsAtEnd after.left)
    ⊎ FirstHasStep rest closes

-- The header in front is bad, or the message in front can't be served.
abbrev pub BreaksAt : ℕ → List ℕ → Cause → Type 0
BreaksAt count rest cause =
    ((fault : FrameFault) × (count < bytes_limit) × (first_at message_limit rest ≡ Err fault)
    × (cause ≡ cause_of fault))
    ⊎ FirstHasStep rest (breaks cause)

-- The input ended inside a message.
pub record EndsInside (after : Outside) (count : ℕ) (rest : List ℕ) : Type 0 where
  pub few : count < bytes_limit
  pub began : 0 < length rest
  pub not_whole : first_at message_limit rest ≡ Ok None
  pub ended : IsAtEnd after.left

-- The source failed where it was to be read: behind the last whole message.
pub record ReadFails (before after : Outside) (count : ℕ) (rest : List ℕ) : Type 0 where
  pub few : count < bytes_limit
  pub not_whole : first_at message_limit rest ≡ Ok None
  pub rose : Rose before.reads after.reads

-- The end comes for its reason: so many bytes were taken and so many Requests served, and this rest is left.
abbrev pub HasReason : End → Outside → Outside → (count requests : ℕ) → List ℕ → Type 0
HasReason Closed before after count requests rest = (requests < request_limit)
    × ClosesAt after count rest
HasReason (Broken place cause) before after count requests rest =
    (requests < request_limit) × (place + length rest ≡ count) × BreaksAt count rest cause
HasReason (Truncated place) before after count requests rest =
    (requests < request_limit) × (place + length rest ≡ count) × EndsInside after count rest
HasReason ReadFault before after count requests rest =
    (requests < request_limit) × ReadFails before after count rest
HasReason WriteFault before after count requests rest = Rose before.writes after.writes
HasReason Long before after count requests rest =
    (requests ≡ request_limit) ⊎ ((count ≡ bytes_limit) × IsServed rest)
HasReason Memory before after count requests rest = Unit {0}

-- a whole MessageError, or its front where the sink failed
pub record SendsError (before after : Outside) (output given : List ℕ) : Type 0 where
  pub sent : ℕ
  pub is : given ≡ output ++ take sent message_error
  pub whole : (sent ≡ length message_error) ⊎ Rose before.writes after.writes

-- a front of the replies that isn't all
pub record IsFrontOfReplies (replies given : List ℕ) : Type 0 where
  pub sent : ℕ
  pub short : sent < length replies
  pub is : given ≡ take sent replies

-- what was given of the answers by this end
abbrev pub GivesReplies : End → Outside → Outside → List MessageExchange → (given : List ℕ) → Type 0
GivesReplies (Broken place cause) before after exchanges given = SendsError before after
    (output exchanges)
    given
GivesReplies WriteFault before after exchanges given = IsFrontOfReplies (output exchanges) given
GivesReplies Closed before after exchanges given = given ≡ output exchanges
GivesReplies (Truncated place) before after exchanges given = given ≡ output exchanges
GivesReplies ReadFault before after exchanges given = given ≡ output exchanges
GivesReplies Long before after exchanges given = given ≡ output exchanges
GivesReplies Memory before after exchanges given = given ≡ output exchanges

-- A stream goes on to its end from where these bytes are held, so many were taken and so many Requests served: these
-- messages are answered, each with its reply, in order.
pub record StreamFinishes (exchanges : List MessageExchange) (end : End) (before after : Outside)
    (held : List ℕ)
    (count requests_before : ℕ) : Type 0 where
  -- the bytes that are taken
  pub taken : List ℕ
  -- those behind the served messages
  pub rest : List ℕ
  -- the bytes that are written
  pub given : List ℕ
  pub runs : ServesBytes exchanges before after held taken rest given
  pub bytes : count + length taken ≤ bytes_limit
  pub few : requests_before + requests exchanges ≤ request_limit
  pub reason : HasReason end before after (count + length taken)
      (requests_before + requests exchanges) rest
  pub gives : GivesReplies end before after exchanges given

module _ {V : Type 0} (serves : V → List ℕ → List ℕ → V → Type 0) (stays : V → V → Type 0) where
  -- A stream, whole: these messages were answered, each where the one before has left the servant, and nothing was done
  -- behind them; they are cut out of the bytes that were taken, and their replies were given.
  pub record Streams (s u : V) (end : End) (before after : Outside) : Type 0 where
    pub exchanges : List MessageExchange
    pub last : V
    pub run : Run serves s exchanges last
    pub stayed : stays last u
    pub stream : StreamFinishes exchanges end before after [] 0 0
