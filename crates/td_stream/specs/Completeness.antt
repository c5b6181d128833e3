-- Streams of whole messages, of which none is lost.
use Rattle.std.specs.Prelude.{◌≡◌, ◌⊎◌, ℕ, ◌<◌, List, All, count_by, length, Some}
use Rattle.std.specs.List.{concat, before_first}
use Rattle.std.specs.Io.KnownBytes.{Appends}
use Rattle.td_out.specs.Causes.{Rose}
use Rattle.td_stream.specs.Messages.{IsForServer, is_closing, is_request}
use Rattle.td_stream.specs.declared.end.End.{End}
use Rattle.td_stream.specs.declared.end.End.TheVariants.{Closed, Memory}
use Rattle.td_stream.specs.Exchanges.{MessageExchange, Run, messages_of, output}
use Rattle.td_stream.specs.Outside.{Outside}
use Rattle.td_stream.specs.Streams.{bytes_limit, request_limit}

-- the stream is these messages, and they are within a stream's limits
pub record IsServable (stream : List ℕ) (messages : List (List ℕ)) : Type 0 where
  pub joined : stream ≡ concat messages
  pub each : All IsForServer messages
  pub few : count_by is_request messages < request_limit
  pub short : length stream < bytes_limit

-- neither the source nor the sink failed
pub record NoneFailed (before after : Outside) : Type 0 where
  pub reads : Rose before.reads after.reads → ⊥
  pub writes : Rose before.writes after.writes → ⊥

module _ {V : Type 0} (serves : V → List ℕ → List ℕ → V → Type 0) (stays : V → V → Type 0) where
  -- The messages before the first that closes the stream, or all of them, were answered in order, each where the one
  -- before has left the servant, and their replies were given. Nothing was done behind them.
  pub record AnswersAll (s u : V) (before after : Outside) (messages : List (List ℕ)) : Type 0 where
    pub exchanges : List MessageExchange
    pub last : V
    pub run : Run serves s exchanges last
    pub stayed : stays last u
    pub all : messages_of exchanges ≡ before_first is_closing messages
    pub gave : Appends before.written after.written (output exchanges)

  -- the stream was closed when these messages had been answered, or it ended when out of memory
  abbrev pub IsComplete : V → V → End → Outside → Outside → List (List ℕ) → Type 0
  IsComplete s u end before after messages =
      ((end ≡ Closed) × AnswersAll s u before after messages) ⊎ (end ≡ Memory)

  -- so it is wherever the source is such messages and none of the outside failed
  abbrev pub Completes : V → V → End → Outside → Outside → Type 0
  Completes s u end before after =
      (stream : List ℕ) (messages : List (List ℕ)) → before.left ≡ Some stream
      → IsServable stream messages
      → NoneFailed before after → IsComplete s u end before after messages
