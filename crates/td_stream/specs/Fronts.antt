-- What became of the message in front of a stream.
use Rattle.std.specs.Prelude.{◌≡◌, ℕ, Bool, List, [], None, Ok, Err}
use Rattle.td_giop.specs.Stream.{first_at}
use Rattle.td_giop.specs.Cut.{IsFirstMessage}
use Rattle.td_stream.specs.declared.front.Front.{Front as Fronted}
use Rattle.td_stream.specs.declared.front.Front.TheVariants.{Nothing, Bad, Closes, Breaks, Answered, Full}
use Rattle.td_stream.specs.Exchanges.{MessageExchange, IsExchange}
use Rattle.td_stream.specs.Messages.{is_request, message_limit}
use Rattle.td_stream.specs.Outbound.{Outbound, PutsReply}
use Rattle.td_stream.specs.Steps.{closes, breaks}
use Rattle.td_stream.specs.Streams.{FirstHasStep}

module _ {V : Type 0} (serves : V → List ℕ → List ℕ → V → Type 0) (stays : V → V → Type 0) where
  -- the message in front was answered so, and its reply was put behind those before
  pub record AnswersMessage (s u : V) (rest : List ℕ) (asked : Bool) (o p : Outbound) : Type 0 where
    pub exchange : MessageExchange
    pub front : IsFirstMessage message_limit rest exchange.message
    pub done : IsExchange serves s exchange u
    pub is : is_request exchange.message ≡ asked
    pub puts : PutsReply exchange.reply o p

  -- what was found in front of a stream, and what became of it
  abbrev pub FindsFront : Fronted → (rest : List ℕ) → (s u : V) → (o p : Outbound) → Type 0
  FindsFront Nothing rest s u o p = (first_at message_limit rest ≡ Ok None) × (u ≡ s) × (p ≡ o)
  FindsFront (Bad fault) rest s u o p = (first_at message_limit rest ≡ Err fault) × (u ≡ s)
      × (p ≡ o)
  FindsFront Closes rest s u o p = FirstHasStep rest closes × (u ≡ s) × (p ≡ o)
  FindsFront (Breaks cause) rest s u o p = FirstHasStep rest (breaks cause) × (u ≡ s) × (p ≡ o)
  FindsFront (Answered asked) rest s u o p = AnswersMessage s u rest asked o p
  FindsFront Full rest s u o p = stays s u × PutsReply [] o p
