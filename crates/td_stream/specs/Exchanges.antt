-- Messages and what they were answered with, one after the other.
use Rattle.std.specs.Prelude.{◌≡◌, ℕ, List, [], ◌∷◌, map, count_by}
use Rattle.std.specs.List.{flat_map}
use Rattle.td_stream.specs.Messages.{is_request}
use Rattle.td_stream.specs.Steps.{answers, step_of}

-- a message, and the bytes that it was answered with
pub record MessageExchange : Type 0 where
  pub message : List ℕ
  pub reply : List ℕ

abbrev pub exchange : List ℕ → List ℕ → MessageExchange
exchange message reply = record { message = message; reply = reply }

abbrev pub messages_of : List MessageExchange → List (List ℕ)
messages_of exchanges = map (λ x. x.message) exchanges

-- what the messages are answered with
abbrev pub output : List MessageExchange → List ℕ
output exchanges = flat_map (λ x. x.reply) exchanges

-- how many Requests they are
abbrev pub requests : List MessageExchange → ℕ
requests exchanges = count_by (λ x. is_request x.message) exchanges

module _ {V : Type 0} (serves : V → List ℕ → List ℕ → V → Type 0) where
  -- the message is one that is answered, and the servant answered it so
  pub record IsExchange (s : V) (x : MessageExchange) (t : V) : Type 0 where
    pub step : step_of x.message ≡ answers
    pub served : serves s x.message x.reply t

  -- each message is answered where the one before has left the servant
  abbrev pub Run : V → List MessageExchange → V → Type 0
  Run s [] u = u ≡ s
  Run s (x ∷ xs) u = (m : V) × IsExchange s x m × Run m xs u
