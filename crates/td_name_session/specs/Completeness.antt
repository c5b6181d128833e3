-- Streams of whole messages, of which a session loses none.
use Rattle.std.specs.Prelude.{◌≡◌, ◌⊎◌, ℕ, List, Some}
use Rattle.std.specs.List.{before_first}
use Rattle.std.specs.Io.KnownBytes.{Appends}
use Rattle.td_naming.specs.declared.history.NameChange.{NameChange}
use Rattle.td_stream.specs.Completeness.{IsServable, NoneFailed}
use Rattle.td_stream.specs.Exchanges.{messages_of, output}
use Rattle.td_stream.specs.Messages.{is_closing}
use Rattle.td_stream.specs.Outside.{Outside}
use Rattle.td_stream.specs.declared.end.End.{End}
use Rattle.td_stream.specs.declared.end.End.TheVariants.{Closed, Memory}
use Rattle.td_name_session.specs.Scenes.{Scene}
use Rattle.td_name_session.specs.Turns.{Run, Turn, exchanges_of}

module _ (others : List NameChange → Type 0) where
  -- The messages before the first that closes the session, or all of them, were served in order, each where the one
  -- before has left everything, and their answers were given.
  pub record AnswersAll (s u : Scene) (before after : Outside)
      (messages : List (List ℕ)) : Type 0 where
    pub turns : List Turn
    pub run : Run others s turns u
    pub all : messages_of (exchanges_of turns) ≡ before_first is_closing messages
    pub gave : Appends before.written after.written (output (exchanges_of turns))

  -- the session was closed when it had served these messages, or it ended when out of memory
  abbrev pub IsComplete : Scene → Scene → End → Outside → Outside → List (List ℕ) → Type 0
  IsComplete s u end before after messages =
      ((end ≡ Closed) × AnswersAll s u before after messages) ⊎ (end ≡ Memory)

  -- so it is wherever the source is such messages and none of the outside failed
  abbrev pub Completes : Scene → Scene → End → Outside → Outside → Type 0
  Completes s u end before after =
      (stream : List ℕ) (messages : List (List ℕ)) → before.left ≡ Some stream
      → IsServable stream messages
      → NoneFailed before after → IsComplete s u end before after messages
