-- What a session does, from one state of its source and its sink to another.
use Rattle.std.specs.Prelude.{◌≡◌, ℕ, List, []}
use Rattle.td_naming.specs.declared.history.NameChange.{NameChange}
use Rattle.td_stream.specs.Outside.{Outside}
use Rattle.td_stream.specs.Streams.{StreamFinishes}
use Rattle.td_stream.specs.declared.end.End.{End}
use Rattle.td_name_session.specs.Scenes.{Scene}
use Rattle.td_name_session.specs.Turns.{Run, Turn, exchanges_of, journal_of}

module _ (others : List NameChange → Type 0) where
  -- A session, whole: these messages were served, each where the one before has left everything, and this was noted of
  -- them; they are cut out of the bytes that were taken, and their answers were given.
  pub record Serves (s u : Scene) (journal : List ℕ) (end : End)
      (before after : Outside) : Type 0 where
    pub turns : List Turn
    pub run : Run others s turns u
    pub noted : journal ≡ journal_of turns
    pub stream : StreamFinishes (exchanges_of turns) end before after [] 0 0
