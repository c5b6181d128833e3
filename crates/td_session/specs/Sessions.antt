-- What a session does, from one state of its source and its sink to another.
use Rattle.std.specs.Prelude.{◌≡◌, List, []}
use Rattle.td_cdr.specs.Marks.{Marks}
use Rattle.td_lookup.specs.Scenes.{Scene}
use Rattle.td_register.specs.declared.history.Accepted.{Accepted}
use Rattle.td_servant.specs.declared.entry.Entry.{Entry}
use Rattle.td_stream.specs.Outside.{Outside}
use Rattle.td_stream.specs.Streams.{StreamFinishes}
use Rattle.td_stream.specs.declared.end.End.{End}
use Rattle.td_session_runs.specs.Journals.{all_gave}
use Rattle.td_session_runs.specs.Turns.{Turn, Run, exchanges_of, journal_of, noted_of}
use Rattle.td_walk.specs.Peering.{AdmitsGifts}
use Rattle.td_walk.specs.declared.trace.Address.{Address}
use Rattle.td_session.specs.Headline.{Headline}

module _ (others : List Accepted → Type 0) (later : Marks → Marks → Type 0) (home : Address) where
  -- A session, whole: these messages were served, each where the one before has left everything, and this was noted of
  -- them; they are cut out of the bytes that were taken, and their answers were given; the headline holds of them; and
  -- what peers gave for them can be written.
  pub record Serves (s u : Scene) (journal : List Entry) (end : End)
      (before after : Outside) : Type 0 where
    pub turns : List Turn
    pub run : Run others later home s turns u
    pub noted : journal ≡ journal_of turns
    pub stream : StreamFinishes (exchanges_of turns) end before after [] 0 0
    pub headline : Headline others later home s turns u
    pub gifts : AdmitsGifts (all_gave (noted_of turns))
