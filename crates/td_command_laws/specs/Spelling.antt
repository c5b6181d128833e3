-- The replies of a session over the traders of a file (CORBA, chapter on General Inter-ORB Protocol, "Reply Body").
use Rattle.std.specs.Prelude.{ℕ, List}
use Rattle.std.specs.List.{AllByRecursion}
use Rattle.td_command.specs.Runs.{WordsBySeeding, ServesOpening, ServesText}
use Rattle.td_command.specs.declared.ended.Ended.TheVariants.{Served}
use Rattle.td_file.specs.Files.{Opening}
use Rattle.td_stream.specs.Outside.{Outside}
use Rattle.td_stream.specs.declared.end.End.{End}
use Rattle.td_trader_laws.specs.WritableTraders.{IsWritableTrader}
use Rattle.td_session_runs_laws.specs.Replies.{SpellsReplies}

-- of an opening of any kind whose traders can be written
abbrev pub RunsSpellReplies : Type 0
RunsSpellReplies =
    (o : Opening) (seeded : WordsBySeeding) (end : End) (before after : Outside)
    (s : ServesOpening o seeded end before after)
    → AllByRecursion IsWritableTrader o.traders → SpellsReplies s.serves.turns

-- of the opening of a text, whatever the text is
abbrev pub FilesSpellReplies : Type 0
FilesSpellReplies =
    (text : List ℕ) (seeded : WordsBySeeding) (end : End) (before after : Outside)
    (s : ServesText text seeded (Served end) before after)
    → SpellsReplies s.3.serves.turns
