-- What comes to the traders of a file in a session.
use Rattle.std.specs.Prelude.{ℕ, map}
use Rattle.td_file.specs.Files.{Opening}
use Rattle.td_stream.specs.Outside.{Outside}
use Rattle.td_stream.specs.declared.end.End.{End}
use Rattle.td_trader.specs.Solos.{solo_view}
use Rattle.td_session_runs.specs.Laws.{GrowsByOwn}
use Rattle.td_session_runs.specs.Turns.{noted_of}
use Rattle.td_command.specs.Runs.{WordsBySeeding, ServesOpening}

-- What came to each trader's history are the session's accepted changes, each at its point, and nothing else.
abbrev pub HistoriesGrowByOwn : Type 0
HistoriesGrowByOwn =
    (o : Opening) (seeded : WordsBySeeding) (end : End) (before after : Outside)
    (s : ServesOpening o seeded end before after) (k : ℕ)
    → GrowsByOwn (map solo_view o.traders) s.later.world k (noted_of s.serves.turns)
