-- Each reply of a session over the traders of a file spells its outcome.
use Rattle.std.proofs.Common.{List, [], ◌∷◌, map}
use Rattle.std.specs.List.{AllByRecursion}
use Rattle.td_command.specs.Runs.{first_scene}
use Rattle.td_command_laws.specs.Spelling.{FilesSpellReplies, RunsSpellReplies}
use Rattle.td_file_laws.proofs.WritableOpening.{files-open-writable}
use Rattle.td_trader.specs.PlainTraders.{PlainTrader}
use Rattle.td_trader.specs.Solos.{no_changes, nothing_admitted, solo_view, same_marks}
use Rattle.td_trader_laws.specs.WritableTraders.{IsWritableTrader}
use Rattle.td_trader_laws.specs.WritableWorlds.{IsWritableWorld}
use Rattle.td_session_runs_laws.proofs.WritingRuns.{replies-spell}

alone-writes : (ts : List PlainTrader) → AllByRecursion IsWritableTrader ts → IsWritableWorld (map solo_view ts)
alone-writes [] h = tt
alone-writes (t ∷ ts) h = (record { opening = h.0.opening; changes = h.0.changes }, alone-writes ts h.1)

pub runs-spell : RunsSpellReplies
runs-spell o seeded end before after s opens =
    replies-spell no_changes same_marks nothing_admitted o.home (first_scene o seeded) s.later s.serves.turns
    (record {
      scene = record { world = alone-writes o.traders opens; desk = tt };
      gifts = s.serves.gifts;
    })
    s.serves.run

pub files-spell : FilesSpellReplies
files-spell text seeded end before after s =
    runs-spell s.0 seeded end before after s.3 (files-open-writable text s.0 s.2 s.1)
