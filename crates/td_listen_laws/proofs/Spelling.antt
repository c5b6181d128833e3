-- Each reply of each session over the traders of a file spells its outcome.
use Rattle.td_file_laws.proofs.WritableOpening.{files-open-writable}
use Rattle.td_listen_laws.specs.Spelling.{FilesSpellReplies}
use Rattle.td_sessions_laws.proofs.Spelling.{sessions-spell}

pub files-spell : (X : Type 0) → FilesSpellReplies X
files-spell X outside_of seeded text before after s =
    sessions-spell X outside_of seeded s.0.home s.0.seed s.0.traders before.door after.door before.content after.content s.3
    (files-open-writable text s.0 s.2 s.1)
