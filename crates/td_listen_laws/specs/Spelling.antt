-- The replies of all sessions over the traders of a file (CORBA, chapter on General Inter-ORB Protocol, "Reply Body").
use Rattle.std.specs.Prelude.{ℕ, List}
use Rattle.td_listen.specs.Listens.{ListenState, ServesText}
use Rattle.td_listen.specs.declared.listened.Listened.TheVariants.{Over}
use Rattle.td_sessions.specs.Sessions.{WordsBySeeding}
use Rattle.td_sessions_laws.specs.Spelling.{EachSpells}
use Rattle.td_stream.specs.Outside.{Outside}

-- Each session's, where the last visitor was served.
abbrev pub FilesSpellReplies : Type 0 → Type 0
FilesSpellReplies X =
    (outside_of : X → Outside) (seeded : X → WordsBySeeding) (text : List ℕ)
    (before after : ListenState X)
    (s : ServesText outside_of seeded text Over before after)
    → EachSpells outside_of seeded s.3.whole.visits s.3.whole.each
