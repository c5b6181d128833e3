-- Sessions that are handed on.
use Rattle.std.proofs.Common.{◌≡◌, Option}
use Rattle.td_server.specs.JobSourceLaws.{hands_none as hands_none_of}
use Rattle.td_shared_sessions.specs.Sessions.{HandsSome, HandedSessions, sharing}

pub hands_none : {X : Type 0} (content after : Option (HandedSessions X)) → after ≡ content
    → HandsSome content after
hands_none {X} content after e = hands_none_of {k = sharing} {X = X} content after e
