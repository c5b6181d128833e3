-- Sessions that are handed on.
use Rattle.std.proofs.Common.{◌≡◌, Option}
use Rattle.td_server.specs.JobSourceLaws.{hands_none as hands_none_of}
use Rattle.td_name_sessions.specs.Sessions.{HandsSome, HandedSessions, naming}

pub hands_none : {X : Type 0} (content after : Option (HandedSessions X)) → after ≡ content
    → HandsSome content after
hands_none {X} content after e = hands_none_of {k = naming} {X = X} content after e
