-- A kind of server whose sessions share nothing: each sends a greeting.
use Rattle.std.proofs.Common.{inl, inr, ℕ, List, [], map, Option, None, Some, is_some, Result, refl}
use Rattle.std.specs.Io.KnownBytes.{WriteAppends}
use Rattle.td_accept.specs.Doors.{Door}
use Rattle.td_accept.specs.declared.visitor.Limited.{Limited}
use Rattle.td_out.specs.declared.fault.Failed.{Failed}
use Rattle.td_server.specs.Kinds.{ServerKind, Laws}
use Rattle.td_server.specs.Sessions.{ServerState, HandedSessions}

-- each is given the greeting, and what its write has answered is kept
abbrev pub greetings : ServerKind
greetings = record {
  World = Unit {0};
  Given = List ℕ;
  Outside = Option (List ℕ);
  Kept = Result ℕ Failed;
  Closed = Unit {0};
  Thing = Unit {0};
  bare = λ w. w;
  Continues = λ v w. Unit {0};
  Joins = λ w e u. Unit {0};
  own = λ w i. [];
  Serves = λ greeting first words before after kept last. WriteAppends before after kept greeting;
}

pub greeting_laws : Laws greetings
greeting_laws = record {
  itself = λ w. tt;
  on = λ u v w p q. tt;
  to_bare = λ v w p. p;
  bare_twice = λ w. refl;
  before = λ w e u j. tt;
  seen = λ w e u j. tt;
  after = λ w e u i place j h. absurd h;
  stays = λ w e u i place j h. elim h as (λ _. ⊥) [ inl f ↦ f | inr f ↦ f ];
  apart = λ w e u i place j h f. h;
}

-- the sessions that were handed on: their numbers, visitors, that these were limited, and the answers
abbrev pub content_of : {X : Type 0} → List (ℕ × X × Option Limited × Result ℕ Failed)
    → Option (HandedSessions greetings X)
content_of {X} hs = Some (record {
  sessions =
      map (λ (h : ℕ × X × Option Limited × Result ℕ Failed). record {
        number = h.0;
        visitor = h.1;
        limited = is_some h.2;
        kept = h.3;
      }) hs;
  closed = None;
})

abbrev pub stand_of : {X : Type 0} → (greeting seed : List ℕ) → Option (Door X)
    → List (ℕ × X × Option Limited × Result ℕ Failed) → ServerState greetings X
stand_of greeting seed door hs =
    record { given = greeting; seed = seed; door = door; content = content_of hs; world = tt }
