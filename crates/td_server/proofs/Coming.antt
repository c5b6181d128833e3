-- A visitor that comes in, and a session that goes out, from the parts of where a server stands.
use Rattle.std.proofs.Common.{◌≡◌, ℕ, Bool, List, Option, Some, option_map}
use Rattle.td_accept.specs.Doors.{VisitorComes, Door}
use Rattle.td_server.specs.Kinds.{ServerKind}
use Rattle.td_server.specs.Sessions.{SessionStart, ComesIn, SessionResult, GoesOut, ServerState, HandedSessions}
use Rattle.td_server.specs.Sessions.{with_session}

-- ---- the words of specs.Sessions as functions of their parts

abbrev pub stand : (k : ServerKind) {X : Type 0} → k.Given → List ℕ → Option (Door X) → Option (HandedSessions k X) → k.World
    → ServerState k X
stand k given seed door content world =
    record { given = given; seed = seed; door = door; content = content; world = world }

abbrev pub begun : (k : ServerKind) {X : Type 0} → ℕ → k.Given → List ℕ → X → k.World → SessionStart k X
begun k number given seed visitor first =
    record { number = number; given = given; seed = seed; visitor = visitor; first = first }

abbrev pub ended : (k : ServerKind) {X : Type 0} → X → Bool → k.Kept → k.World → SessionResult k X
ended k visitor limited kept last = record { visitor = visitor; limited = limited; kept = kept; last = last }

module _ (k : ServerKind) {X : Type 0} where
  pub comes_in : (given g h : k.Given) (seed : List ℕ) (door after : Option (Door X)) (content t : Option (HandedSessions k X))
      (world w first : k.World) (number : ℕ) (visitor : X) → VisitorComes (Some visitor) door after → h ≡ given
      → first ≡ k.bare world → g ≡ given → t ≡ content → w ≡ world
      → ComesIn {k = k} (stand k given seed door content world) number (begun k number h seed visitor first)
      (stand k g seed after t w)
  comes_in given g h seed door after content t world w first number visitor c i_h i_f i_g i_t i_w = record {
    came = c;
    begins = λ i. record { number = number; given = i_h i; seed = seed; visitor = visitor; first = i_f i };
    rest = λ i. record { given = i_g i; seed = seed; door = after; content = i_t i; world = i_w i };
  }

  pub goes_out : (given g : k.Given) (seed : List ℕ) (door : Option (Door X)) (content t : Option (HandedSessions k X))
      (world w last : k.World) (number : ℕ) (visitor : X) (limited : Bool) (kept : k.Kept)
      → t ≡ option_map (with_session {k = k}
      (record { number = number; visitor = visitor; limited = limited; kept = kept })) content
      → k.Joins world last w → g ≡ given
      → GoesOut {k = k} (stand k given seed door content world) number (ended k visitor limited kept last)
      (stand k g seed door t w)
  goes_out given g seed door content t world w last number visitor limited kept h j i_g = record {
    handed = h;
    joined = j;
    rest = λ i. record { given = i_g i; seed = seed; door = door; content = t; world = w };
  }
