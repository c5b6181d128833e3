-- How a session serves one message.
use Rattle.std.specs.Prelude.{◌≡◌, ℕ, List, ◌∷◌, [], ◌++◌, Option}
use Rattle.td_cdr.specs.Marks.{Marks}
use Rattle.td_register.specs.declared.history.Accepted.{Accepted}
use Rattle.td_session_runs.specs.Turns.{IsTurn, ServedRequest, journal_of}
use Rattle.td_session.specs.Stages.{Stage, turn_of}

module _ (others : List Accepted → Type 0) (later : Marks → Marks → Type 0) where
  -- The message is served with this reply: the journal grew by what is noted of it, and the address stays.
  pub record ServesMessage (s : Stage) (message reply : List ℕ) (u : Stage) : Type 0 where
    pub noted : Option ServedRequest
    pub turn : IsTurn others later s.home s.scene (turn_of message noted reply u.scene)
    pub journal : u.journal ≡ s.journal ++ journal_of (turn_of message noted reply u.scene ∷ [])
    pub home : u.home ≡ s.home

-- nothing was done
abbrev pub Stays : Stage → Stage → Type 0
Stays s u = u ≡ s
