-- All sessions of a server.
use Rattle.std.specs.Prelude.{◌≡◌, ◌⊎◌, ℕ, ◌+◌, List, [], ◌∷◌, map, Option, None, Some, option_map, IsPermutation}
use Rattle.td_accept.specs.Doors.{Door}
use Rattle.td_cdr.specs.Marks.{In}
use Rattle.td_server.specs.Kinds.{ServerKind}
use Rattle.td_server.specs.Sessions.{SessionStart, SessionResult, HandedSession, WordsBySeeding, ServesSession}
use Rattle.td_server.specs.Sessions.{ServerState, with_sessions}

-- P holds of each
abbrev pub Every : {X : Type 0} → (X → Type 0) → List X → Type 0
Every P [] = Unit {0}
Every P (x ∷ xs) = P x × Every P xs

-- a session, from the coming of its visitor to its end
pub record Visit (k : ServerKind) (X : Type 0) : Type 0 where
  pub begun : SessionStart k X
  pub ended : SessionResult k X

-- as it is handed on
abbrev pub handed_session : {k : ServerKind} {X : Type 0} → Visit k X → HandedSession k X
handed_session v = record {
  number = v.begun.number;
  visitor = v.ended.visitor;
  limited = v.ended.limited;
  kept = v.ended.kept;
}

-- they have the numbers from this one on, in order
abbrev pub AreNumbered : {k : ServerKind} {X : Type 0} → ℕ → List (SessionStart k X) → Type 0
AreNumbered n [] = Unit {0}
AreNumbered n (b ∷ bs) = (b.number ≡ n) × AreNumbered (n + 1) bs

-- A session that begins with what the server gives and its seed, with what was seen at this stand or has become of it,
-- and with nothing of its own.
pub record BeginsAfter {k : ServerKind} {X : Type 0} (s : ServerState k X) (b : SessionStart k X) :
    Type 0 where
  pub given : b.given ≡ s.given
  pub seed : b.seed ≡ s.seed
  pub seen : k.Continues s.world b.first
  pub nothing_own : b.first ≡ k.bare b.first

-- all visitors that were left have come, in order
abbrev pub HaveCome : {k : ServerKind} {X : Type 0} → Option (Door X) → List (SessionStart k X)
    → Option (Door X)
    → Type 0
HaveCome None came after = after ≡ None
HaveCome {k} {X} (Some d) came after =
    (d.visitors ≡ map (λ (b : SessionStart k X). b.visitor) came)
    × (after ≡ Some (record d { visitors = [] }))

-- one of the sessions has made the change at this place of thing i
abbrev pub HasChangedOnce : {k : ServerKind} {X : Type 0} → (i : k.Thing) (place : ℕ)
    → List (Visit k X)
    → Type 0
HasChangedOnce i place [] = ⊥
HasChangedOnce {k} i place (v ∷ vs) = In place (k.own v.ended.last i)
    ⊎ HasChangedOnce {k = k} i place vs

-- no two of them have made one change
abbrev pub AreApart : {k : ServerKind} {X : Type 0} → List (Visit k X) → Type 0
AreApart [] = Unit {0}
AreApart {k} (v ∷ vs) =
    ((i : k.Thing) (place : ℕ) → In place (k.own v.ended.last i) → HasChangedOnce {k = k} i place vs
    → ⊥) × AreApart {k = k} vs

-- All sessions of a server, from one stand to another: each visitor was served once, under its number, and handed on.
pub record Whole {k : ServerKind} {X : Type 0} (outside_of : X → k.Outside)
    (seeded : X → WordsBySeeding)
    (s t : ServerState k X) : Type 0 where
  -- in the order in which they came
  pub came : List (SessionStart k X)
  -- in the order in which they were handed on
  pub visits : List (Visit k X)
  pub numbered : AreNumbered {k = k} 1 came
  pub have_come : HaveCome {k = k} s.door came t.door
  pub begin : Every (BeginsAfter {k = k} s) came
  pub same : IsPermutation came (map (λ (v : Visit k X). v.begun) visits)
  pub content : t.content ≡ option_map (with_sessions {k = k} (map (handed_session {k = k}) visits))
      s.content
  pub each : Every (λ (v : Visit k X). ServesSession {k = k} outside_of seeded v.begun v.ended)
      visits
  -- what a session has seen is the beginning of what is seen in the end
  pub seen : Every (λ (v : Visit k X). k.Continues v.ended.last t.world) visits
  -- no two sessions share a change, and each that is own in the end is a session's or was own before
  pub apart : AreApart {k = k} visits
  pub changed : (i : k.Thing) (place : ℕ) → In place (k.own t.world i)
      → In place (k.own s.world i) ⊎ HasChangedOnce {k = k} i place visits
