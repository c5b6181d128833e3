-- The accepted changes of all sessions, and the history that is handed on.
use Rattle.std.proofs.Common.{◌≡◌, inl, inr, ℕ, ◌+◌, ◌≤◌, List, [], ◌∷◌, ◌++◌, length, map, Option, refl, sym, ap}
use Rattle.std.proofs.Common.{subst, ◌∙◌, arith, append_assoc, length-append}
use Rattle.std.proofs.lemmas.List.Elements.{All-cons, All-head, All-nil, All-tail}
use Rattle.std.proofs.lemmas.List.Sorted.{All-permutation}
use Rattle.std.specs.List.{All}
use Rattle.td_accept.specs.Doors.{Door}
use Rattle.td_cdr.specs.Marks.{In}
use Rattle.td_cell.specs.Lists.{Rises, itself}
use Rattle.td_name_session.specs.Laws.{places_of}
use Rattle.td_name_session.specs.Scenes.{scene}
use Rattle.td_name_session.specs.Turns.{Turn}
use Rattle.td_name_sessions.specs.Sessions.{SessionStart, Closes, Continues, SessionResult, WordsBySeeding}
use Rattle.td_name_sessions.specs.Sessions.{ServesSession, ServerState, HandedSessions, naming}
use Rattle.td_name_sessions.specs.Whole.{ServesFrom, Visit}
use Rattle.td_name_sessions_laws.proofs.OneSession.{all-stand, makes-all, own-is, places-rise, since}
use Rattle.td_name_sessions_laws.proofs.Times.{in-either, times-both, times-none, times-one}
use Rattle.td_name_sessions_laws.specs.OneHistory.{AllMake, AreOfSessions, AreServed, ChangesAreOfSessions, MakesAll}
use Rattle.td_name_sessions_laws.specs.OneHistory.{all_places, times}
use Rattle.td_naming.specs.Histories.{Past}
use Rattle.td_naming.specs.Views.{View}
use Rattle.td_naming.specs.declared.history.NameChange.{NameChange}
use Rattle.td_server.specs.Whole.{AreApart, BeginsAfter, Every, HasChangedOnce}
use Rattle.td_shared_names.specs.Acting.{size_of}
use Rattle.td_shared_names.specs.Seeing.{any_changes, view_of}
use Rattle.td_stream.specs.Outside.{Outside}

-- ---- from what holds of each session

every-all : {X : Type 0} (P : X → Type 0) (xs : List X) → Every P xs → All P xs
every-all P [] h = All-nil P
every-all P (x ∷ xs) h = All-cons P x xs h.0 (every-all P xs h.1)

all-every : {X Y : Type 0} (P : Y → Type 0) (f : X → Y) (xs : List X) → All P (map f xs)
    → Every (λ (x : X). P (f x)) xs
all-every P f [] h = tt
all-every P f (x ∷ xs) h =
    (All-head P (f x) (map f xs) h, all-every P f xs (All-tail P (f x) (map f xs) h))

-- a session's own places are those of its accepted changes, which rise and stand in the history in the end
record IsRight (opened closed : Past) (own : List ℕ) (turns : List Turn) : Type 0 where
  own_is : own ≡ places_of turns
  rises : Rises itself (places_of turns)
  late : (place : ℕ) → In place (places_of turns) → size_of opened ≤ place
  makes : MakesAll closed.history turns

module _ {X : Type 0} (outside_of : X → Outside) (seeded : X → WordsBySeeding) (opened closed : Past) where
  abbrev AreRight : (visits : List (Visit X)) → AreServed outside_of seeded visits → Type 0
  AreRight [] each = Unit {0}
  AreRight (v ∷ vs) each = IsRight opened closed v.ended.last.own each.0.serves.turns × AreRight vs each.1

  places-changed : (place : ℕ) (vs : List (Visit X)) (each : AreServed outside_of seeded vs) → AreRight vs each
      → In place (all_places outside_of seeded vs each) → HasChangedOnce {k = naming} {X = X} tt place vs
  places-changed place [] each r h = absurd h
  places-changed place (v ∷ vs) each r h =
      elim (in-either place (places_of each.0.serves.turns) (all_places outside_of seeded vs each.1) h)
      as (λ _. HasChangedOnce {k = naming} {X = X} tt place (v ∷ vs)) [
        | inl p ↦ inl (subst (λ (l : List ℕ). In place l) (sym r.0.own_is) p)
        | inr p ↦ inr (places-changed place vs each.1 r.1 p)
      ]

  changed-once : (place : ℕ) (vs : List (Visit X)) (each : AreServed outside_of seeded vs) → AreRight vs each
      → AreApart {k = naming} {X = X} vs → HasChangedOnce {k = naming} {X = X} tt place vs
      → times place (all_places outside_of seeded vs each) ≡ 1
  changed-once place [] each r a h = absurd h
  changed-once place (v ∷ vs) each r a (inl h) =
      let mine = places_of each.0.serves.turns in
      let others = all_places outside_of seeded vs each.1 in
      let one : times place mine ≡ 1 =
      times-one place mine r.0.rises (subst (λ (l : List ℕ). In place l) r.0.own_is h) in
      let none : times place others ≡ 0 =
      times-none place others (λ i. a.0 tt place h (places-changed place vs each.1 r.1 i)) in
      let both = times-both place mine others in
      omega (arith, one, none, both)
  changed-once place (v ∷ vs) each r a (inr h) =
      let mine = places_of each.0.serves.turns in
      let others = all_places outside_of seeded vs each.1 in
      let none : times place mine ≡ 0 =
      times-none place mine (λ i. a.0 tt place (subst (λ (l : List ℕ). In place l) (sym r.0.own_is) i) h) in
      let one : times place others ≡ 1 = changed-once place vs each.1 r.1 a.1 h in
      let both = times-both place mine others in
      omega (arith, one, none, both)

  all-late : (vs : List (Visit X)) (each : AreServed outside_of seeded vs) → AreRight vs each → (place : ℕ)
      → In place (all_places outside_of seeded vs each) → size_of opened ≤ place
  all-late [] each r place h = absurd h
  all-late (v ∷ vs) each r place h =
      elim (in-either place (places_of each.0.serves.turns) (all_places outside_of seeded vs each.1) h)
      as (λ _. size_of opened ≤ place) [
        | inl p ↦ r.0.late place p
        | inr p ↦ all-late vs each.1 r.1 place p
      ]

  all-make : (vs : List (Visit X)) (each : AreServed outside_of seeded vs) → AreRight vs each
      → AllMake outside_of seeded closed.history vs each
  all-make [] each r = tt
  all-make (v ∷ vs) each r = (r.0.makes, all-make vs each.1 r.1)

-- ---- one session

module _ {X : Type 0} (outside_of : X → Outside) (seeded : X → WordsBySeeding) (start : ServerState X) (opened closed : Past)
    (starts : start.world ≡ view_of opened []) (world : View) (closes : Closes opened world closed) where
  one-right : (b : SessionStart X) (e : SessionResult X) (p : ServesSession outside_of seeded b e) → BeginsAfter {k = naming} {X = X} start b
      → Continues e.last world → IsRight opened closed e.last.own p.serves.turns
  one-right b e p begins seen =
      let first = scene b.first ([], 1) in
      let turns = p.serves.turns in
      let none : b.first.own ≡ [] = ap (λ (v : View). v.own) begins.nothing_own in
      let from = subst (λ (w : View). Continues w b.first) starts begins.seen in
      let long : length b.first.history ≡ length opened.history + length from.more =
      ap (λ (h : List NameChange). length h) from.history ∙ length-append opened.history from.more in
      let low : size_of opened ≤ length b.first.history = omega (arith, long) in
      let last : closed.history ≡ p.scene_after.names.history ++ (seen.more ++ closes.seen.more) =
      closes.seen.history
      ∙ ap (λ (h : List NameChange). h ++ closes.seen.more) seen.history
      ∙ append_assoc e.last.history seen.more closes.seen.more
      ∙ ap (λ (v : View). v.history ++ (seen.more ++ closes.seen.more)) (sym p.seen) in
      record {
        own_is =
            ap (λ (v : View). v.own) (sym p.seen)
            ∙ own-is any_changes first p.scene_after turns p.serves.run
            ∙ ap (λ (l : List ℕ). l ++ places_of turns) none;
        rises =
            places-rise p.scene_after turns (all-stand any_changes first p.scene_after turns p.serves.run);
        late = since any_changes first p.scene_after turns p.serves.run opened low;
        makes =
            subst (λ (h : List NameChange). MakesAll h turns) (sym last)
            (makes-all any_changes first p.scene_after turns p.serves.run (seen.more ++ closes.seen.more));
      }

  all-right : (vs : List (Visit X)) (each : AreServed outside_of seeded vs)
      → Every (λ (v : Visit X). BeginsAfter {k = naming} {X = X} start v.begun) vs
      → Every (λ (v : Visit X). Continues v.ended.last world) vs
      → AreRight outside_of seeded opened closed vs each
  all-right [] each begin seen = tt
  all-right (v ∷ vs) each begin seen =
      (one-right v.begun v.ended each.0 begin.0 seen.0, all-right vs each.1 begin.1 seen.1)

-- ---- the law

abbrev begun_of : {X : Type 0} → Visit X → SessionStart X
begun_of v = v.begun

module _ {X : Type 0} (outside_of : X → Outside) (seeded : X → WordsBySeeding) (opened : Past)
    (door door_after : Option (Door X)) (content content_after : Option (HandedSessions X))
    (s : ServesFrom outside_of seeded opened (view_of opened []) door content door_after content_after) where
  abbrev closed : Past
  closed = s.hands.contexts

  abbrev start : ServerState X
  start = record { given = tt; seed = s.seed; door = door; content = content; world = view_of opened [] }

  begin : Every (λ (v : Visit X). BeginsAfter {k = naming} {X = X} start v.begun) s.whole.visits
  begin =
      all-every (BeginsAfter {k = naming} {X = X} start) begun_of s.whole.visits
      (All-permutation (BeginsAfter {k = naming} {X = X} start) s.whole.came (map begun_of s.whole.visits) s.whole.same
      (every-all (BeginsAfter {k = naming} {X = X} start) s.whole.came s.whole.begin))

  right : AreRight outside_of seeded opened closed s.whole.visits s.whole.each
  right =
      all-right outside_of seeded start opened closed refl s.end.world s.hands.closes s.whole.visits s.whole.each begin
      s.whole.seen

  changed : (place : ℕ) → In place s.end.world.own → HasChangedOnce {k = naming} {X = X} tt place s.whole.visits
  changed place own =
      elim (s.whole.changed tt place own) as (λ _. HasChangedOnce {k = naming} {X = X} tt place s.whole.visits) [
        | inl h ↦ absurd h
        | inr h ↦ h
      ]

  of-all : AreOfSessions outside_of seeded opened closed s.whole.visits s.whole.each
  of-all = record {
    goes_on = s.hands.closes.since;
    once = λ place low high.
        changed-once outside_of seeded opened closed place s.whole.visits s.whole.each right s.whole.apart
        (changed place (s.hands.closes.places place low high));
    since = all-late outside_of seeded opened closed s.whole.visits s.whole.each right;
    made = all-make outside_of seeded opened closed s.whole.visits s.whole.each right;
  }

pub of-sessions : (X : Type 0) → ChangesAreOfSessions X
of-sessions X outside_of seeded opened door door_after content content_after s =
    of-all outside_of seeded opened door door_after content content_after s
