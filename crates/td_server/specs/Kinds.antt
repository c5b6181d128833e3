-- A kind of server: what its sessions share, and what it is to serve one of them.
use Rattle.std.specs.Prelude.{◌≡◌, ◌⊎◌, ℕ, List}
use Rattle.td_cdr.specs.Marks.{In}

pub record ServerKind : Type 1 where
  -- what is seen of what all sessions share
  pub World : Type 0
  -- what each session is given, as the address of the objects that it reaches
  pub Given : Type 0
  -- what is told of a connection: the bytes that came and went, and the faults
  pub Outside : Type 0
  -- what is kept of a session that has ended
  pub Kept : Type 0
  -- what is handed on once all sessions have ended
  pub Closed : Type 0
  -- each of the things that are shared
  pub Thing : Type 0
  -- what another has seen, with nothing of one's own
  pub bare : World → World
  -- the second may be what the first has become
  pub Continues : World → World → Type 0
  -- What was seen before a session was taken in and what the session has seen lead to what is seen then.
  pub Joins : (before session after : World) → Type 0
  -- the places of one's own changes of a thing
  pub own : World → Thing → List ℕ
  -- A session was served: what it was given and what was seen when it began, its random words, what its connection told
  -- before and afterwards, what was kept of it, and what it has seen.
  pub Serves : Given → (first : World) → (words : ℕ → ℕ) → (before after : Outside) → Kept
      → (last : World) → Type 0

-- what is to hold of them
pub record Laws (k : ServerKind) : Type 0 where
  pub itself : (w : k.World) → k.Continues w w
  pub on : (u v w : k.World) → k.Continues u v → k.Continues v w → k.Continues u w
  -- what is one's own doesn't matter there
  pub to_bare : (v w : k.World) → k.Continues v w → k.Continues v (k.bare w)
  pub bare_twice : (w : k.World) → k.bare (k.bare w) ≡ k.bare w
  pub before : (w e u : k.World) → k.Joins w e u → k.Continues w u
  pub seen : (w e u : k.World) → k.Joins w e u → k.Continues e u
  -- a place that is own then was own before, or is the session's, and no place is both
  pub after : (w e u : k.World) (i : k.Thing) (place : ℕ) → k.Joins w e u → In place (k.own u i)
      → In place (k.own w i) ⊎ In place (k.own e i)
  pub stays : (w e u : k.World) (i : k.Thing) (place : ℕ) → k.Joins w e u
      → In place (k.own w i) ⊎ In place (k.own e i) → In place (k.own u i)
  pub apart : (w e u : k.World) (i : k.Thing) (place : ℕ) → k.Joins w e u → In place (k.own w i)
      → In place (k.own e i) → ⊥
