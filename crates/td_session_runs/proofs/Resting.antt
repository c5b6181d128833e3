-- What is left where queries only began, or names were followed: what is seen grows, and no change is one's own.
use Rattle.std.proofs.Common.{◌≡◌, ℕ, Bool, true, false, nat_eq, List, [], ◌∷◌, ◌++◌, length, append-nil, Option, None}
use Rattle.std.proofs.Common.{Some, Result, Ok, Err, refl, sym, subst, ◌∙◌, cond, eqb-true, le_refl}
use Rattle.td_cdr.specs.Marks.{Marks}
use Rattle.td_typecode.specs.declared.reference.Ior.{Ior}
use Rattle.td_fed.specs.Resolving.{ResolvesFrom, IsAskedFor, LooksUp, Resolves, followed, given, illegal, inside, named}
use Rattle.td_fed.specs.Resolving.{outside, ungiven, unknown, no_memory_outcome}
use Rattle.td_fed.specs.Trails.{Goes, NeverFalls, began, only_of, own_at, own_marks_at, stays, watched}
use Rattle.td_fed.specs.declared.resolving.NameAnswer.{NameAnswer}
use Rattle.td_register.specs.declared.history.Accepted.{Accepted}
use Rattle.td_trader.specs.Worlds.{View, history_at}
use Rattle.td_session_runs.proofs.Growing.{grow-length, grow-none, grow-on}
use Rattle.td_session_runs.proofs.Moving.{Moves, begun-moves, moves-as, moves-on, moves-quiet, none, seen-moves}
use Rattle.td_session_runs.proofs.Travelling.{Adds, adds-none, adds-one}
use Rattle.td_session_runs.specs.Seen.{AllGrow}
use Rattle.td_walk.specs.Peering.{Exchange, PeerAnswer, Resolving}
use Rattle.td_walk.specs.Peering.{Failed as Missed, Referred}
use Rattle.td_walk.specs.declared.fault.PeerFault.{PeerFault}
use Rattle.td_walk.specs.declared.trace.Address.{Address}

-- ---- queries that began

pub record Rests (w u : List View) : Type 0 where
  pub grow : AllGrow w u
  pub own : (k : ℕ) → own_at u k ≡ own_at w k

rests-on : (w x u : List View) → Rests w x → Rests x u → Rests w u
rests-on w x u p q = record { grow = grow-on w x u p.grow q.grow; own = λ k. q.own k ∙ p.own k }

moved-rests : (w u : List View) (marks points : ℕ → List ℕ) → Moves w u none marks points → Rests w u
moved-rests w u marks points m = record { grow = m.grow; own = λ k. m.own k ∙ append-nil (own_at w k) }

pub goes-rests : (others : List Accepted → Type 0) (later : Marks → Marks → Type 0) {w v : List View}
    → Goes others later w v → Rests w v
goes-rests others later (stays {w = w}) = record { grow = grow-none w; own = λ k. refl }
goes-rests others later (began {w = w} {u = u} {v = v} k q b h more) =
    rests-on w u v
    (moved-rests w u _ _ (begun-moves others later w k q b u h (length (history_at u k)) refl))
    (goes-rests others later more)
goes-rests others later (watched {w = w} {u = u} {v = v} k h more) =
    rests-on w u v
    (moved-rests w u none (only_of k (length (history_at u k) ∷ []))
    (seen-moves others later w k u h.seen h.meanwhile h.world))
    (goes-rests others later more)

-- ---- names that are followed

-- what a register outside gave, where one was asked
abbrev pub answered_by : Option (Result Ior PeerFault) → List PeerAnswer
answered_by None = []
answered_by (Some (Ok r)) = Referred r ∷ []
answered_by (Some (Err f)) = Missed f ∷ []

pub record Leads (w u : List View) (k : ℕ) (calls now : List Exchange) (a : NameAnswer) : Type 0 where
  pub moves : Moves w u none none (only_of k (a.point ∷ []))
  pub adds : Adds calls (answered_by a.asked) now

asked-adds : (point : ℕ) (whole rest : List (List ℕ)) (register : Ior) (calls : List Exchange) (a : NameAnswer)
    (now : List Exchange) → IsAskedFor point whole rest register calls a now
    → (a.point ≡ point) × Adds calls (answered_by a.asked) now
asked-adds point whole rest register calls a now (given r) =
    (refl, adds-one calls (Resolving register rest) (Referred r))
asked-adds point whole rest register calls a now (no_memory_outcome r) =
    (refl, adds-one calls (Resolving register rest) (Referred r))
asked-adds point whole rest register calls a now (ungiven f e) =
    (refl, adds-one calls (Resolving register rest) (Missed f))

module _ (others : List Accepted → Type 0) (later : Marks → Marks → Type 0) where
  looked-up : (w : List View) (k : ℕ) (name : List ℕ) (register : Option Ior) (u : List View)
      → LooksUp others later w k name register u → Moves w u none none (only_of k (length (history_at u k) ∷ []))
  looked-up w k name register u h = seen-moves others later w k u h.seen h.meanwhile h.world

  -- the first look, and then the others
  first-look : (w u v : List View) (k : ℕ) (points more : ℕ → List ℕ) → Moves w u none none points
      → Moves u v none none more → Moves w v none none points
  first-look w u v k points more m n =
      moves-as w v none none (λ j. points j ++ none j) none none points
      (moves-on w u v none none points none none none m (moves-quiet u v none none more n)) (λ j. refl) (λ j. refl)
      (λ j. append-nil (points j))

pub follows-leads : (others : List Accepted → Type 0) (later : Marks → Marks → Type 0) (home : Address)
    (whole : List (List ℕ)) (calls : List Exchange) {w : List View} {k : ℕ} {names : List (List ℕ)} {a : NameAnswer}
    {v : List View} {now : List Exchange} → ResolvesFrom others later home whole calls w k names a v now
    → Leads w v k calls now a
follows-leads others later home whole calls (unknown {w = w} {k = k} {name = name} {u = u} looks) = record {
  moves = looked-up others later w k name None u looks;
  adds = adds-none calls;
}
follows-leads others later home whole calls (named {w = w} {k = k} {name = name} {u = u} register looks) = record {
  moves = looked-up others later w k name (Some register) u looks;
  adds = adds-none calls;
}
follows-leads others later home whole calls
    (inside {w = w} {k = k} {name = name} {u = u} {a = a} {v = v} register n looks is more) =
    let rest = follows-leads others later home whole calls more in
    record {
      moves =
          first-look others later w u v k (only_of k (length (history_at u k) ∷ [])) (only_of n (a.point ∷ []))
          (looked-up others later w k name (Some register) u looks) rest.moves;
      adds = rest.adds;
    }
follows-leads others later home whole calls
    (outside {w = w} {k = k} {name = name} {next = next} {rest = rest} {u = u} {a = a} {now = now} register looks is
    h) =
    let content = asked-adds (length (history_at u k)) whole (next ∷ rest) register calls a now h in
    record {
      moves =
          subst (λ (p : ℕ). Moves w u none none (only_of k (p ∷ []))) (sym content.0)
          (looked-up others later w k name (Some register) u looks);
      adds = content.1;
    }

-- a point that is noted behind it all
pub end-rise : (w u : List View) → AllGrow w u → (k j : ℕ)
    → NeverFalls (length (history_at w j)) (only_of k (length (history_at u k) ∷ []) j) (length (history_at u j))
end-rise w u g k j = by-trader (nat_eq k j) refl
  where
    by-trader : (b : Bool) → nat_eq k j ≡ b
        → NeverFalls (length (history_at w j)) (cond (nat_eq k j) (length (history_at u k) ∷ []) [])
        (length (history_at u j))
    by-trader true e =
        let one : k ≡ j = eqb-true k j e in
        subst (λ (b : Bool). NeverFalls (length (history_at w j)) (cond b (length (history_at u k) ∷ []) [])
        (length (history_at u j))) (sym e)
        (subst (λ (n : ℕ). NeverFalls (length (history_at w j)) (length (history_at u n) ∷ []) (length (history_at u j)))
        (sym one) (grow-length w u g j, le_refl (length (history_at u j))))
    by-trader false e =
        subst (λ (b : Bool). NeverFalls (length (history_at w j)) (cond b (length (history_at u k) ∷ []) [])
        (length (history_at u j))) (sym e) (grow-length w u g j)

-- a call of one trader, of which no more is seen
pub still-moves : (w : List View) (k : ℕ) → Moves w w none none (only_of k (length (history_at w k) ∷ []))
still-moves w k = record {
  grow = grow-none w;
  own = λ j. sym (append-nil (own_at w j));
  own_marks = λ j. sym (append-nil (own_marks_at w j));
  rise = end-rise w w (grow-none w) k;
}

pub resolves-leads : (others : List Accepted → Type 0) (later : Marks → Marks → Type 0) (home : Address)
    (w : List View) (calls : List Exchange) (k : ℕ) (names : List (List ℕ)) (a : NameAnswer) (u : List View)
    (now : List Exchange) → Resolves others later home w calls k names a u now → Leads w u k calls now a
resolves-leads others later home w calls k names a u now (illegal e) = record {
  moves = still-moves w k;
  adds = adds-none calls;
}
resolves-leads others later home w calls k names a u now (followed e h) =
    follows-leads others later home names calls h

-- names that are followed begin no query, and change nothing
pub follows-goes : (others : List Accepted → Type 0) (later : Marks → Marks → Type 0) (home : Address)
    (whole : List (List ℕ)) (calls : List Exchange) {w : List View} {k : ℕ} {names : List (List ℕ)} {a : NameAnswer}
    {v : List View} {now : List Exchange} → ResolvesFrom others later home whole calls w k names a v now
    → Goes others later w v
follows-goes others later home whole calls (unknown {k = k} looks) =
    watched k (record { seen = looks.seen; meanwhile = looks.meanwhile; world = looks.world }) stays
follows-goes others later home whole calls (named {k = k} register looks) =
    watched k (record { seen = looks.seen; meanwhile = looks.meanwhile; world = looks.world }) stays
follows-goes others later home whole calls (inside {k = k} register n looks is more) =
    watched k (record { seen = looks.seen; meanwhile = looks.meanwhile; world = looks.world })
    (follows-goes others later home whole calls more)
follows-goes others later home whole calls (outside {k = k} register looks is h) =
    watched k (record { seen = looks.seen; meanwhile = looks.meanwhile; world = looks.world }) stays

pub resolves-goes : (others : List Accepted → Type 0) (later : Marks → Marks → Type 0) (home : Address)
    (w : List View) (calls : List Exchange) (k : ℕ) (names : List (List ℕ)) (a : NameAnswer) (u : List View)
    (now : List Exchange) → Resolves others later home w calls k names a u now → Goes others later w u
resolves-goes others later home w calls k names a u now (illegal e) = stays
resolves-goes others later home w calls k names a u now (followed e h) =
    follows-goes others later home names calls h
