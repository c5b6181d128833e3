-- What is seen of all traders when a session is taken in.
use Rattle.std.proofs.Common.{◌≡◌, ◌⊎◌, ℕ, zero, suc, List, [], ◌∷◌, map, refl, sym, ap, subst}
use Rattle.std.specs.List.{AllZip}
use Rattle.td_cdr.specs.Marks.{In}
use Rattle.td_cell.proofs.Lists.{has-merge, in-merge, merge-apart}
use Rattle.td_cell.specs.Lists.{Rises, itself, merge}
use Rattle.td_fed.specs.Trails.{own_at}
use Rattle.td_server.specs.Kinds.{Laws}
use Rattle.td_server.specs.Rows.{Rows}
use Rattle.td_trader.proofs.Growing.{writable-itself, writable-on}
use Rattle.td_trader.specs.Worlds.{View}
use Rattle.td_sessions.specs.Sessions.{Continues, Joins, as_trader, bare, trading}

continue_on : (w u v : List View) → AllZip Continues w u → AllZip Continues u v
    → AllZip Continues w v
continue_on [] [] [] p q = tt
continue_on [] [] (z ∷ v) p q = absurd q
continue_on [] (y ∷ u) v p q = absurd p
continue_on (x ∷ w) [] v p q = absurd p
continue_on (x ∷ w) (y ∷ u) [] p q = absurd q
continue_on (x ∷ w) (y ∷ u) (z ∷ v) p q =
    (writable-on (as_trader x) (as_trader y) (as_trader z) p.0 q.0, continue_on w u v p.1 q.1)

continue_itself : (w : List View) → AllZip Continues w w
continue_itself [] = tt
continue_itself (x ∷ w) = (writable-itself (as_trader x), continue_itself w)

-- what is one's own doesn't matter there
continue_bare : (w u : List View) → AllZip Continues w u → AllZip Continues w (map bare u)
continue_bare [] [] p = tt
continue_bare [] (y ∷ u) p = absurd p
continue_bare (x ∷ w) [] p = absurd p
continue_bare (x ∷ w) (y ∷ u) p = (p.0, continue_bare w u p.1)

bare_twice : (w : List View) → map bare (map bare w) ≡ map bare w
bare_twice [] = refl
bare_twice (x ∷ w) = ap (λ (l : List View). bare x ∷ l) (bare_twice w)

joins_before : (w e u : List View) → Rows Joins w e u → AllZip Continues w u
joins_before [] [] [] r = tt
joins_before [] [] (z ∷ u) r = absurd r
joins_before [] (y ∷ e) u r = absurd r
joins_before (x ∷ w) [] u r = absurd r
joins_before (x ∷ w) (y ∷ e) [] r = absurd r
joins_before (x ∷ w) (y ∷ e) (z ∷ u) r = (r.0.before, joins_before w e u r.1)

joins_seen : (w e u : List View) → Rows Joins w e u → AllZip Continues e u
joins_seen [] [] [] r = tt
joins_seen [] [] (z ∷ u) r = absurd r
joins_seen [] (y ∷ e) u r = absurd r
joins_seen (x ∷ w) [] u r = absurd r
joins_seen (x ∷ w) (y ∷ e) [] r = absurd r
joins_seen (x ∷ w) (y ∷ e) (z ∷ u) r = (r.0.seen, joins_seen w e u r.1)

-- what is own of a trader afterwards
record Owned (before session after : List ℕ) : Type 0 where
  pub merged : after ≡ merge itself before session
  pub rises : Rises itself after

owned_at : (w e u : List View) (k : ℕ) → Rows Joins w e u
    → Owned (own_at w k) (own_at e k) (own_at u k)
owned_at [] [] [] zero r = record { merged = refl; rises = tt }
owned_at [] [] [] (suc k) r = record { merged = refl; rises = tt }
owned_at [] [] (z ∷ u) k r = absurd r
owned_at [] (y ∷ e) u k r = absurd r
owned_at (x ∷ w) [] u k r = absurd r
owned_at (x ∷ w) (y ∷ e) [] k r = absurd r
owned_at (x ∷ w) (y ∷ e) (z ∷ u) zero r = record { merged = r.0.own; rises = r.0.apart }
owned_at (x ∷ w) (y ∷ e) (z ∷ u) (suc k) r = owned_at w e u k r.1

-- a place that is own then was own before, or is the session's
own_after : (w e u : List View) (k place : ℕ) → Rows Joins w e u → In place (own_at u k)
    → In place (own_at w k) ⊎ In place (own_at e k)
own_after w e u k place r h =
    let o = owned_at w e u k r in
    in-merge itself place (own_at w k) (own_at e k) (subst (λ (l : List ℕ). In place l) o.merged h)

own_stays : (w e u : List View) (k place : ℕ) → Rows Joins w e u → In place (own_at w k)
    ⊎ In place (own_at e k) → In place (own_at u k)
own_stays w e u k place r h =
    let o = owned_at w e u k r in
    subst (λ (l : List ℕ). In place l) (sym o.merged)
    (has-merge itself place (own_at w k) (own_at e k) h)

-- and no place is both
own_apart : (w e u : List View) (k place : ℕ) → Rows Joins w e u → In place (own_at w k)
    → In place (own_at e k) → ⊥
own_apart w e u k place r h i =
    let o = owned_at w e u k r in
    merge-apart itself (own_at w k) (own_at e k) (subst (Rises itself) o.merged o.rises)
    place place h i refl

-- so the kind has its laws
pub trading_laws : Laws trading
trading_laws = record {
  itself = continue_itself;
  on = continue_on;
  to_bare = continue_bare;
  bare_twice = bare_twice;
  before = joins_before;
  seen = joins_seen;
  after = own_after;
  stays = own_stays;
  apart = own_apart;
}
