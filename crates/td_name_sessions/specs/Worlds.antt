-- What is seen of the contexts when a session is taken in.
use Rattle.std.proofs.Common.{◌⊎◌, ℕ, List, refl, sym, subst}
use Rattle.td_cdr.specs.Marks.{In}
use Rattle.td_cell.proofs.Lists.{has-merge, in-merge, merge-apart}
use Rattle.td_cell.specs.Lists.{Rises, itself}
use Rattle.td_naming.specs.Views.{View}
use Rattle.td_server.specs.Kinds.{Laws}
use Rattle.td_shared_names.specs.BookLaws.{goes_on_itself, goes_on_more}
use Rattle.td_name_sessions.specs.Sessions.{Joins, naming, past_in}

-- a place that is own then was own before, or is the session's
own_after : (w e u : View) (place : ℕ) → Joins w e u → In place u.own → In place w.own
    ⊎ In place e.own
own_after w e u place j h = in-merge itself place w.own e.own
    (subst (λ (l : List ℕ). In place l) j.own h)

own_stays : (w e u : View) (place : ℕ) → Joins w e u → In place w.own ⊎ In place e.own
    → In place u.own
own_stays w e u place j h =
    subst (λ (l : List ℕ). In place l) (sym j.own) (has-merge itself place w.own e.own h)

-- and no place is both
own_apart : (w e u : View) (place : ℕ) → Joins w e u → In place w.own → In place e.own → ⊥
own_apart w e u place j h i =
    merge-apart itself w.own e.own (subst (Rises itself) j.own j.apart) place place h i refl

-- so the kind has its laws
pub naming_laws : Laws naming
naming_laws = record {
  itself = λ w. goes_on_itself (past_in w);
  on = λ u v w p q. goes_on_more (past_in u) (past_in v) (past_in w) p q;
  to_bare = λ v w p. p;
  bare_twice = λ w. refl;
  before = λ w e u j. j.before;
  seen = λ w e u j. j.seen;
  after = λ w e u i place j h. own_after w e u place j h;
  stays = λ w e u i place j h. own_stays w e u place j h;
  apart = λ w e u i place j h g. own_apart w e u place j h g;
}
