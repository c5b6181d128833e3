-- What is seen of one trader, and what it becomes.
use Rattle.std.proofs.Common.{◌≡◌, ℕ, zero, suc, ◌+◌, ◌≤◌, List, [], ◌∷◌, ◌++◌, length, map, Option, None, Some}
use Rattle.std.proofs.Common.{slice_get, refl, sym, ap, subst, ◌∙◌, append_assoc, arith}
use Rattle.std.proofs.lemmas.List.{length-append}
use Rattle.std.specs.List.{AllZip}
use Rattle.td_fed.specs.Trails.{own_at}
use Rattle.td_group.specs.Rows.{Rows}
use Rattle.td_register.specs.declared.history.Accepted.{Accepted}
use Rattle.td_sessions.specs.Sessions.{Closes, Continues, bare}
use Rattle.td_sessions.specs.Whole.{opened_views}
use Rattle.td_trader.specs.PlainTraders.{PlainTrader}
use Rattle.td_trader.specs.Worlds.{View, history_at, history_in, view_of}

-- ---- what stands beside it

-- what it has become stands in the other list
pub record Later (v : View) (o : Option View) : Type 0 where
  pub view : View
  pub is : o ≡ Some view
  pub on : Continues v view

pub later-at : (w u : List View) (k : ℕ) (v : View) → AllZip Continues w u → slice_get w k ≡ Some v
    → Later v (slice_get u k)
later-at [] u k v p is = absurd cc
later-at (x ∷ w) [] k v p is = absurd p
later-at (x ∷ w) (y ∷ u) zero v p is =
    let e : x ≡ v = cc in record { view = y; is = refl; on = subst (λ (z : View). Continues z y) e p.0 }
later-at (x ∷ w) (y ∷ u) (suc k) v p is = later-at w u k v p.1 is

-- what has become it stands in the other list
pub record Earlier (o : Option View) (v : View) : Type 0 where
  pub view : View
  pub is : o ≡ Some view
  pub on : Continues view v

pub earlier-at : (w u : List View) (k : ℕ) (v : View) → AllZip Continues w u → slice_get u k ≡ Some v
    → Earlier (slice_get w k) v
earlier-at w [] k v p is = absurd cc
earlier-at [] (y ∷ u) k v p is = absurd p
earlier-at (x ∷ w) (y ∷ u) zero v p is =
    let e : y ≡ v = cc in record { view = x; is = refl; on = subst (λ (z : View). Continues x z) e p.0 }
earlier-at (x ∷ w) (y ∷ u) (suc k) v p is = earlier-at w u k v p.1 is

-- what was seen last of the trader that was opened and handed on
pub record SeenLast (opened : PlainTrader) (o : Option View) (closed : PlainTrader) : Type 0 where
  pub view : View
  pub is : o ≡ Some view
  pub closes : Closes opened view closed

pub closes-at : (ts : List PlainTrader) (w : List View) (us : List PlainTrader) (k : ℕ) (t u : PlainTrader)
    → Rows Closes ts w us → slice_get ts k ≡ Some t → slice_get us k ≡ Some u → SeenLast t (slice_get w k) u
closes-at [] w us k t u r a b = absurd cc
closes-at (x ∷ ts) [] us k t u r a b = absurd r
closes-at (x ∷ ts) (y ∷ w) [] k t u r a b = absurd r
closes-at (x ∷ ts) (y ∷ w) (z ∷ us) zero t u r a b =
    let e : x ≡ t = cc in
    let f : z ≡ u = cc in
    record {
      view = y;
      is = refl;
      closes = subst (λ (i : PlainTrader). Closes i y u) e (subst (λ (i : PlainTrader). Closes x y i) f r.0);
    }
closes-at (x ∷ ts) (y ∷ w) (z ∷ us) (suc k) t u r a b = closes-at ts w us k t u r.1 a b

-- a trader that is seen was opened, and is handed on
pub record IsThere (opened closed : List PlainTrader) (k : ℕ) : Type 0 where
  pub first : PlainTrader
  pub last : PlainTrader
  pub is_opened : slice_get opened k ≡ Some first
  pub is_closed : slice_get closed k ≡ Some last

there-at : (ts : List PlainTrader) (w : List View) (us : List PlainTrader) (k : ℕ) (v : View) → Rows Closes ts w us
    → slice_get w k ≡ Some v → IsThere ts us k
there-at ts [] us k v r is = absurd cc
there-at [] (y ∷ w) us k v r is = absurd r
there-at (x ∷ ts) (y ∷ w) [] k v r is = absurd r
there-at (x ∷ ts) (y ∷ w) (z ∷ us) zero v r is =
    record { first = x; last = z; is_opened = refl; is_closed = refl }
there-at (x ∷ ts) (y ∷ w) (z ∷ us) (suc k) v r is =
    let t = there-at ts w us k v r.1 is in
    record { first = t.first; last = t.last; is_opened = t.is_opened; is_closed = t.is_closed }

there-by : (ts : List PlainTrader) (last world : List View) (us : List PlainTrader) (k place : ℕ) (e : Accepted)
    (o : Option View) → slice_get last k ≡ o → AllZip Continues last world → Rows Closes ts world us
    → slice_get (history_in o) place ≡ Some e → IsThere ts us k
there-by ts last world us k place e None is p r h = absurd cc
there-by ts last world us k place e (Some v) is p r h =
    let x = later-at last world k v p is in there-at ts world us k x.view r x.is

-- so is one of which a session has seen an entry
pub has-trader : (ts : List PlainTrader) (last world : List View) (us : List PlainTrader) (k place : ℕ)
    (e : Accepted) → AllZip Continues last world → Rows Closes ts world us
    → slice_get (history_at last k) place ≡ Some e → IsThere ts us k
has-trader ts last world us k place e p r h =
    there-by ts last world us k place e (slice_get last k) refl p r h

pub as-many : (ts : List PlainTrader) (w : List View) (us : List PlainTrader) → Rows Closes ts w us
    → length us ≡ length ts
as-many [] [] [] r = refl
as-many [] [] (z ∷ us) r = absurd r
as-many [] (y ∷ w) us r = absurd r
as-many (x ∷ ts) [] us r = absurd r
as-many (x ∷ ts) (y ∷ w) [] r = absurd r
as-many (x ∷ ts) (y ∷ w) (z ∷ us) r = ap (λ (n : ℕ). suc n) (as-many ts w us r.1)

-- ---- of traders that were just opened, and of views with nothing of one's own

pub opened-at : (ts : List PlainTrader) (k : ℕ) (t : PlainTrader) → slice_get ts k ≡ Some t
    → slice_get (opened_views ts) k ≡ Some (view_of t [] [])
opened-at [] k t is = absurd cc
opened-at (x ∷ ts) zero t is = let e : x ≡ t = cc in ap (λ (i : PlainTrader). Some (view_of i [] [])) e
opened-at (x ∷ ts) (suc k) t is = opened-at ts k t is

pub opened-own : (ts : List PlainTrader) (k : ℕ) → own_at (opened_views ts) k ≡ []
opened-own [] k = refl
opened-own (x ∷ ts) zero = refl
opened-own (x ∷ ts) (suc k) = opened-own ts k

pub bare-own : (w : List View) (k : ℕ) → own_at (map bare w) k ≡ []
bare-own [] k = refl
bare-own (x ∷ w) zero = refl
bare-own (x ∷ w) (suc k) = bare-own w k

-- ---- histories

-- what stands in a front stands there in the whole
pub stands-on : (h more : List Accepted) (place : ℕ) (e : Accepted) → slice_get h place ≡ Some e
    → slice_get (h ++ more) place ≡ Some e
stands-on [] more place e is = absurd cc
stands-on (x ∷ h) more zero e is = is
stands-on (x ∷ h) more (suc place) e is = stands-on h more place e is

pub no-shorter : (h more now : List Accepted) → now ≡ h ++ more → length h ≤ length now
no-shorter h more now is =
    let size : length now ≡ length h + length more = ap length is ∙ length-append h more in omega (arith, size)

-- the one is a front of the other
pub record IsFront (h now : List Accepted) : Type 0 where
  pub more : List Accepted
  pub is : now ≡ h ++ more

-- what a session has seen last of a trader is a front of what is handed on
pub front-of : (last world : List View) (k : ℕ) (t u : PlainTrader) → AllZip Continues last world
    → SeenLast t (slice_get world k) u → IsFront (history_at last k) u.history
front-of last world k t u p c =
    let x = earlier-at last world k c.view p c.is in
    let seen = c.closes.seen.follows in
    record {
      more = x.on.follows.more ++ seen.more;
      is =
          seen.history
          ∙ ap (λ (h : List Accepted). h ++ seen.more) x.on.follows.history
          ∙ append_assoc x.view.history x.on.follows.more seen.more
          ∙ ap (λ (o : Option View). history_in o ++ (x.on.follows.more ++ seen.more)) (sym x.is);
    }

-- a session has seen the history of the opening at least
pub opening-seen : (ts : List PlainTrader) (first : List View) (k : ℕ) (t : PlainTrader)
    → AllZip Continues (opened_views ts) first → slice_get ts k ≡ Some t
    → length t.history ≤ length (history_at first k)
opening-seen ts first k t p is =
    let x = later-at (opened_views ts) first k (view_of t [] []) p (opened-at ts k t is) in
    let h : length t.history ≤ length x.view.history =
    no-shorter t.history x.on.follows.more x.view.history x.on.follows.history in
    subst (λ (o : Option View). length t.history ≤ length (history_in o)) (sym x.is) h
