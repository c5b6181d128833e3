-- What is seen of the traders and of the desk when a session is taken in.
use Rattle.std.proofs.Common.{◌⊎◌, ℕ, List, ap}
use Rattle.td_cdr.specs.Marks.{In}
use Rattle.td_server.specs.Kinds.{Laws}
use Rattle.td_sessions.specs.Worlds.{trading_laws}
use Rattle.td_shared.specs.DeskLaws.{desk_after, desk_apart, desk_itself, desk_on, desk_stays, desk_to_bare}
use Rattle.td_shared.specs.DeskSeen.{bare_desk}
use Rattle.td_trader.specs.Worlds.{View}
use Rattle.td_shared_sessions.specs.Sessions.{SharedThing, SharedWorld, WorldJoins, a_trader, own_by, sharing, the_desk}
use Rattle.td_shared_sessions.specs.Sessions.{shared_world}

-- a place that is own then was own before, or is the session's
own_after : (w e u : SharedWorld) (i : SharedThing) (place : ℕ) → WorldJoins w e u
    → In place (own_by u i) → In place (own_by w i) ⊎ In place (own_by e i)
own_after w e u (a_trader k) place j h = trading_laws.after w.traders e.traders u.traders k place
    j.0 h
own_after w e u the_desk place j h = desk_after w.desk e.desk u.desk place j.1 h

own_stays : (w e u : SharedWorld) (i : SharedThing) (place : ℕ) → WorldJoins w e u
    → In place (own_by w i) ⊎ In place (own_by e i) → In place (own_by u i)
own_stays w e u (a_trader k) place j h = trading_laws.stays w.traders e.traders u.traders k place
    j.0 h
own_stays w e u the_desk place j h = desk_stays w.desk e.desk u.desk place j.1 h

-- and no place is both
own_apart : (w e u : SharedWorld) (i : SharedThing) (place : ℕ) → WorldJoins w e u
    → In place (own_by w i) → In place (own_by e i) → ⊥
own_apart w e u (a_trader k) place j h g = trading_laws.apart w.traders e.traders u.traders k place
    j.0 h g
own_apart w e u the_desk place j h g = desk_apart w.desk e.desk u.desk place j.1 h g

-- so the kind has its laws
pub sharing_laws : Laws sharing
sharing_laws = record {
  itself = λ w. (trading_laws.itself w.traders, desk_itself w.desk);
  on = λ u v w p q. (
    trading_laws.on u.traders v.traders w.traders p.0 q.0,
    desk_on u.desk v.desk w.desk p.1 q.1,
  );
  to_bare = λ v w p. (trading_laws.to_bare v.traders w.traders p.0, desk_to_bare v.desk w.desk p.1);
  bare_twice = λ w. ap (λ (ts : List View). shared_world ts (bare_desk w.desk))
      (trading_laws.bare_twice w.traders);
  before = λ w e u j. (trading_laws.before w.traders e.traders u.traders j.0, j.1.before);
  seen = λ w e u j. (trading_laws.seen w.traders e.traders u.traders j.0, j.1.seen);
  after = own_after;
  stays = own_stays;
  apart = own_apart;
}
