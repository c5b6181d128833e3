-- The sessions of a server, from the binding of its acceptor to the traders in the end.
use Rattle.std.proofs.Common.{◌≡◌, ◌∙◌, ℕ, List, OnOk, Option, Result, option_map, ap, subst}
use Rattle.std.proofs.lemmas.Result.{on_ok_weaker}
use Rattle.td_accept.specs.Doors.{Door, bound_to}
use Rattle.td_sessions.specs.Whole.{opened_views}
use Rattle.td_shared.specs.DeskSeen.{DeskSeen}
use Rattle.td_shared_sessions.specs.Sessions.{WordsBySeeding, SharedWorld, ServerState, HandedSessions, shared_world}
use Rattle.td_shared_sessions.specs.Whole.{ServesSessions, ServesFrom, new_desk, opened_world}
use Rattle.td_stream.specs.Outside.{Outside}
use Rattle.td_trader.specs.PlainTraders.{PlainTrader}
use Rattle.td_trader.specs.Worlds.{View}
use Rattle.td_walk.specs.declared.trace.Address.{Address}

-- ---- from the end of one call to the next

pub if_ok : {T E P Q : Type 0} (r : Result T E) → OnOk r P → (P → Q) → OnOk r Q
if_ok r p f = on_ok_weaker r f p

module _ {X : Type 0} (outside_of : X → Outside) (seeded : X → WordsBySeeding) (home : Address) (seed : List ℕ) where
  abbrev stand : Option (Door X) → Option (HandedSessions X) → SharedWorld → ServerState X
  stand door content world = record { given = home; seed = seed; door = door; content = content; world = world }

  -- the traders that were opened and the new desk, as they are seen
  pub from_opened : (opened traders : List PlainTrader) (views : List View) (desk : DeskSeen)
      (door : Option (Door X)) (content : Option (HandedSessions X)) (door_after : Option (Door X)) (content_after : Option (HandedSessions X))
      → opened ≡ traders → views ≡ opened_views traders → desk ≡ new_desk
      → ServesFrom outside_of seeded opened
      (record { given = home; seed = seed; door = door; content = content; world = shared_world views desk }) door_after
      content_after
      → ServesFrom outside_of seeded traders
      (record { given = home; seed = seed; door = door; content = content; world = opened_world traders }) door_after
      content_after
  from_opened opened traders views desk door content door_after content_after o w d f =
      subst (λ (x : DeskSeen).
      ServesFrom outside_of seeded traders (stand door content (shared_world (opened_views traders) x)) door_after
      content_after) d
      (subst (λ (v : List View).
      ServesFrom outside_of seeded traders (stand door content (shared_world v desk)) door_after content_after) w
      (subst (λ (ts : List PlainTrader).
      ServesFrom outside_of seeded ts (stand door content (shared_world views desk)) door_after content_after) o f))

  -- the acceptor was bound
  pub from_bound : (traders : List PlainTrader) (host : List ℕ) (door bound : Option (Door X)) (content : Option (HandedSessions X))
      (door_after : Option (Door X)) (content_after : Option (HandedSessions X)) → host ≡ home.host
      → bound ≡ option_map (bound_to host home.port) door
      → ServesFrom outside_of seeded traders
      (record { given = home; seed = seed; door = bound; content = content; world = opened_world traders }) door_after
      content_after
      → ServesSessions outside_of seeded home seed traders door content door_after content_after
  from_bound traders host door bound content door_after content_after h b f =
      let is : bound ≡ option_map (bound_to home.host home.port) door =
      b ∙ ap (λ (l : List ℕ). option_map (bound_to l home.port) door) h in
      subst (λ (d : Option (Door X)).
      ServesFrom outside_of seeded traders (stand d content (opened_world traders)) door_after content_after) is f
