-- The sessions of a server, from the binding of its acceptor to the traders in the end.
use Rattle.std.proofs.Common.{◌≡◌, ◌∙◌, ℕ, List, OnOk, Option, Result, option_map, ap, subst}
use Rattle.std.proofs.lemmas.Result.{on_ok_weaker}
use Rattle.td_accept.specs.Doors.{Door, bound_to}
use Rattle.td_stream.specs.Outside.{Outside}
use Rattle.td_trader.specs.PlainTraders.{PlainTrader}
use Rattle.td_trader.specs.Worlds.{View}
use Rattle.td_walk.specs.declared.trace.Address.{Address}
use Rattle.td_sessions.specs.Sessions.{WordsBySeeding, ServerState, HandedSessions}
use Rattle.td_sessions.specs.Whole.{ServesSessions, ServesFrom, Whole, server_start, opened_views}

-- ---- from the end of one call to the next

pub if_ok : {T E P Q : Type 0} (r : Result T E) → OnOk r P → (P → Q) → OnOk r Q
if_ok r p f = on_ok_weaker r f p

module _ {X : Type 0} (outside_of : X → Outside) (seeded : X → WordsBySeeding) (home : Address) (seed : List ℕ) where
  -- the traders that were opened, as they are seen
  pub from_opened : (opened traders : List PlainTrader) (world : List View) (door : Option (Door X))
      (content : Option (HandedSessions X)) (door_after : Option (Door X)) (content_after : Option (HandedSessions X)) → opened ≡ traders
      → world ≡ opened_views traders
      → ServesFrom outside_of seeded opened
      (record { given = home; seed = seed; door = door; content = content; world = world }) door_after content_after
      → ServesFrom outside_of seeded traders
      (record { given = home; seed = seed; door = door; content = content; world = opened_views traders }) door_after
      content_after
  from_opened opened traders world door content door_after content_after o w f =
      subst (λ (v : List View). ServesFrom outside_of seeded traders
      (record { given = home; seed = seed; door = door; content = content; world = v }) door_after content_after) w
      (subst (λ (ts : List PlainTrader). ServesFrom outside_of seeded ts
      (record { given = home; seed = seed; door = door; content = content; world = world }) door_after content_after) o f)

  -- the acceptor was bound
  pub from_bound : (traders : List PlainTrader) (host : List ℕ) (door bound : Option (Door X)) (content : Option (HandedSessions X))
      (door_after : Option (Door X)) (content_after : Option (HandedSessions X)) → host ≡ home.host
      → bound ≡ option_map (bound_to host home.port) door
      → ServesFrom outside_of seeded traders
      (record { given = home; seed = seed; door = bound; content = content; world = opened_views traders }) door_after
      content_after
      → ServesSessions outside_of seeded home seed traders door content door_after content_after
  from_bound traders host door bound content door_after content_after h b f =
      let is : bound ≡ option_map (bound_to home.host home.port) door =
      b ∙ ap (λ (l : List ℕ). option_map (bound_to l home.port) door) h in
      let start : ServerState X =
      record { given = home; seed = seed; door = bound; content = content; world = opened_views traders } in
      let same : start ≡ server_start home seed traders door content =
      ap (λ (d : Option (Door X)). record {
        given = home;
        seed = seed;
        door = d;
        content = content;
        world = opened_views
            traders;
      }) is in
      record {
        end = f.end;
        whole =
            subst (λ (s : ServerState X). Whole outside_of seeded s f.end) same f.whole;
        left = f.left;
        hands = f.hands;
      }
