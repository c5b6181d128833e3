-- The sessions of a server, from the binding of its acceptor to the contexts in the end.
use Rattle.std.proofs.Common.{◌≡◌, ◌∙◌, ℕ, List, [], OnOk, Option, Result, option_map, ap, subst}
use Rattle.std.proofs.lemmas.Result.{on_ok_weaker}
use Rattle.td_accept.specs.Doors.{Door, bound_to}
use Rattle.td_naming.specs.Histories.{Past}
use Rattle.td_naming.specs.Views.{View}
use Rattle.td_shared_names.specs.Seeing.{view_of}
use Rattle.td_stream.specs.Outside.{Outside}
use Rattle.td_name_sessions.specs.Sessions.{WordsBySeeding, HandedSessions}
use Rattle.td_name_sessions.specs.Whole.{ServesSessions, ServesFrom}

-- ---- from the end of one call to the next

pub if_ok : {T E P Q : Type 0} (r : Result T E) → OnOk r P → (P → Q) → OnOk r Q
if_ok r p f = on_ok_weaker r f p

module _ {X : Type 0} (outside_of : X → Outside) (seeded : X → WordsBySeeding) where
  -- the contexts that were opened, as they are seen
  pub from_opened : (opened contexts : Past) (world seen : View) (door : Option (Door X)) (content : Option (HandedSessions X))
      (door_after : Option (Door X)) (content_after : Option (HandedSessions X)) → opened ≡ contexts → world ≡ seen
      → ServesFrom outside_of seeded opened world door content door_after content_after
      → ServesFrom outside_of seeded contexts seen door content door_after content_after
  from_opened opened contexts world seen door content door_after content_after o w f =
      subst (λ (v : View). ServesFrom outside_of seeded contexts v door content door_after content_after) w
      (subst (λ (p : Past). ServesFrom outside_of seeded p world door content door_after content_after) o f)

  -- the acceptor was bound
  pub from_bound : (contexts : Past) (host : List ℕ) (port : ℕ) (door bound : Option (Door X)) (content : Option (HandedSessions X))
      (door_after : Option (Door X)) (content_after : Option (HandedSessions X)) → host ≡ contexts.home.host
      → port ≡ contexts.home.port → bound ≡ option_map (bound_to host port) door
      → ServesFrom outside_of seeded contexts (view_of contexts []) bound content door_after content_after
      → ServesSessions outside_of seeded contexts door content door_after content_after
  from_bound contexts host port door bound content door_after content_after h n b f =
      let is : bound ≡ option_map (bound_to contexts.home.host contexts.home.port) door =
      b ∙ ap (λ (l : List ℕ). option_map (bound_to l port) door) h
      ∙ ap (λ (k : ℕ). option_map (bound_to contexts.home.host k) door) n in
      subst
      (λ (d : Option (Door X)). ServesFrom outside_of seeded contexts (view_of contexts []) d content door_after content_after)
      is f
