-- A session in a new room, with no peer called.
use Rattle.std.proofs.Common.{◌≡◌, ℕ, List, [], refl, ap, subst, ◌∙◌}
use Rattle.td_cdr.specs.Marks.{Marks}
use Rattle.td_iter.specs.Desks.{Live}
use Rattle.td_lookup.specs.Scenes.{Scene, scene}
use Rattle.td_register.specs.declared.history.Accepted.{Accepted}
use Rattle.td_servant.specs.Linking.{PeersSeen, peers_seen}
use Rattle.td_servant.specs.declared.entry.Entry.{Entry}
use Rattle.td_stream.specs.declared.end.End.{End}
use Rattle.td_stream.specs.Outside.{Outside}
use Rattle.td_session.specs.Sessions.{Serves}
use Rattle.td_trader.specs.Worlds.{View}
use Rattle.td_walk.specs.declared.trace.Address.{Address}
use Rattle.td_sessions.specs.Sessions.{ServesOver}

same_scene : (w : List View) (d0 d1 : Live) (p0 p1 : PeersSeen) (words : ℕ → ℕ) → d0 ≡ d1 → p0 ≡ p1
    → scene w d0 p0 words ≡ scene w d1 p1 words
same_scene w d0 d1 p0 p1 words d p =
    ap (λ (x : Live). scene w x p0 words) d ∙ ap (λ (x : PeersSeen). scene w d1 x words) p

pub served : (others : List Accepted → Type 0) (later : Marks → Marks → Type 0) (home : Address) (first : List View)
    (desk : Live) (peers : PeersSeen) (words : ℕ → ℕ) (after : Scene) (journal : List Entry) (end : End)
    (before now : Outside) → desk ≡ ([], 1) → peers ≡ peers_seen [] 0
    → Serves others later home (scene first desk peers words) after journal end before now
    → ServesOver others later home first words journal end before now after.world
served others later home first desk peers words after journal end before now d p s = record {
  scene_after = after;
  seen = refl;
  serves =
      subst (λ (x : Scene). Serves others later home x after journal end before now)
      (same_scene first desk ([], 1) peers (peers_seen [] 0) words d p) s;
}
