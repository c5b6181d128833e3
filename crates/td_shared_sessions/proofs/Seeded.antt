-- A session with no peer called and nothing noted.
use Rattle.std.proofs.Common.{◌≡◌, ℕ, List, [], refl, subst}
use Rattle.td_cdr.specs.Marks.{Later, Marks}
use Rattle.td_cell.specs.declared.pass.View.{View as Knowledge}
use Rattle.td_desk.specs.declared.event.Event.{Event}
use Rattle.td_register.specs.declared.history.Accepted.{Accepted}
use Rattle.td_servant.specs.Linking.{PeersSeen, peers_seen}
use Rattle.td_dispatch.specs.Backends.{BackendSeen, backend_seen}
use Rattle.td_shared.specs.DeskSeen.{desk_seen}
use Rattle.td_shared.specs.Sessions.{ServesFrom}
use Rattle.td_shared.specs.declared.entry.SharedEntry.{SharedEntry}
use Rattle.td_shared_sessions.specs.Sessions.{SharesOver, SharesTraders, shared_world}
use Rattle.td_stream.specs.Outside.{Outside}
use Rattle.td_stream.specs.declared.end.End.{End}
use Rattle.td_trader.specs.Admitted.{AreAdmitted}
use Rattle.td_trader.specs.Worlds.{View}
use Rattle.td_walk.specs.declared.trace.Address.{Address}

pub shares_traders : (others : List Accepted → Type 0) (later : Marks → Marks → Type 0) (home : Address)
    (first : List View) (peers : PeersSeen) (words : ℕ → ℕ) (began : Knowledge (List Event))
    (noted : List SharedEntry) (seen_then : BackendSeen) (ended : Knowledge (List Event))
    (journal : List SharedEntry) (end : End) (before after : Outside) → peers ≡ peers_seen [] 0
    → ServesFrom others later home (backend_seen first peers words) began noted seen_then ended journal end before after
    → SharesTraders others later home first words began noted seen_then.world ended journal end before after
shares_traders others later home first peers words began noted seen_then ended journal end before after is serves =
    record {
      seen_after = seen_then;
      seen = refl;
      serves =
          subst (λ (p : PeersSeen).
          ServesFrom others later home (backend_seen first p words) began noted seen_then ended journal end before
          after) is serves;
    }

pub shares_over : (home : Address) (first last : List View) (words : ℕ → ℕ) (began ended : Knowledge (List Event))
    (noted journal : List SharedEntry) (end : End) (before after : Outside) → noted ≡ []
    → SharesTraders AreAdmitted Later home first words began noted last ended journal end before after
    → SharesOver home (shared_world first (desk_seen began)) words journal end before after
    (shared_world last (desk_seen ended))
shares_over home first last words began ended noted journal end before after none s = record {
  began = began;
  ended = ended;
  desk_before = refl;
  desk_after = refl;
  shares =
      subst (λ (j : List SharedEntry).
      SharesTraders AreAdmitted Later home first words began j last ended journal end before after) none s;
}
