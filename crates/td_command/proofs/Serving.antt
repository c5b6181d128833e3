-- A session with the traders that a file's text opens.
use Rattle.std.proofs.Common.{◌≡◌, ℕ, List, [], map, Ok, ap, subst, ◌∙◌}
use Rattle.std.proofs.Math.Path.{fun_ext}
use Rattle.td_cdr.specs.Lawful.{AreOctets}
use Rattle.td_file.specs.Files.{Opening, opening_of}
use Rattle.td_iter.specs.Desks.{Live}
use Rattle.td_lookup.specs.Scenes.{Scene, scene}
use Rattle.td_servant.specs.Linking.{PeersSeen, peers_seen}
use Rattle.td_servant.specs.declared.entry.Entry.{Entry}
use Rattle.td_stream.specs.declared.end.End.{End}
use Rattle.td_stream.specs.Outside.{Outside}
use Rattle.td_session.specs.Sessions.{Serves}
use Rattle.td_trader.specs.PlainTraders.{PlainTrader}
use Rattle.td_trader.specs.Solos.{no_changes, solo_view, same_marks}
use Rattle.td_trader.specs.Worlds.{View}
use Rattle.td_walk.specs.declared.trace.Address.{Address}
use Rattle.td_command.specs.declared.ended.Ended.{Ended}
use Rattle.td_command.specs.declared.ended.Ended.TheVariants.{Usage, Missing, TooLong, Refused, Memory, Printed}
use Rattle.td_command.specs.declared.ended.Ended.TheVariants.{PrintFault, Served}
use Rattle.td_command.specs.Runs.{WordsBySeeding, ServesOpened, ServesOpening, ServesText, first_scene, seeding_of}

pub text-serves : (text : List ℕ) (o : Opening) (seeded : WordsBySeeding) (ended : Ended) (before after : Outside)
    → opening_of text ≡ Ok o → AreOctets text → ServesOpened o seeded ended before after
    → ServesText text seeded ended before after
text-serves text o seeded (Served end) before after e octets h = (o, e, octets, h)
text-serves text o seeded Memory before after e octets h = h
text-serves text o seeded Usage before after e octets h = absurd h
text-serves text o seeded Missing before after e octets h = absurd h
text-serves text o seeded TooLong before after e octets h = absurd h
text-serves text o seeded (Refused number cause) before after e octets h = absurd h
text-serves text o seeded Printed before after e octets h = absurd h
text-serves text o seeded PrintFault before after e octets h = absurd h

same-scene : (w : List View) (d0 d1 : Live) (p0 p1 : PeersSeen) (f0 f1 : ℕ → ℕ) → d0 ≡ d1 → p0 ≡ p1
    → ((k : ℕ) → f0 k ≡ f1 k) → scene w d0 p0 f0 ≡ scene w d1 p1 f1
same-scene w d0 d1 p0 p1 f0 f1 d p f =
    ap (λ (x : Live). scene w x p0 f0) d ∙ ap (λ (x : PeersSeen). scene w d1 x f0) p
    ∙ ap (λ (x : ℕ → ℕ). scene w d1 p1 x) (fun_ext f)

-- a session in a new room, whose words are those that come after the seeding
pub begun : (o : Opening) (seeded : WordsBySeeding) (home : Address) (desk : Live) (peers : PeersSeen) (words : ℕ → ℕ)
    (later : Scene) (journal : List Entry) (end : End) (before after : Outside) (traders : List PlainTrader)
    → later.world ≡ map solo_view traders → home ≡ o.home → desk ≡ ([], 1) → peers ≡ peers_seen [] 0
    → ((k : ℕ) → words k ≡ seeded (seeding_of o) k)
    → Serves no_changes same_marks home (scene (map solo_view o.traders) desk peers words) later journal end before after
    → ServesOpening o seeded end before after
begun o seeded home desk peers words later journal end before after traders alone h d p f serves =
    let same : scene (map solo_view o.traders) desk peers words ≡ first_scene o seeded =
    same-scene (map solo_view o.traders) desk ([], 1) peers (peers_seen [] 0) words (seeded (seeding_of o)) d p f in
    let here : Serves no_changes same_marks home (first_scene o seeded) later journal end before after =
    subst (λ (s : Scene). Serves no_changes same_marks home s later journal end before after) same serves in
    record {
      later = later;
      journal = journal;
      serves =
          subst (λ (x : Address). Serves no_changes same_marks x (first_scene o seeded) later journal end before after) h
          here;
      traders = traders;
      alone = alone;
    }
