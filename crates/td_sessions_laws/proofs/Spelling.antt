-- Each reply of each session spells its outcome: what a session begins with can be written, since others make only such
-- changes.
use Rattle.std.proofs.Common.{List, [], ◌∷◌, map, sym, subst}
use Rattle.std.proofs.lemmas.List.Sorted.{All-permutation}
use Rattle.std.specs.List.{AllByRecursion, AllZip}
use Rattle.td_cdr.specs.Marks.{Later}
use Rattle.td_lookup.specs.Scenes.{scene}
use Rattle.td_servant.specs.Linking.{peers_seen}
use Rattle.td_sessions.specs.Sessions.{SessionStart, Continues, SessionResult, WordsBySeeding, ServesSession}
use Rattle.td_sessions.specs.Sessions.{ServerState}
use Rattle.td_server.specs.Whole.{Every}
use Rattle.td_sessions.specs.Whole.{BeginsAfter, Visit, server_start, opened_views}
use Rattle.td_sessions_laws.proofs.AllSessions.{all-every, every-all}
use Rattle.td_sessions_laws.specs.Spelling.{EachSpells, SessionsSpellReplies}
use Rattle.td_stream.specs.Outside.{Outside}
use Rattle.td_trader.specs.Admitted.{AdmitsChange, AreAdmitted}
use Rattle.td_trader.specs.PlainTraders.{PlainTrader}
use Rattle.td_trader.specs.Worlds.{View}
use Rattle.td_trader_laws.specs.Writable.{IsWritableStore}
use Rattle.td_trader_laws.specs.WritableTraders.{IsWritableTrader}
use Rattle.td_trader_laws.specs.WritableWorlds.{IsWritableView, IsWritableWorld}
use Rattle.td_session_runs_laws.proofs.WritingRuns.{replies-spell}
use Rattle.td_session_runs_laws.specs.Replies.{SpellsReplies}
use Rattle.td_types.proofs.Sequences.{each-append}

-- traders that were opened, as they are seen
opened-writes : (ts : List PlainTrader) → AllByRecursion IsWritableTrader ts → IsWritableWorld (opened_views ts)
opened-writes [] h = tt
opened-writes (t ∷ ts) h = (record { opening = h.0.opening; changes = h.0.changes }, opened-writes ts h.1)

-- what a trader has become by changes that can be written
continues-writes : (v u : View) → Continues v u → IsWritableView v → IsWritableView u
continues-writes v u c h = record {
  opening = subst IsWritableStore (sym c.follows.opening) h.opening;
  changes = subst AreAdmitted (sym c.follows.history)
      (each-append (λ e. AdmitsChange e.change) v.history c.follows.more h.changes c.admitted);
}

all-continue : (w u : List View) → AllZip Continues w u → IsWritableWorld w → IsWritableWorld u
all-continue [] [] p h = tt
all-continue [] (u ∷ us) p h = absurd p
all-continue (v ∷ vs) [] p h = absurd p
all-continue (v ∷ vs) (u ∷ us) p h = (continues-writes v u p.0 h.0, all-continue vs us p.1 h.1)

module _ {X : Type 0} (outside_of : X → Outside) (seeded : X → WordsBySeeding) (start : ServerState X)
    (opens : IsWritableWorld start.world) where
  one-spells : (b : SessionStart X) (e : SessionResult X) (p : ServesSession outside_of seeded b e) → BeginsAfter start b
      → SpellsReplies p.serves.turns
  one-spells b e p begins =
      let words = seeded b.visitor (record { key = b.seed; stream = b.number }) in
      let first = scene b.first ([], 1) (peers_seen [] 0) words in
      replies-spell AreAdmitted Later (λ between admitted. admitted) b.given first p.scene_after p.serves.turns
      (record {
        scene = record { world = all-continue start.world b.first begins.seen opens; desk = tt };
        gifts = p.serves.gifts;
      })
      p.serves.run

  all-spell : (vs : List (Visit X)) (each : Every (λ (v : Visit X). ServesSession outside_of seeded v.begun v.ended) vs)
      → Every (λ (v : Visit X). BeginsAfter start v.begun) vs → EachSpells outside_of seeded vs each
  all-spell [] each begin = tt
  all-spell (v ∷ vs) each begin = (one-spells v.begun v.ended each.0 begin.0, all-spell vs each.1 begin.1)

pub sessions-spell : (X : Type 0) → SessionsSpellReplies X
sessions-spell X outside_of seeded home seed traders door door_after content content_after s opens =
    let start = server_start home seed traders door content in
    let begun_of : Visit X → SessionStart X = λ v. v.begun in
    all-spell outside_of seeded start (opened-writes traders opens) s.whole.visits s.whole.each
    (all-every (BeginsAfter start) begun_of s.whole.visits
    (All-permutation (BeginsAfter start) s.whole.came (map begun_of s.whole.visits) s.whole.same
    (every-all (BeginsAfter start) s.whole.came s.whole.begin)))
