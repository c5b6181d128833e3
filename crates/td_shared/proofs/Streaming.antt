-- A stream whose servant has found the desk full or not.
use Rattle.std.proofs.Common.{◌≡◌, inl, Bool, false, List, [], ◌∷◌, ℕ, Option, refl, ap, ◌∙◌}
use Rattle.td_cdr.specs.Marks.{Marks}
use Rattle.td_cell.specs.declared.pass.View.{View}
use Rattle.td_desk.specs.declared.event.Event.{Event}
use Rattle.td_register.specs.declared.history.Accepted.{Accepted}
use Rattle.td_dispatch.specs.Backends.{BackendSeen}
use Rattle.td_stream.proofs.Leading.{streams-none}
use Rattle.td_stream.proofs.Runs.{no_stream}
use Rattle.td_stream.specs.Exchanges.{MessageExchange, Run}
use Rattle.td_stream.specs.Outside.{Outside, outside}
use Rattle.td_stream.specs.Streams.{Streams}
use Rattle.td_stream.specs.declared.end.End.{End}
use Rattle.td_stream.specs.declared.end.End.TheVariants.{Memory}
use Rattle.td_walk.specs.declared.trace.Address.{Address}
use Rattle.td_shared.specs.Serving.{ServesShared, ServesWith, StaysShared, StaysWith}
use Rattle.td_shared.specs.Sessions.{ServesFrom, ServesSharing, ends_by}
use Rattle.td_shared.specs.Stages.{SharedStage}
use Rattle.td_shared.specs.declared.entry.SharedEntry.{SharedEntry}

-- whether the desk was full, and how the session stands
abbrev pub Known : Type 0
Known = Bool × SharedStage

abbrev known_full : Known → Bool
known_full k = k.0

abbrev known_stage : Known → SharedStage
known_stage k = k.1

module _ (others : List Accepted → Type 0) (later : Marks → Marks → Type 0) where
  abbrev pub ServesKnown : Known → List ℕ → List ℕ → Known → Type 0
  ServesKnown s message reply u = ServesWith others later s.0 u.0 s.1 message reply u.1

  abbrev pub StaysKnown : Known → Known → Type 0
  StaysKnown s u = StaysWith s.0 u.0 s.1 u.1

  run_known : (s u : Known) (xs : List MessageExchange) → s.0 ≡ false → Run ServesKnown s xs u
      → (u.0 ≡ false) × Run (ServesShared others later) s.1 xs u.1
  run_known s u [] off r = (ap known_full r ∙ off, ap known_stage r)
  run_known s u (x ∷ xs) off r =
      let more = run_known r.0 u xs (r.1.served.0 ∙ off) r.2 in (
        more.0,
        (known_stage r.0, record { step = r.1.step; served = r.1.served.1 }, more.1),
      )

  -- where the desk wasn't full before
  pub streams_known : (s u : Known) (end : End) (before after : Outside) → s.0 ≡ false
      → Streams ServesKnown StaysKnown s u end before after
      → Streams (ServesShared others later) (StaysShared u.0) s.1 u.1 end before after
  streams_known s u end before after off r =
      let run = run_known s r.last r.exchanges off r.run in
      record {
        exchanges = r.exchanges;
        last = known_stage r.last;
        run = run.1;
        stayed = r.stayed run.0;
        stream = r.stream;
      }

  pub serves_sharing : (s u : Known) (streamed end : End) (before after : Outside) → s.0 ≡ false
      → Streams ServesKnown StaysKnown s u streamed before after → end ≡ ends_by u.0 streamed
      → ServesSharing others later s.1 u.1 end before after
  serves_sharing s u streamed end before after off r is = record {
    full = known_full u;
    streamed = streamed;
    end_is = is;
    stream = streams_known s u streamed before after off r;
  }

  -- nothing was read, and memory ran out
  pub shares_none : (s : SharedStage) (left written : Option (List ℕ)) (reads writes : ℕ)
      → ServesSharing others later s s Memory (outside left reads written writes) (outside left reads written writes)
  shares_none s left written reads writes = record {
    full = false;
    streamed = Memory;
    end_is = refl;
    stream =
        streams-none (ServesShared others later) (StaysShared false) s Memory (outside left reads written writes)
        (outside left reads written writes) (record { view = inl refl; journal = refl; rest = refl })
        (no_stream left written reads writes);
  }

  pub from_none : (home : Address) (seen : BackendSeen) (view : View (List Event)) (journal : List SharedEntry)
      (left written : Option (List ℕ)) (reads writes : ℕ)
      → ServesFrom others later home seen view journal seen view journal Memory (outside left reads written writes)
      (outside left reads written writes)
  from_none home seen view journal left written reads writes = record {
    room = record { home = home; desk = ([], 1); journal = []; replies = [] };
    serves = shares_none _ left written reads writes;
  }
