-- A stream of whole messages to a server is served up to the first that closes the session.
use Rattle.std.proofs.Common.{◌≡◌, List, [], refl, ap, subst, sym, inl, inr}
use Rattle.std.specs.List.{before_first}
use Rattle.std.specs.Io.KnownBytes.{Appends}
use Rattle.td_cdr.specs.Marks.{Marks}
use Rattle.td_lookup.specs.Scenes.{Scene}
use Rattle.td_register.specs.declared.history.Accepted.{Accepted}
use Rattle.td_servant.specs.declared.entry.Entry.{Entry}
use Rattle.td_stream.specs.Exchanges.{MessageExchange, messages_of, output}
use Rattle.td_stream.specs.Messages.{is_closing}
use Rattle.td_stream.specs.Outside.{Outside}
use Rattle.td_stream.specs.declared.end.End.{End}
use Rattle.td_stream.proofs.Complete.{complete as stream_complete}
use Rattle.td_session_runs.specs.Turns.{Run, exchanges_of, journal_of}
use Rattle.td_walk.specs.declared.trace.Address.{Address}
use Rattle.td_session.specs.Completeness.{Completes}
use Rattle.td_session.specs.Serving.{ServesMessage, Stays}
use Rattle.td_session.specs.Sessions.{Serves}
use Rattle.td_session.specs.Stages.{Stage, stage}
use Rattle.td_session.proofs.Exchanged.{exchanged, turned}

module _ (others : List Accepted → Type 0) (later : Marks → Marks → Type 0) (home : Address) where
  pub complete : (s u : Scene) (journal : List Entry) (end : End) (before after : Outside)
      → Serves others later home s u journal end before after → Completes others later home s u end before after
  complete s u journal end before after f stream messages left servable unhurt =
      let first = stage home s [] in
      let last = stage home u (journal_of f.turns) in
      elim (stream_complete (ServesMessage others later) Stays first last end before after
      (record {
        exchanges = exchanges_of f.turns;
        last = last;
        run = exchanged others later first u f.turns f.run;
        stayed = refl;
        stream = f.stream;
      }) stream messages left servable unhurt) [
        | inl closed ↦
            let all = closed.1 in
            let t = turned others later first all.last all.exchanges all.run in
            inl (
              closed.0,
              record {
                turns = t.turns;
                run =
                    subst (λ (x : Scene). Run others later home s t.turns x)
                    (ap (λ (x : Stage). x.scene) (sym all.stayed)) t.leads.run;
                all =
                    subst (λ (xs : List MessageExchange). messages_of xs ≡ before_first is_closing messages) (sym t.are)
                    all.all;
                gave =
                    subst (λ (xs : List MessageExchange). Appends before.written after.written (output xs)) (sym t.are)
                    all.gave;
              },
            )
        | inr memory ↦ inr memory
      ]
