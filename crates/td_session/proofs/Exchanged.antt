-- The exchanges of a stream as the turns of a session, and back.
use Rattle.std.proofs.Common.{◌≡◌, ℕ, List, [], ◌∷◌, ◌++◌, Ok, refl, sym, ap, subst, ◌∙◌, append_assoc}
use Rattle.std.proofs.lemmas.List.{append-nil}
use Rattle.td_cdr.specs.Marks.{Marks}
use Rattle.td_cdr.specs.Place.{At}
use Rattle.td_giop.specs.Heads.{Request, request_at, locate_at, cancel_at}
use Rattle.td_lookup.specs.Scenes.{Scene}
use Rattle.td_register.specs.declared.history.Accepted.{Accepted}
use Rattle.td_servant.specs.declared.entry.Entry.{Entry}
use Rattle.td_stream.specs.Exchanges.{MessageExchange, Run as StreamRun}
use Rattle.td_stream.specs.Messages.{behind, kind_of, minor_of}
use Rattle.td_stream.specs.Outside.{Outside}
use Rattle.td_stream.specs.Steps.{answers, step_of}
use Rattle.td_stream.specs.Streams.{StreamFinishes, Streams}
use Rattle.td_stream.specs.declared.end.End.{End}
use Rattle.td_session_runs.proofs.Gifts.{gave-admitted}
use Rattle.td_session_runs.specs.Journals.{all_gave}
use Rattle.td_session_runs.specs.Turns.{IsTurn, Run, Turn, exchanges_of, journal_of, noted_of, request, locate, cancel}
use Rattle.td_walk.specs.Peering.{AdmitsExchanges}
use Rattle.td_walk.specs.declared.trace.Address.{Address}
use Rattle.td_session.specs.Serving.{ServesMessage, Stays}
use Rattle.td_session.specs.Sessions.{Serves}
use Rattle.td_session.specs.Stages.{Stage, stage, turn_of}
use Rattle.td_session.proofs.Headlined.{headlined}
use Rattle.td_session.proofs.Leading.{Leads, journal-append, leads-kept, leads-then}

-- ---- the step of a message that is served

request_answers : (m : List ℕ) (head : Request) (body : At) → kind_of m ≡ 0
    → request_at (minor_of m) (behind m) ≡ Ok (head, body) → step_of m ≡ answers
unfolding step_of
request_answers m head body kind read = rw (kind, read) refl

locate_answers : (m : List ℕ) (id : ℕ) (key : List ℕ) → kind_of m ≡ 3 → locate_at (behind m) ≡ Ok (id, key)
    → step_of m ≡ answers
unfolding step_of
locate_answers m id key kind read = rw (kind, read) refl

cancel_answers : (m : List ℕ) (id : ℕ) → kind_of m ≡ 2 → cancel_at (behind m) ≡ Ok id → step_of m ≡ answers
unfolding step_of
cancel_answers m id kind read = rw (kind, read) refl

module _ (others : List Accepted → Type 0) (later : Marks → Marks → Type 0) where
  turn_answers : (home : Address) (s : Scene) (t : Turn) → IsTurn others later home s t → step_of t.message ≡ answers
  turn_answers home s t (request r) = request_answers t.message r.head r.body r.kind r.read
  turn_answers home s t (locate l) = locate_answers t.message l.id l.key l.kind l.read
  turn_answers home s t (cancel c) = cancel_answers t.message c.id c.kind c.read

  -- ---- from exchanges to turns

  -- turns with these messages and replies
  pub record Turned (s u : Stage) (xs : List MessageExchange) : Type 0 where
    pub turns : List Turn
    pub leads : Leads others later turns s u
    pub are : exchanges_of turns ≡ xs

  pub turned : (s u : Stage) (xs : List MessageExchange) → StreamRun (ServesMessage others later) s xs u → Turned s u xs
  turned s u [] r = record { turns = []; leads = leads-kept others later s u r; are = refl }
  turned s u (x ∷ xs) r =
      let first = r.1.served in
      let rest = turned r.0 u xs r.2 in
      let t = turn_of x.message first.noted x.reply r.0.scene in
      record {
        turns = t ∷ rest.turns;
        leads =
            leads-then others later s r.0 u (t ∷ []) rest.turns
            (record { run = (first.turn, refl); noted = first.journal; home = first.home }) rest.leads;
        are = ap (λ (l : List MessageExchange). x ∷ l) rest.are;
      }

  -- with nothing noted at first, and peers of which all that they gave can be written
  pub session_served : (s u : Stage) (end : End) (before after : Outside) → s.journal ≡ []
      → AdmitsExchanges u.scene.peers.calls → Streams (ServesMessage others later) Stays s u end before after
      → Serves others later s.home s.scene u.scene u.journal end before after
  session_served s u end before after first gave r =
      let t = turned s r.last r.exchanges r.run in
      let leads : Leads others later t.turns s u =
      subst (λ (x : Stage). Leads others later t.turns s x) (sym r.stayed) t.leads in
      let headline = headlined others later s.home s.scene u.scene t.turns leads.run in
      record {
        turns = t.turns;
        run = leads.run;
        noted = leads.noted ∙ ap (λ (x : List Entry). x ++ journal_of t.turns) first;
        stream = subst (λ (xs : List MessageExchange). StreamFinishes xs end before after [] 0 0) (sym t.are) r.stream;
        headline = headline;
        gifts = gave-admitted s.scene.peers u.scene.peers (all_gave (noted_of t.turns)) headline.peers gave;
      }

  -- ---- from turns to exchanges

  pub exchanged : (s : Stage) (u : Scene) (ts : List Turn) → Run others later s.home s.scene ts u
      → StreamRun (ServesMessage others later) s (exchanges_of ts) (stage s.home u (s.journal ++ journal_of ts))
  exchanged s u [] r =
      ap (λ (x : Scene). stage s.home x (s.journal ++ [])) r
      ∙ ap (λ (j : List Entry). stage s.home s.scene j) (append-nil s.journal)
  exchanged s u (t ∷ ts) r =
      let m = stage s.home t.after (s.journal ++ journal_of (t ∷ [])) in
      let journal : m.journal ++ journal_of ts ≡ s.journal ++ journal_of (t ∷ ts) =
      append_assoc s.journal (journal_of (t ∷ [])) (journal_of ts)
      ∙ ap (λ (x : List Entry). s.journal ++ x) (sym (journal-append (t ∷ []) ts)) in (
        m,
        record {
          step = turn_answers s.home s.scene t r.0;
          served =
              record { noted = t.request; turn = r.0; journal = refl; home = refl };
        },
        subst
            (λ (j : List Entry). StreamRun (ServesMessage others later) m (exchanges_of ts) (stage s.home u j)) journal
            (exchanged m u ts r.1),
      )
