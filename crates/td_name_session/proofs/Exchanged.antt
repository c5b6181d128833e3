-- The exchanges of a stream as the turns of a session, and back.
use Rattle.std.proofs.Common.{◌≡◌, ℕ, List, [], ◌∷◌, ◌++◌, Ok, refl, sym, ap, subst, ◌∙◌, append_assoc}
use Rattle.std.proofs.lemmas.List.{append-nil}
use Rattle.td_cdr.specs.Place.{At}
use Rattle.td_giop.specs.Heads.{Request, request_at, locate_at, cancel_at}
use Rattle.td_naming.specs.declared.history.NameChange.{NameChange}
use Rattle.td_stream.specs.Exchanges.{MessageExchange, Run as StreamRun}
use Rattle.td_stream.specs.Messages.{behind, kind_of, minor_of}
use Rattle.td_stream.specs.Outside.{Outside}
use Rattle.td_stream.specs.Steps.{answers, step_of}
use Rattle.td_stream.specs.Streams.{StreamFinishes, Streams}
use Rattle.td_stream.specs.declared.end.End.{End}
use Rattle.td_name_session.proofs.Leading.{journal-append, leads-kept, leads-then}
use Rattle.td_name_session.specs.Scenes.{Scene}
use Rattle.td_name_session.specs.Sessions.{Serves}
use Rattle.td_name_session.specs.Stages.{TurnsLead, ServesMessage, Stage, Stays, stage, turn_of}
use Rattle.td_name_session.specs.Turns.{IsTurn, Run, Turn, exchanges_of, journal_of}
use Rattle.td_name_session.specs.Turns.IsTurn.{request, locate, cancel}

-- ---- the step of a message that is served

request_answers : (m : List ℕ) (head : Request) (body : At) → kind_of m ≡ 0
    → request_at (minor_of m) (behind m) ≡ Ok (head, body) → step_of m ≡ answers
unfolding step_of
request_answers m head body kind read = rw (kind, read) refl

locate_answers : (m : List ℕ) (id : ℕ) (key : List ℕ) → kind_of m ≡ 3 → locate_at (behind m) ≡ Ok (id, key)
    → step_of m ≡ answers
unfolding step_of
locate_answers m id key kind read = rw (kind, read) refl

cancel_answers : (m : List ℕ) (id : ℕ) → kind_of m ≡ 2 → cancel_at (behind m) ≡ Ok id → step_of m ≡ answers
unfolding step_of
cancel_answers m id kind read = rw (kind, read) refl

module _ (others : List NameChange → Type 0) where
  turn_answers : (s : Scene) (t : Turn) → IsTurn others s t → step_of t.message ≡ answers
  turn_answers s t (request r) = request_answers t.message r.head r.body r.kind r.read
  turn_answers s t (locate l) = locate_answers t.message l.id l.key l.kind l.read
  turn_answers s t (cancel c) = cancel_answers t.message c.id c.kind c.read

  -- ---- from exchanges to turns

  -- turns with these messages and replies
  pub record Turned (s u : Stage) (xs : List MessageExchange) : Type 0 where
    pub turns : List Turn
    pub leads : TurnsLead others turns s u
    pub are : exchanges_of turns ≡ xs

  pub turned : (s u : Stage) (xs : List MessageExchange) → StreamRun (ServesMessage others) s xs u → Turned s u xs
  turned s u [] r = record { turns = []; leads = leads-kept others s u r; are = refl }
  turned s u (x ∷ xs) r =
      let first = r.1.served in
      let rest = turned r.0 u xs r.2 in
      let t = turn_of x.message first.noted first.point x.reply r.0.scene in
      record {
        turns = t ∷ rest.turns;
        leads = leads-then others s r.0 u (t ∷ []) rest.turns first.leads rest.leads;
        are = ap (λ (l : List MessageExchange). x ∷ l) rest.are;
      }

  -- with nothing noted at first
  pub session_served : (s u : Stage) (end : End) (before after : Outside) → s.journal ≡ []
      → Streams (ServesMessage others) Stays s u end before after
      → Serves others s.scene u.scene u.journal end before after
  session_served s u end before after first r =
      let t = turned s r.last r.exchanges r.run in
      let leads : TurnsLead others t.turns s u =
      subst (λ (x : Stage). TurnsLead others t.turns s x) (sym r.stayed) t.leads in
      record {
        turns = t.turns;
        run = leads.run;
        noted = leads.noted ∙ ap (λ (x : List ℕ). x ++ journal_of t.turns) first;
        stream = subst (λ (xs : List MessageExchange). StreamFinishes xs end before after [] 0 0) (sym t.are) r.stream;
      }

  -- ---- from turns to exchanges

  pub exchanged : (s : Stage) (u : Scene) (ts : List Turn) → Run others s.scene ts u
      → StreamRun (ServesMessage others) s (exchanges_of ts) (stage u (s.journal ++ journal_of ts))
  exchanged s u [] r =
      ap (λ (x : Scene). stage x (s.journal ++ [])) r ∙ ap (λ (j : List ℕ). stage s.scene j) (append-nil s.journal)
  exchanged s u (t ∷ ts) r =
      let m = stage t.after (s.journal ++ journal_of (t ∷ [])) in
      let journal : m.journal ++ journal_of ts ≡ s.journal ++ journal_of (t ∷ ts) =
      append_assoc s.journal (journal_of (t ∷ [])) (journal_of ts)
      ∙ ap (λ (x : List ℕ). s.journal ++ x) (sym (journal-append (t ∷ []) ts)) in (
        m,
        record {
          step = turn_answers s.scene t r.0;
          served =
              record { noted = t.request; point = t.point; leads = record { run = (r.0, refl); noted = refl } };
        },
        subst
            (λ (j : List ℕ). StreamRun (ServesMessage others) m (exchanges_of ts) (stage u j)) journal
            (exchanged m u ts r.1),
      )
