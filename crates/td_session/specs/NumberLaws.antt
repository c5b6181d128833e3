-- The numbers of iterators rise by one with a Request at most, and with no other message.
use Rattle.std.proofs.Common.{◌≡◌, ℕ, ◌+◌, ◌<◌, ◌≤◌, Bool, true, false, cond, List, Option, None, Some, ap}
use Rattle.std.proofs.Common.{inl, inr, arith, drop, eqb, refl}
use Rattle.std.proofs.lemmas.Bool.{ne_eqb}
use Rattle.td_cdr.specs.Marks.{Marks}
use Rattle.td_cdr.specs.Writing.{Draft}
use Rattle.td_typecode.specs.Formats.{is_nonempty}
use Rattle.td_iter.specs.Desks.{Live}
use Rattle.td_iter.specs.declared.item.Item.{Item}
use Rattle.td_lookup.specs.Querying.{AnswersVisit, offers_kept}
use Rattle.td_lookup.specs.Scenes.{Scene}
use Rattle.td_ops.specs.declared.call.Call.{Call as Asking}
use Rattle.td_ops.specs.declared.call.Call.TheVariants as call
use Rattle.td_ops.specs.declared.call.IterCall.{IterCall}
use Rattle.td_ops.specs.declared.call.IterCall.TheVariants as iter
use Rattle.td_ops.specs.declared.call.Query.{Query}
use Rattle.td_ops.specs.declared.outcome.Outcome.{Outcome}
use Rattle.td_register.specs.declared.history.Accepted.{Accepted}
use Rattle.td_servant.specs.Iterating.{IteratorDone}
use Rattle.td_servant.specs.Looking.{CutsList, kept_for}
use Rattle.td_servant.specs.declared.entry.Entry.{Entry}
use Rattle.td_servant.specs.declared.judging.Judged.{Judged}
use Rattle.td_servant.specs.declared.judging.Judged.TheVariants.{Call, Refused}
use Rattle.td_servant.specs.declared.objects.Object.{Object}
use Rattle.td_dispatch.specs.Requests.{AnswersRequest, OutcomeOfRequest}
use Rattle.td_stream.specs.Messages.{is_request, kind_of}
use Rattle.td_session_runs.specs.Turns.{IsTurn, Turn, request, locate, cancel}
use Rattle.td_value.specs.declared.structures.Offer.{Offer}
use Rattle.td_walk.specs.declared.trace.Address.{Address}
use Rattle.td_walk.specs.declared.trace.Visit.{Visit}
use Rattle.td_walk.specs.declared.trace.Visit.TheVariants as visit
use Rattle.td_session.specs.Serving.{ServesMessage}
use Rattle.td_session.specs.Stages.{Stage, turn_of}

-- ---- of one call

abbrev number : Live → ℕ
number d = d.1

-- one more at most
abbrev Rises : Live → Live → Type 0
Rises d e = number e ≤ number d + 1

same : (d e : Live) → e ≡ d → Rises d e
same d e h = omega (arith, ap number h)

one_of : (b : Bool) (d x e : Live) → Rises d x → e ≡ cond b x d → Rises d e
one_of true d x e r h = omega (arith, ap number h, r)
one_of false d x e r h = same d e h

ids_rise : (name : List ℕ) (left : List (List ℕ)) (d e : Live) → e ≡ kept_for name left d
    → Rises d e
ids_rise name left d e h = one_of (is_nonempty left) d _ e (omega arith) h

offers_rise : (name : List ℕ) (left : List Offer) (d e : Live) → e ≡ offers_kept name left d
    → Rises d e
offers_rise name left d e h = one_of (is_nonempty left) d _ e (omega arith) h

look_rises : (home : Address) (name : List ℕ) (n : ℕ) (ids : Option (List (List ℕ)))
    (found : Outcome) (draft : Draft) (d : Live) (o : Outcome) (e : Live)
    → CutsList home name n ids found draft d o e → Rises d e
look_rises home name n (Some ids) found draft d o e h = ids_rise name (drop h.count ids) d e h.kept
look_rises home name n None found draft d o e h = same d e h.1

iterator_rises : (name : List ℕ) (n : ℕ) (item : Option Item) (i : IterCall) (d : Live)
    (draft : Draft) (o : Outcome) (e : Live) → IteratorDone name n item i d draft o e → Rises d e
iterator_rises name n None i d draft o e h = same d e h.1
iterator_rises name n (Some item) iter.MaxLeft d draft o e h = same d e h.1
iterator_rises name n (Some item) (iter.NextN m) d draft o e h = omega (arith, ap number h.2)
iterator_rises name n (Some item) iter.Destroy d draft o e h = omega (arith, ap number h.1)

visit_rises : (home : Address) (name : List ℕ) (q : Query) (v : Visit) (draft : Draft) (d : Live)
    (o : Outcome) (e : Live) → AnswersVisit home name q v draft d o e → Rises d e
visit_rises home name q (visit.Refused r) draft d o e h = same d e h.1
visit_rises home name q (visit.Answered a max_list) draft d o e h = offers_rise name
    (drop h.count _) d e h.kept

abbrev desk_of : Scene → Live
desk_of s = s.desk

abbrev counted : Bool → ℕ
counted b = cond b 1 0

-- ---- of one message

-- it is no Request
not_request : (m : List ℕ) (k : ℕ) → kind_of m ≡ k → 0 < k → is_request m ≡ false
not_request m k e some = rw (e, ne_eqb k 0 (omega (arith, some))) refl

module _ (others : List Accepted → Type 0) (later : Marks → Marks → Type 0) (home : Address) where
  call_rises : (x : Object) (c : Asking) (draft : Draft) (s : Scene) (o : Outcome) (e : Entry)
      (t : Scene)
      → OutcomeOfRequest others later home (Call x c) draft s o e t → Rises s.desk t.desk
  call_rises x (call.Change c) draft s o e t h = same s.desk t.desk (ap desk_of h.1)
  call_rises x (call.Look l) draft s o e t h = look_rises home _ _ _ h.0.found draft s.desk o t.desk
      h.0.cuts
  call_rises x (call.AddLink l) draft s o e t h = same s.desk t.desk h.1
  call_rises x (call.Iter i) draft s o e t h = iterator_rises _ _ _ i s.desk draft o t.desk
      h.0.is_done
  call_rises x (call.IsA id) draft s o e t h = same s.desk t.desk (ap desk_of h.2)
  call_rises x call.NonExistent draft s o e t h = same s.desk t.desk (ap desk_of h.2)
  call_rises x (call.Query q) draft s o e t h = visit_rises home _ q h.visit draft s.desk o t.desk
      h.answer
  call_rises x (call.Resolve names) draft s o e t h = same s.desk t.desk h.desk

  comes_rises : (j : Judged) (draft : Draft) (s : Scene) (o : Outcome) (e : Entry) (t : Scene)
      → OutcomeOfRequest others later home j draft s o e t → Rises s.desk t.desk
  comes_rises (Refused r) draft s o e t h = same s.desk t.desk (ap desk_of h.2)
  comes_rises (Call x c) draft s o e t h = call_rises x c draft s o e t h

  answers_rise : (j : Judged) (draft : Draft) (s : Scene) (o : Outcome) (e : Entry) (t : Scene)
      → AnswersRequest others later home j draft s o e t → Rises s.desk t.desk
  answers_rise j draft s o e t (inl comes) = comes_rises j draft s o e t comes
  answers_rise j draft s o e t (inr wants) = same s.desk t.desk wants.desk

  -- a Request's turn by one at most, and any other not at all
  abbrev By : Scene → Bool → Scene → Type 0
  By s asked t = number t.desk ≤ number s.desk + cond asked 1 0

  kept_by : (s t : Scene) (asked : Bool) → asked ≡ false → t ≡ s → By s asked t
  kept_by s t asked e h = omega (arith, ap (λ (x : Scene). number x.desk) h, ap counted e)

  asked_by : (s t : Scene) (asked : Bool) → asked ≡ true → Rises s.desk t.desk → By s asked t
  asked_by s t asked e r = omega (arith, r, ap counted e)

  turn_rises : (s : Scene) (t : Turn) → IsTurn others later home s t
      → By s (is_request t.message) t.after
  turn_rises s t (request r) =
      asked_by s t.after (is_request t.message) (ap (λ (k : ℕ). eqb k 0) r.kind)
      (answers_rise r.noted.judged r.served.draft s r.noted.outcome r.noted.entry t.after
      r.served.answers)
  turn_rises s t (locate l) =
      kept_by s t.after (is_request t.message) (not_request t.message 3 l.kind (omega arith)) l.kept
  turn_rises s t (cancel c) =
      kept_by s t.after (is_request t.message) (not_request t.message 2 c.kind (omega arith)) c.kept

module _ (others : List Accepted → Type 0) (later : Marks → Marks → Type 0) where
  -- from one stage to the next
  pub message-spends : (s : Stage) (message reply : List ℕ) (u : Stage)
      → ServesMessage others later s message reply u
      → number u.scene.desk ≤ number s.scene.desk + cond (is_request message) 1 0
  message-spends s message reply u h =
      turn_rises others later s.home s.scene (turn_of message h.noted reply u.scene) h.turn
