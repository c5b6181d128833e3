-- The numbers of iterators rise by one with a Request at most, and with no other message.
use Rattle.std.proofs.Common.{◌≡◌, ℕ, ◌+◌, ◌<◌, ◌≤◌, Bool, true, false, cond, List, [], ◌∷◌, Option, None, Some, ap}
use Rattle.std.proofs.Common.{inl, inr, arith, drop, eqb, refl}
use Rattle.std.proofs.lemmas.Bool.{ne_eqb}
use Rattle.td_cdr.specs.Writing.{Draft}
use Rattle.td_name_ops.specs.declared.call.IteratorCall.{IteratorCall}
use Rattle.td_name_ops.specs.declared.call.IteratorCall.TheVariants as iter
use Rattle.td_name_ops.specs.declared.call.NameCall.{NameCall}
use Rattle.td_name_ops.specs.declared.call.NameCall.TheVariants as call
use Rattle.td_name_ops.specs.declared.outcome.NameOutcome.{NameOutcome}
use Rattle.td_names.specs.declared.act.NameAnswer.{NameAnswer}
use Rattle.td_names.specs.declared.act.NameAnswer.TheVariants.{Done, User, System}
use Rattle.td_names.specs.declared.act.NameReply.TheVariants.{Nothing, Object, Bindings}
use Rattle.td_names.specs.declared.address.Address.{Address as Home}
use Rattle.td_names.specs.declared.component.NameBinding.{NameBinding}
use Rattle.td_naming.specs.declared.history.NameChange.{NameChange}
use Rattle.td_stream.specs.Messages.{is_request, kind_of}
use Rattle.td_name_session.specs.Requests.{AnswersRequest, CallComes, OutcomeOfRequest, CutsList, IteratorDone}
use Rattle.td_name_session.specs.Requests.{kept_for}
use Rattle.td_name_session.specs.Scenes.{IteratorList, Scene}
use Rattle.td_name_session.specs.Stages.{ServesMessage, Stage, turn_of}
use Rattle.td_name_session.specs.Turns.{IsTurn, Turn}
use Rattle.td_name_session.specs.Turns.IsTurn.{request, locate, cancel}
use Rattle.td_name_session.specs.declared.judging.Judged.{Judged}
use Rattle.td_name_session.specs.declared.judging.Judged.TheVariants.{Call, Refused}
use Rattle.td_name_session.specs.declared.keys.NameKey.{NameKey}

abbrev number : IteratorList → ℕ
number d = d.1

-- one more at most
abbrev Rises : IteratorList → IteratorList → Type 0
Rises d e = number e ≤ number d + 1

same : (d e : IteratorList) → e ≡ d → Rises d e
same d e h = omega (arith, ap number h)

kept_rises : (left : List NameBinding) (d e : IteratorList) → e ≡ kept_for left d → Rises d e
kept_rises [] d e h = same d e h
kept_rises (b ∷ bs) d e h = omega (arith, ap number h)

list_rises : (home : Home) (r : NameAnswer) (m : ℕ) (draft : Draft) (d : IteratorList)
    (o : NameOutcome)
    (e : IteratorList)
    → CutsList home r m draft d o e → Rises d e
list_rises home (Done (Bindings bs)) m draft d o e h = kept_rises (drop h.count bs) d e h.kept
list_rises home (Done Nothing) m draft d o e h = same d e h.1
list_rises home (Done (Object x)) m draft d o e h = same d e h.1
list_rises home (User x) m draft d o e h = same d e h.1
list_rises home (System x) m draft d o e h = same d e h.1

iterator_rises : (n : ℕ) (left : Option (List NameBinding)) (i : IteratorCall) (draft : Draft)
    (d : IteratorList) (o : NameOutcome) (e : IteratorList) → IteratorDone n left i draft d o e
    → Rises d e
iterator_rises n None i draft d o e h = same d e h.1
iterator_rises n (Some left) iter.NextOne draft d o e h = omega (arith, ap number h.1)
iterator_rises n (Some left) (iter.NextN m) draft d o e h = omega (arith, ap number h.kept)
iterator_rises n (Some left) iter.Destroy draft d o e h = omega (arith, ap number h.1)

abbrev desk_of : Scene → IteratorList
desk_of s = s.desk

abbrev counted : Bool → ℕ
counted b = cond b 1 0

-- it is no Request
not_request : (m : List ℕ) (k : ℕ) → kind_of m ≡ k → 0 < k → is_request m ≡ false
not_request m k e some = rw (e, ne_eqb k 0 (omega (arith, some))) refl

module _ (others : List NameChange → Type 0) where
  call_rises : (key : NameKey) (c : NameCall) (draft : Draft) (s : Scene) (o : NameOutcome)
      (b : Bool) (t : Scene)
      → CallComes others key c draft s o b t → Rises s.desk t.desk
  call_rises key (call.Act a) draft s o b t h = same s.desk t.desk h.desk
  call_rises key (call.List n) draft s o b t h = list_rises s.names.home h.0.answer n draft s.desk o
      t.desk h.0.cuts
  call_rises key (call.Iterator i) draft s o b t h = iterator_rises _ _ i draft s.desk o t.desk h.0
  call_rises key (call.IsA id) draft s o b t h = same s.desk t.desk (ap desk_of h.1)
  call_rises key call.NonExistent draft s o b t h = same s.desk t.desk (ap desk_of h.1)

  comes_rises : (j : Judged) (draft : Draft) (s : Scene) (o : NameOutcome) (b : Bool) (t : Scene)
      → OutcomeOfRequest others j draft s o b t → Rises s.desk t.desk
  comes_rises (Refused k minor) draft s o b t h = same s.desk t.desk (ap desk_of h.1)
  comes_rises (Call key c) draft s o b t h = call_rises key c draft s o b t h

  answers_rise : (j : Judged) (draft : Draft) (s : Scene) (o : NameOutcome) (b : Bool) (t : Scene)
      → AnswersRequest others j draft s o b t → Rises s.desk t.desk
  answers_rise j draft s o b t (inl comes) = comes_rises j draft s o b t comes
  answers_rise j draft s o b t (inr wants) = same s.desk t.desk wants.desk

  -- a Request's turn by one at most, and any other not at all
  abbrev By : Scene → Bool → Scene → Type 0
  By s asked t = number t.desk ≤ number s.desk + cond asked 1 0

  kept_by : (s t : Scene) (asked : Bool) → asked ≡ false → t.desk ≡ s.desk → By s asked t
  kept_by s t asked e h = omega (arith, ap number h, ap counted e)

  asked_by : (s t : Scene) (asked : Bool) → asked ≡ true → Rises s.desk t.desk → By s asked t
  asked_by s t asked e r = omega (arith, r, ap counted e)

  turn_rises : (s : Scene) (t : Turn) → IsTurn others s t → By s (is_request t.message) t.after
  turn_rises s t (request r) =
      asked_by s t.after (is_request t.message) (ap (λ (k : ℕ). eqb k 0) r.kind)
      (answers_rise r.serves.noted.judged r.serves.draft
      (record { names = r.serves.looked; desk = s.desk })
      r.serves.noted.outcome r.serves.noted.accepted t.after r.serves.answers)
  turn_rises s t (locate l) =
      kept_by s t.after (is_request t.message) (not_request t.message 3 l.kind (omega arith)) l.desk
  turn_rises s t (cancel c) =
      kept_by s t.after (is_request t.message) (not_request t.message 2 c.kind (omega arith))
      (ap desk_of c.kept)

  -- from one stage to the next
  pub message_spends : (s : Stage) (message reply : List ℕ) (u : Stage)
      → ServesMessage others s message reply u
      → number u.scene.desk ≤ number s.scene.desk + cond (is_request message) 1 0
  message_spends s message reply u h =
      turn_rises s.scene (turn_of message h.noted h.point reply u.scene) h.leads.run.0
