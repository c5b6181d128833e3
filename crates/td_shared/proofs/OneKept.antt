-- A session that keeps no iterator keeps one at most of a message, under the number that was next.
use Rattle.std.proofs.Common.{◌≡◌, inl, inr, ℕ, Bool, true, false, List, drop, map, Option, None, Some}
use Rattle.std.proofs.Common.{if◌then◌else◌, ap, subst, ◌∙◌}
use Rattle.td_cdr.specs.Marks.{Marks}
use Rattle.td_cdr.specs.Writing.{Draft}
use Rattle.td_typecode.specs.Formats.{is_nonempty}
use Rattle.td_iter.specs.Desks.{Live, with_added, item_of}
use Rattle.td_iter.specs.declared.item.Item.{Item}
use Rattle.td_iter.specs.declared.item.Item.TheVariants.{Offers, Ids}
use Rattle.td_lookup.specs.Choosing.{chosen}
use Rattle.td_lookup.specs.Querying.{AnswersVisit}
use Rattle.td_lookup.specs.Scenes.{Scene}
use Rattle.td_ops.specs.declared.call.Call.{Call as Asking}
use Rattle.td_ops.specs.declared.call.Call.TheVariants as call
use Rattle.td_ops.specs.declared.call.IterCall.{IterCall}
use Rattle.td_ops.specs.declared.call.Query.{Query}
use Rattle.td_ops.specs.declared.outcome.Outcome.{Outcome}
use Rattle.td_register.specs.declared.history.Accepted.{Accepted}
use Rattle.td_servant.specs.Iterating.{IteratorDone}
use Rattle.td_servant.specs.Looking.{CutsList}
use Rattle.td_servant.specs.declared.entry.Entry.{Entry}
use Rattle.td_servant.specs.declared.judging.Judged.{Judged}
use Rattle.td_servant.specs.declared.judging.Judged.TheVariants.{Call, Refused}
use Rattle.td_servant.specs.declared.objects.Object.{Object}
use Rattle.td_dispatch.specs.Requests.{AnswersRequest, OutcomeOfRequest}
use Rattle.td_session_runs.specs.Turns.{IsTurn, Turn, request, locate, cancel}
use Rattle.td_walk.specs.declared.trace.Address.{Address}
use Rattle.td_walk.specs.declared.trace.Visit.{Visit}
use Rattle.td_walk.specs.declared.trace.Visit.TheVariants as visit
use Rattle.td_session.specs.Serving.{ServesMessage}
use Rattle.td_session.specs.Stages.{Stage, turn_of}
use Rattle.td_shared.specs.Stages.{KeepsOne, keeps_none, keeps_one, none_kept}

one_of : (b : Bool) (n : ℕ) (name : List ℕ) (item : Item) (e : Live)
    → e ≡ (if b then with_added name item (none_kept n) else none_kept n) → KeepsOne n e
one_of true n name item e h = keeps_one name item h
one_of false n name item e h = keeps_none h

module _ (n : ℕ) where
  look_keeps : (home : Address) (name : List ℕ) (count : ℕ) (ids : Option (List (List ℕ))) (found : Outcome)
      (draft : Draft) (o : Outcome) (e : Live) → CutsList home name count ids found draft (none_kept n) o e
      → KeepsOne n e
  look_keeps home name count (Some ids) found draft o e h =
      one_of (is_nonempty (drop h.count ids)) n name (Ids (drop h.count ids)) e h.kept
  look_keeps home name count None found draft o e h = keeps_none h.1

  look_keeps_at : (home : Address) (name : List ℕ) (count : ℕ) (ids : Option (List (List ℕ))) (found : Outcome)
      (draft : Draft) (d : Live) (o : Outcome) (e : Live) → d ≡ none_kept n
      → CutsList home name count ids found draft d o e → KeepsOne n e
  look_keeps_at home name count ids found draft d o e bare h =
      look_keeps home name count ids found draft o e
      (subst (λ (x : Live). CutsList home name count ids found draft x o e) bare h)

  visit_keeps : (home : Address) (name : List ℕ) (q : Query) (v : Visit) (draft : Draft) (o : Outcome) (e : Live)
      → AnswersVisit home name q v draft (none_kept n) o e → KeepsOne n e
  visit_keeps home name q (visit.Refused r) draft o e h = keeps_none h.1
  visit_keeps home name q (visit.Answered a max_list) draft o e h =
      let found = map (chosen q.desired) a.offers in
      one_of (is_nonempty (drop h.count found)) n name (Offers (drop h.count found)) e h.kept

  visit_keeps_at : (home : Address) (name : List ℕ) (q : Query) (v : Visit) (draft : Draft) (d : Live) (o : Outcome)
      (e : Live) → d ≡ none_kept n → AnswersVisit home name q v draft d o e → KeepsOne n e
  visit_keeps_at home name q v draft d o e bare h =
      visit_keeps home name q v draft o e (subst (λ (x : Live). AnswersVisit home name q v draft x o e) bare h)

  iterator_keeps : (name : List ℕ) (number : ℕ) (i : IterCall) (d : Live) (draft : Draft) (o : Outcome) (e : Live)
      → d ≡ none_kept n → IteratorDone name number (item_of name number d) i d draft o e → KeepsOne n e
  iterator_keeps name number i d draft o e bare h =
      let g : IteratorDone name number (item_of name number (none_kept n)) i (none_kept n) draft o e =
      subst (λ (x : Live). IteratorDone name number (item_of name number x) i x draft o e) bare h in
      keeps_none g.1

module _ (others : List Accepted → Type 0) (later : Marks → Marks → Type 0) (home : Address) (n : ℕ) where
  abbrev desk_of : Scene → Live
  desk_of s = s.desk

  module _ (s : Scene) (bare : s.desk ≡ none_kept n) (o : Outcome) (e : Entry) (t : Scene) where
    as_before : t.desk ≡ s.desk → KeepsOne n t.desk
    as_before h = keeps_none (h ∙ bare)

    call_keeps : (x : Object) (c : Asking) (draft : Draft) → OutcomeOfRequest others later home (Call x c) draft s o e t
        → KeepsOne n t.desk
    call_keeps x (call.Change c) draft h = as_before (ap desk_of h.1)
    call_keeps x (call.Look l) draft h =
        look_keeps_at n home _ _ _ h.0.found draft s.desk o t.desk bare h.0.cuts
    call_keeps x (call.AddLink l) draft h = as_before h.1
    call_keeps x (call.Iter i) draft h = iterator_keeps n _ _ i s.desk draft o t.desk bare h.0.is_done
    call_keeps x (call.IsA id) draft h = as_before (ap desk_of h.2)
    call_keeps x call.NonExistent draft h = as_before (ap desk_of h.2)
    call_keeps x (call.Query q) draft h = visit_keeps_at n home _ q h.visit draft s.desk o t.desk bare h.answer
    call_keeps x (call.Resolve names) draft h = as_before h.desk

    comes_keeps : (j : Judged) (draft : Draft) → OutcomeOfRequest others later home j draft s o e t → KeepsOne n t.desk
    comes_keeps (Refused r) draft h = as_before (ap desk_of h.2)
    comes_keeps (Call x c) draft h = call_keeps x c draft h

    answers_keep : (j : Judged) (draft : Draft) → AnswersRequest others later home j draft s o e t → KeepsOne n t.desk
    answers_keep j draft (inl comes) = comes_keeps j draft comes
    answers_keep j draft (inr wants) = as_before wants.desk

  turn_keeps : (s : Scene) (t : Turn) → s.desk ≡ none_kept n → IsTurn others later home s t → KeepsOne n t.after.desk
  turn_keeps s t bare (request r) =
      answers_keep s bare r.noted.outcome r.noted.entry t.after r.noted.judged r.served.draft r.served.answers
  turn_keeps s t bare (locate l) = keeps_none (ap desk_of l.kept ∙ bare)
  turn_keeps s t bare (cancel c) = keeps_none (ap desk_of c.kept ∙ bare)

-- from one stage to the next
pub message_keeps : (others : List Accepted → Type 0) (later : Marks → Marks → Type 0) (n : ℕ) (s : Stage)
    (message reply : List ℕ) (u : Stage) → s.scene.desk ≡ none_kept n → ServesMessage others later s message reply u
    → KeepsOne n u.scene.desk
message_keeps others later n s message reply u bare h =
    turn_keeps others later s.home n s.scene (turn_of message h.noted reply u.scene) bare h.turn
