-- An accepted change stands in its trader's history at its point.
use Rattle.std.proofs.Common.{◌≡◌, inl, inr, ℕ, Bool, true, false, ◌&&◌, List, length, Option, None, refl, sym, ap}
use Rattle.std.proofs.Common.{subst, ◌∙◌, true≢false}
use Rattle.td_cdr.specs.Marks.{Marks}
use Rattle.td_cdr.specs.Writing.{Draft}
use Rattle.td_changes.specs.Histories.{StandsAt, is_done}
use Rattle.td_typecode.specs.declared.reference.Ior.{Ior}
use Rattle.td_lookup.specs.Scenes.{Scene}
use Rattle.td_ops.specs.declared.call.AddLink.{AddLink}
use Rattle.td_ops.specs.declared.call.Call.TheVariants as call
use Rattle.td_ops.specs.declared.call.Call.{Call as Asking}
use Rattle.td_ops.specs.declared.call.Change.{Change}
use Rattle.td_ops.specs.declared.outcome.Outcome.TheVariants.{Done, User, System}
use Rattle.td_ops.specs.declared.outcome.Outcome.{Outcome}
use Rattle.td_ops.specs.declared.outcome.Reply.{Reply}
use Rattle.td_register.specs.declared.history.Accepted.{Accepted}
use Rattle.td_servant.specs.Changing.{ChangeComes}
use Rattle.td_servant.specs.Linking.{AddLinkBy, PeersSeen, link_change, register_given}
use Rattle.td_servant.specs.Targets.{target_of}
use Rattle.td_servant.specs.declared.entry.Entry.{Entry}
use Rattle.td_servant.specs.declared.judging.Judged.TheVariants.{Call, Refused}
use Rattle.td_servant.specs.declared.judging.Judged.{Judged}
use Rattle.td_servant.specs.declared.objects.Object.{Object}
use Rattle.td_servant.specs.declared.target.Target.TheVariants.{Inside, Outside, Unreachable}
use Rattle.td_servant.specs.declared.target.Target.{Target}
use Rattle.td_dispatch.specs.Requests.{AnswersRequest, OutcomeOfRequest}
use Rattle.td_trader.specs.Worlds.{View, history_at}
use Rattle.td_session_runs.proofs.Acting.{note}
use Rattle.td_session_runs.proofs.Moving.{changes-stand}
use Rattle.td_session_runs.specs.Journals.{Makes, asking, asks_change, changing, is_accepted, linking}
use Rattle.td_walk.specs.declared.trace.Address.{Address}

pub record StandsHere (w : List View) (j : Judged) (o : Outcome) (e : Entry) : Type 0 where
  pub trader : ℕ
  pub point : ℕ
  pub change : Change
  pub made : Makes j e trader point change
  pub content : Reply
  pub outcome : o ≡ Done content
  pub stands : StandsAt (history_at w trader) point change content

both : (a b : Bool) → a && b ≡ true → b ≡ true
both true b h = h
both false b h = absurd (true≢false (sym h))

content-of : (o : Outcome) → is_done o ≡ true → (content : Reply) × (o ≡ Done content)
content-of (Done content) e = (content, refl)
content-of (User x) e = absurd (true≢false (sym e))
content-of (System kind minor completion) e = absurd (true≢false (sym e))

module _ (others : List Accepted → Type 0) (later : Marks → Marks → Type 0) (home : Address) where
  change-stands : (x : Object) (c : Change) (w u : List View) (o : Outcome) (e : Entry)
      → ChangeComes others later w x.trader c o e u → is_done o ≡ true → StandsHere u (Call x (call.Change c)) o e
  change-stands x c w u o e h is =
      let content = content-of o is in
      record {
        trader = x.trader;
        point = length h.changes.seen.history;
        change = c;
        made =
            subst (λ (y : Entry). Makes (Call x (call.Change c)) y x.trader (length h.changes.seen.history) c)
            (sym h.noted) (changing x c (length h.changes.seen.history));
        content = content.0;
        outcome = content.1;
        stands = changes-stand others later w x.trader c o u h.changes content.0 content.1;
      }

  link-stands : (x : Object) (l : AddLink) (register : Option Ior) (w u : List View) (o : Outcome) (e : Entry)
      → ChangeComes others later w x.trader (link_change l register) o e u → is_done o ≡ true
      → StandsHere u (Call x (call.AddLink l)) o e
  link-stands x l register w u o e h is =
      let content = content-of o is in
      record {
        trader = x.trader;
        point = length h.changes.seen.history;
        change = link_change l register;
        made =
            subst (λ (y : Entry). Makes (Call x (call.AddLink l)) y x.trader (length h.changes.seen.history)
            (link_change l register)) (sym h.noted) (linking x l (length h.changes.seen.history) register);
        content = content.0;
        outcome = content.1;
        stands = changes-stand others later w x.trader (link_change l register) o u h.changes content.0 content.1;
      }

  add-link-stands : (x : Object) (l : AddLink) (w u : List View) (before after : PeersSeen) (o : Outcome) (e : Entry)
      (where_to : Target) → AddLinkBy others later where_to home w x.trader l before after o e u → is_done o ≡ true
      → StandsHere u (Call x (call.AddLink l)) o e
  add-link-stands x l w u before after o e (Inside j) h is = link-stands x l _ w u o e h.0 is
  add-link-stands x l w u before after o e Unreachable h is = link-stands x l None w u o e h.0 is
  add-link-stands x l w u before after o e Outside h is =
      let content = content-of o is in
      let changes = h.linked.changes in
      let c = link_change l (register_given h.gave) in
      record {
        trader = x.trader;
        point = length changes.seen.history;
        change = c;
        made =
            subst (λ (y : Entry). Makes (Call x (call.AddLink l)) y x.trader (length changes.seen.history) c)
            (sym h.linked.noted) (asking x l (length changes.seen.history) h.gave);
        content = content.0;
        outcome = content.1;
        stands = changes-stand others later w x.trader c o u changes content.0 content.1;
      }

  call-stands : (x : Object) (c : Asking) (draft : Draft) (s t : Scene) (o : Outcome) (e : Entry)
      → OutcomeOfRequest others later home (Call x c) draft s o e t → is_accepted (note (Call x c) o e) ≡ true
      → StandsHere t.world (Call x c) o e
  call-stands x (call.Change c) draft s t o e h is = change-stands x c s.world t.world o e h.0 is
  call-stands x (call.AddLink l) draft s t o e h is =
      add-link-stands x l s.world t.world s.peers t.peers o e (target_of home s.world l.target) h.0 is
  call-stands x (call.Look l) draft s t o e h is = absurd (true≢false (sym is))
  call-stands x (call.Iter i) draft s t o e h is = absurd (true≢false (sym is))
  call-stands x (call.IsA id) draft s t o e h is = absurd (true≢false (sym is))
  call-stands x call.NonExistent draft s t o e h is = absurd (true≢false (sym is))
  call-stands x (call.Query q) draft s t o e h is = absurd (true≢false (sym is))
  call-stands x (call.Resolve names) draft s t o e h is = absurd (true≢false (sym is))

  comes-stands : (j : Judged) (draft : Draft) (s t : Scene) (o : Outcome) (e : Entry)
      → OutcomeOfRequest others later home j draft s o e t → is_accepted (note j o e) ≡ true → StandsHere t.world j o e
  comes-stands (Refused r) draft s t o e h is = absurd (true≢false (sym is))
  comes-stands (Call x c) draft s t o e h is = call-stands x c draft s t o e h is

  pub answer-stands : (j : Judged) (draft : Draft) (s t : Scene) (o : Outcome) (e : Entry)
      → AnswersRequest others later home j draft s o e t → is_accepted (note j o e) ≡ true → StandsHere t.world j o e
  answer-stands j draft s t o e (inl h) is = comes-stands j draft s t o e h is
  answer-stands j draft s t o e (inr h) is =
      absurd (true≢false (sym (both (asks_change j) (is_done o) is) ∙ ap is_done h.outcome))
