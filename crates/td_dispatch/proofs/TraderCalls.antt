-- Changes, looks and add_link.
use Rattle.std.proofs.Common.{◌≡◌, ◌⊎◌, inl, inr, ℕ, ◌<◌, List, length, Result, Ok, Err, IfOk, OnErr, refl, sym}
use Rattle.std.proofs.Common.{◌≤◌, false, subst, arith}
use Rattle.td_cdr.specs.Marks.{Marks}
use Rattle.td_cdr.specs.Writing.{Draft}
use Rattle.td_cdr.specs.declared.memory.Memory.{Memory as OutOfMemory}
use Rattle.td_fed.proofs.Moving.{goes-watched}
use Rattle.td_fed.proofs.Staying.{goes-many}
use Rattle.td_iter.specs.Desks.{Live}
use Rattle.td_lookup.specs.Scenes.{Scene, scene}
use Rattle.td_lookup.specs.Answering.{no_memory_entry}
use Rattle.td_lookup.specs.NoMemory.{AnswersNoMemory, no_memory_outcome}
use Rattle.td_ops.specs.declared.call.AddLink.{AddLink}
use Rattle.td_ops.specs.declared.call.Call.TheVariants as call
use Rattle.td_ops.specs.declared.call.Change.{Change}
use Rattle.td_ops.specs.declared.call.Look.{Look}
use Rattle.td_ops.specs.declared.outcome.Outcome.{Outcome}
use Rattle.td_register.specs.declared.history.Accepted.{Accepted}
use Rattle.td_servant.specs.Answers.{IfLong, AnswersWith, AnswersPlainly}
use Rattle.td_servant.specs.Changing.{ChangeComes, Rests}
use Rattle.td_servant.specs.Classes.{is_query}
use Rattle.td_servant.specs.Linking.{AddLinkBy, AddLinkComes, AskedInVain, Gave, PeersSeen}
use Rattle.td_servant.specs.Looking.{LookComes}
use Rattle.td_servant.specs.Targets.{target_of}
use Rattle.td_servant.specs.declared.answer.Answer.{Answer}
use Rattle.td_servant.specs.declared.entry.Entry.{Entry}
use Rattle.td_servant.specs.declared.entry.Entry.TheVariants.{Asked, Plain, Point}
use Rattle.td_servant.specs.declared.judging.Judged.{Judged}
use Rattle.td_servant.specs.declared.judging.Judged.TheVariants.{Call}
use Rattle.td_servant.specs.declared.objects.Object.{Object}
use Rattle.td_servant.specs.declared.target.Target.{Target}
use Rattle.td_servant.specs.declared.target.Target.TheVariants.{Inside, Outside, Unreachable}
use Rattle.td_dispatch.proofs.Invoking.{long_from, plain_invokes, answer_invokes, no_memory_invokes}
use Rattle.td_dispatch.proofs.OutOfMemory.{asked_without_memory, none_answered, nothing_done}
use Rattle.td_dispatch.specs.Requests.{AnswersRequest}
use Rattle.td_dispatch.specs.Serving.{MayBeRefused, OrNoMemory, Invokes}
use Rattle.td_trader.specs.Worlds.{View, Watches, history_at}
use Rattle.td_walk.specs.declared.trace.Address.{Address}

module _ (others : List Accepted → Type 0) (later : Marks → Marks → Type 0) (w u : List View) where
  watched_within : (k : ℕ) → k < length w → Watches others later w k u → k < length u
  watched_within k within seen = omega (arith, goes-many others later w u (goes-watched others later w u k seen))

  -- a call that noted a point, and did nothing
  point_refused : (home : Address) (j : Judged) (k point : ℕ) (e : Entry) (d a : Live) (before after : PeersSeen)
      (words : ℕ → ℕ) → k < length w → e ≡ Point k point → a ≡ d → after ≡ before → Watches others later w k u
      → is_query j ≡ false
      → MayBeRefused others later home j k (scene w d before words) e (scene u a after words)
  point_refused home j k point e d a before after words within noted same unasked seen none = record {
    within = watched_within k within seen;
    no_memory_answer = subst
        (λ (x : Entry). AnswersNoMemory others later home j (scene w d before words) (no_memory_outcome (no_memory_entry u k x)) (no_memory_entry u k x)
        (scene u a after words))
        (sym noted) (nothing_done others later home j w u k d a before after words (inr seen) same unasked none);
  }

  -- ---- a change

  pub change_invokes : (home : Address) (x : Object) (c : Change) (draft written : Draft) (d : Live) (p : PeersSeen)
      (words : ℕ → ℕ) (r : Result Answer OutOfMemory) (a : Answer) → x.trader < length w
      → IfOk r (λ y. AnswersPlainly (λ o e. ChangeComes others later w x.trader c o e u) y)
      → IfOk r (λ y. IfLong y.body (Watches others later w x.trader u))
      → OnErr r (Watches others later w x.trader u) → OrNoMemory r a
      → Invokes others later home (Call x (call.Change c)) x.trader draft (scene w d p words) a.body a.entry written
      (scene u d p words)
  change_invokes home x c draft written d p words (Ok b) a within ok back err is =
      let j = Call x (call.Change c) in
      subst
      (λ (y : Answer). Invokes others later home j x.trader draft (scene w d p words) y.body y.entry written
      (scene u d p words)) (sym is)
      (plain_invokes others later home j x.trader (scene w d p words) (scene u d p words)
      (λ o e. ChangeComes others later w x.trader c o e u) b draft written ok (inl (ok.comes, refl))
      (long_from b.body (Watches others later w x.trader u)
      (MayBeRefused others later home j x.trader (scene w d p words) b.entry (scene u d p words))
      (λ seen. point_refused home j x.trader (length ok.comes.changes.seen.history) b.entry d d p p words within
      ok.comes.noted refl refl seen refl) back))
  change_invokes home x c draft written d p words (Err m) a within ok back err is =
      let j = Call x (call.Change c) in
      subst
      (λ (y : Answer). Invokes others later home j x.trader draft (scene w d p words) y.body y.entry written
      (scene u d p words)) (sym is)
      (no_memory_invokes others later home j x.trader (scene w d p words) (scene u d p words) draft written
      (nothing_done others later home j w u x.trader d d p p words (inr err) refl refl refl))

  -- ---- a look

  pub look_invokes : (home : Address) (x : Object) (l : Look) (draft new : Draft) (d e : Live) (p : PeersSeen)
      (words : ℕ → ℕ) (r : Result Answer OutOfMemory) (a : Answer) → x.trader < length w
      → Watches others later w x.trader u
      → IfOk r (λ y. AnswersWith (λ o n. LookComes others later home w d x.trader l draft o n u e) y draft new)
      → IfOk r (λ y. IfLong y.body (e ≡ d)) → OnErr r ((e ≡ d) × (new.bytes ≡ draft.bytes))
      → new.order ≡ draft.order → OrNoMemory r a
      → Invokes others later home (Call x (call.Look l)) x.trader draft (scene w d p words) a.body a.entry new
      (scene u e p words)
  look_invokes home x l draft new d e p words (Ok b) a within seen ok back err order is =
      let j = Call x (call.Look l) in
      subst
      (λ (y : Answer). Invokes others later home j x.trader draft (scene w d p words) y.body y.entry new
      (scene u e p words)) (sym is)
      (answer_invokes others later home j x.trader (scene w d p words) (scene u e p words)
      (λ o n. LookComes others later home w d x.trader l draft o n u e) b draft new ok order
      (inl (ok.comes, refl, refl))
      (long_from b.body (e ≡ d)
      (MayBeRefused others later home j x.trader (scene w d p words) b.entry (scene u e p words))
      (λ same. point_refused home j x.trader (length ok.comes.looks.seen.history) b.entry d e p p words within
      ok.comes.noted same refl seen refl) back))
  look_invokes home x l draft new d e p words (Err m) a within seen ok back err order is =
      let j = Call x (call.Look l) in
      subst
      (λ (y : Answer). Invokes others later home j x.trader draft (scene w d p words) y.body y.entry new
      (scene u e p words)) (sym is)
      (no_memory_invokes others later home j x.trader (scene w d p words) (scene u e p words) draft new
      (nothing_done others later home j w u x.trader d e p p words (inr seen) err.0 refl refl))

  -- ---- add_link

  module _ (home : Address) (x : Object) (l : AddLink) (before after : PeersSeen) (d : Live) (words : ℕ → ℕ) where
    abbrev s : Scene
    s = scene w d before words

    abbrev t : Scene
    t = scene u d after words

    asked_refused : (point : ℕ) (gave : Gave) (e : Entry) → e ≡ Asked x.trader point gave
        → AnswersNoMemory others later home (Call x (call.AddLink l)) s
        (no_memory_outcome (no_memory_entry u x.trader (Asked x.trader point gave))) (no_memory_entry u x.trader (Asked x.trader point gave)) t
        → AnswersNoMemory others later home (Call x (call.AddLink l)) s (no_memory_outcome (no_memory_entry u x.trader e))
        (no_memory_entry u x.trader e) t
    asked_refused point gave e noted h =
        subst
        (λ (y : Entry). AnswersNoMemory others later home (Call x (call.AddLink l)) s (no_memory_outcome (no_memory_entry u x.trader y))
        (no_memory_entry u x.trader y) t) (sym noted) h

    -- wherever the target is, a refusal can be taken back
    link_refused : (target : Target) (o : Outcome) (e : Entry)
        → AddLinkBy others later target home w x.trader l before after o e u → x.trader < length w
        → Watches others later w x.trader u → MayBeRefused others later home (Call x (call.AddLink l)) x.trader s e t
    link_refused (Inside i) o e h within seen =
        point_refused home (Call x (call.AddLink l)) x.trader (length h.0.changes.seen.history) e d d before after
        words within h.0.noted refl h.1 seen refl
    link_refused Unreachable o e h within seen =
        point_refused home (Call x (call.AddLink l)) x.trader (length h.0.changes.seen.history) e d d before after
        words within h.0.noted refl h.1 seen refl
    link_refused Outside o e h within seen = record {
      within = watched_within x.trader within seen;
      no_memory_answer = asked_refused (length h.linked.changes.seen.history) h.gave e h.linked.noted
          (asked_without_memory others later home x l w u _ d before after words h.gave (inr seen) h.asked h.answered);
    }

    -- and so can NO_MEMORY
    without_memory : (o : Outcome) (e : Entry) → AskedInVain others later home w x.trader l before after o e u
        → AnswersNoMemory others later home (Call x (call.AddLink l)) s o e t
    without_memory o e h =
        let n = h.noted in
        subst (λ (y : Outcome). AnswersNoMemory others later home (Call x (call.AddLink l)) s y e t) (sym n.outcome)
        (subst (λ (y : Entry). AnswersNoMemory others later home (Call x (call.AddLink l)) s (no_memory_outcome Plain) y t) (sym n.noted)
        (asked_without_memory others later home x l w u _ d before after words h.gave n.rests h.asked h.answered))

    vain_refused : (o : Outcome) (e : Entry) → AskedInVain others later home w x.trader l before after o e u
        → x.trader < length w → Watches others later w x.trader u
        → MayBeRefused others later home (Call x (call.AddLink l)) x.trader s e t
    vain_refused o e h within seen = record {
      within = watched_within x.trader within seen;
      no_memory_answer = asked_refused (length (history_at u x.trader)) h.gave e h.noted.noted
          (asked_without_memory others later home x l w u _ d before after words h.gave (inr seen) h.asked h.answered);
    }

    link_answers : (draft : Draft) (o : Outcome) (e : Entry)
        → AddLinkComes others later home w x.trader l before after o e u
        ⊎ AskedInVain others later home w x.trader l before after o e u
        → AnswersRequest others later home (Call x (call.AddLink l)) draft s o e t
    link_answers draft o e (inl comes) = inl (comes, refl, refl)
    link_answers draft o e (inr vain) = inr (without_memory o e vain)

    any_refused : (o : Outcome) (e : Entry)
        → AddLinkComes others later home w x.trader l before after o e u
        ⊎ AskedInVain others later home w x.trader l before after o e u
        → x.trader < length w → Watches others later w x.trader u
        → MayBeRefused others later home (Call x (call.AddLink l)) x.trader s e t
    any_refused o e (inl comes) within seen = link_refused (target_of home w l.target) o e comes within seen
    any_refused o e (inr vain) within seen = vain_refused o e vain within seen

    pub link_invokes : (draft written : Draft) (r : Result Answer OutOfMemory) (a : Answer) → x.trader < length w
        → IfOk r (λ y. AnswersPlainly (λ o e. AddLinkComes others later home w x.trader l before after o e u
        ⊎ AskedInVain others later home w x.trader l before after o e u) y)
        → IfOk r (λ y. IfLong y.body (Watches others later w x.trader u)) → OnErr r (Rests others later w x.trader u)
        → OnErr r (after.calls ≡ before.calls) → before.faults ≤ after.faults → OrNoMemory r a
        → Invokes others later home (Call x (call.AddLink l)) x.trader draft s a.body a.entry written t
    link_invokes draft written (Ok b) a within ok back err unasked counted is =
        let j = Call x (call.AddLink l) in
        subst (λ (y : Answer). Invokes others later home j x.trader draft s y.body y.entry written t) (sym is)
        (plain_invokes others later home j x.trader s t
        (λ o e. AddLinkComes others later home w x.trader l before after o e u
        ⊎ AskedInVain others later home w x.trader l before after o e u)
        b draft written ok (link_answers draft ok.outcome b.entry ok.comes)
        (long_from b.body (Watches others later w x.trader u) (MayBeRefused others later home j x.trader s b.entry t)
        (any_refused ok.outcome b.entry ok.comes within) back))
    link_invokes draft written (Err m) a within ok back err unasked counted is =
        let j = Call x (call.AddLink l) in
        subst (λ (y : Answer). Invokes others later home j x.trader draft s y.body y.entry written t) (sym is)
        (no_memory_invokes others later home j x.trader s t draft written
        (none_answered others later home j w u x.trader d d before after words err refl unasked counted refl))
