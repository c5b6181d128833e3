-- Calls of iterators, and those that every object has.
use Rattle.std.proofs.Common.{◌≡◌, inl, ℕ, ◌<◌, false, List, length, Result, Ok, Err, IfOk, OnErr, refl, sym, subst}
use Rattle.td_cdr.specs.Marks.{Marks}
use Rattle.td_cdr.specs.Writing.{Draft}
use Rattle.td_cdr.specs.declared.memory.Memory.{Memory as OutOfMemory}
use Rattle.td_iter.specs.Desks.{Live}
use Rattle.td_lookup.specs.Scenes.{Scene, scene}
use Rattle.td_lookup.specs.Answering.{no_memory_entry}
use Rattle.td_lookup.specs.NoMemory.{AnswersNoMemory, no_memory_outcome}
use Rattle.td_objects.specs.Interfaces.{is_a}
use Rattle.td_ops.specs.declared.call.Call.TheVariants as call
use Rattle.td_ops.specs.declared.call.IterCall.{IterCall}
use Rattle.td_ops.specs.declared.outcome.Outcome.TheVariants.{Done}
use Rattle.td_ops.specs.declared.outcome.Reply.TheVariants.{Truth}
use Rattle.td_register.specs.declared.history.Accepted.{Accepted}
use Rattle.td_servant.specs.Answers.{IfLong, AnswersWith, plain}
use Rattle.td_servant.specs.Iterating.{IteratorComes}
use Rattle.td_servant.specs.Linking.{PeersSeen}
use Rattle.td_servant.specs.declared.answer.Answer.{Answer}
use Rattle.td_servant.specs.declared.entry.Entry.{Entry}
use Rattle.td_servant.specs.declared.entry.Entry.TheVariants.{Plain}
use Rattle.td_servant.specs.declared.judging.Judged.TheVariants.{Call}
use Rattle.td_servant.specs.declared.objects.Object.{Object}
use Rattle.td_dispatch.proofs.Invoking.{long_from, short_invokes, answer_invokes, no_memory_invokes}
use Rattle.td_dispatch.proofs.OutOfMemory.{nothing_done}
use Rattle.td_dispatch.specs.Requests.{number_in}
use Rattle.td_dispatch.specs.Serving.{MayBeRefused, OrNoMemory, Invokes}
use Rattle.td_trader.specs.Worlds.{View, name_at}
use Rattle.td_walk.specs.declared.trace.Address.{Address}

module _ (others : List Accepted → Type 0) (later : Marks → Marks → Type 0) (home : Address) (x : Object) where
  -- ---- iterators

  module _ (w : List View) (i : IterCall) (draft new : Draft) (d e : Live) (p : PeersSeen) (words : ℕ → ℕ) where
    plain_refused : (n : Entry) → x.trader < length w → n ≡ Plain → e ≡ d
        → MayBeRefused others later home (Call x (call.Iter i)) x.trader (scene w d p words) n (scene w e p words)
    plain_refused n within noted same = record {
      within = within;
      no_memory_answer = subst
          (λ (y : Entry). AnswersNoMemory others later home (Call x (call.Iter i)) (scene w d p words)
          (no_memory_outcome (no_memory_entry w x.trader y)) (no_memory_entry w x.trader y) (scene w e p words))
          (sym noted)
          (nothing_done others later home (Call x (call.Iter i)) w w x.trader d e p p words (inl refl) same refl refl);
    }

    pub iterator_invokes : (name : List ℕ) (number : ℕ) (r : Result Answer OutOfMemory) (a : Answer)
        → x.trader < length w → name ≡ name_at w x.trader → number ≡ number_in x.kind
        → IfOk r (λ y. AnswersWith (λ o n. IteratorComes name number i d draft o n e) y draft new)
        → IfOk r (λ y. IfLong y.body (e ≡ d)) → OnErr r ((e ≡ d) × (new.bytes ≡ draft.bytes))
        → new.order ≡ draft.order → OrNoMemory r a
        → Invokes others later home (Call x (call.Iter i)) x.trader draft (scene w d p words) a.body a.entry new
        (scene w e p words)
    iterator_invokes name number (Ok b) a within named numbered ok back err order is =
        let j = Call x (call.Iter i) in
        let comes =
        subst (λ (y : ℕ). IteratorComes (name_at w x.trader) y i d draft ok.outcome b.entry e) numbered
        (subst (λ (y : List ℕ). IteratorComes y number i d draft ok.outcome b.entry e) named ok.comes) in
        subst
        (λ (y : Answer). Invokes others later home j x.trader draft (scene w d p words) y.body y.entry new
        (scene w e p words)) (sym is)
        (answer_invokes others later home j x.trader (scene w d p words) (scene w e p words)
        (λ o n. IteratorComes name number i d draft o n e) b draft new ok order (inl (comes, refl))
        (long_from b.body (e ≡ d)
        (MayBeRefused others later home j x.trader (scene w d p words) b.entry (scene w e p words))
        (plain_refused b.entry within ok.comes.noted) back))
    iterator_invokes name number (Err m) a within named numbered ok back err order is =
        let j = Call x (call.Iter i) in
        subst
        (λ (y : Answer). Invokes others later home j x.trader draft (scene w d p words) y.body y.entry new
        (scene w e p words)) (sym is)
        (no_memory_invokes others later home j x.trader (scene w d p words) (scene w e p words) draft new
        (nothing_done others later home j w w x.trader d e p p words (inl refl) err.0 refl refl))

  -- ---- every object

  pub is_a_invokes : (id : List ℕ) (draft written : Draft) (s : Scene) (a : Answer)
      → a ≡ plain (Done (Truth (is_a x.interface id)))
      → Invokes others later home (Call x (call.IsA id)) x.trader draft s a.body a.entry written s
  is_a_invokes id draft written s a is =
      subst
      (λ (y : Answer). Invokes others later home (Call x (call.IsA id)) x.trader draft s y.body y.entry written s)
      (sym is)
      (short_invokes others later home (Call x (call.IsA id)) x.trader s s draft written
      (Done (Truth (is_a x.interface id))) Plain refl (inl (refl, refl, refl)))

  pub non_existent_invokes : (draft written : Draft) (s : Scene) (a : Answer) → a ≡ plain (Done (Truth false))
      → Invokes others later home (Call x call.NonExistent) x.trader draft s a.body a.entry written s
  non_existent_invokes draft written s a is =
      subst
      (λ (y : Answer). Invokes others later home (Call x call.NonExistent) x.trader draft s y.body y.entry written s)
      (sym is)
      (short_invokes others later home (Call x call.NonExistent) x.trader s s draft written (Done (Truth false)) Plain
      refl (inl (refl, refl, refl)))
