-- Queries and names that are resolved.
use Rattle.std.proofs.Common.{◌≡◌, inl, inr, ℕ, ◌<◌, false, List, length, refl, sym, subst, arith}
use Rattle.td_cdr.specs.Marks.{Marks}
use Rattle.td_cdr.specs.Writing.{Draft}
use Rattle.td_fed.proofs.Staying.{goes-many}
use Rattle.td_lookup.specs.Naming.{NameComes}
use Rattle.td_lookup.specs.Querying.{QueryComes}
use Rattle.td_lookup.specs.Scenes.{Scene}
use Rattle.td_lookup.specs.Answering.{IfOutcome, AnswersName, AnswersQuery, GivesNoMemory, no_memory_entry}
use Rattle.td_lookup.specs.Answering.{is_no_memory}
use Rattle.td_lookup.specs.NoMemory.{AnswersNoMemory, no_memory_outcome}
use Rattle.td_ops.specs.declared.call.Call.TheVariants as call
use Rattle.td_ops.specs.declared.call.Query.{Query}
use Rattle.td_register.specs.declared.history.Accepted.{Accepted}
use Rattle.td_servant.specs.Answers.{IfLong}
use Rattle.td_servant.specs.declared.answer.Answer.{Answer}
use Rattle.td_servant.specs.declared.answer.ReplyBody.{ReplyBody}
use Rattle.td_servant.specs.declared.answer.ReplyBody.TheVariants as reply_body
use Rattle.td_servant.specs.declared.entry.Entry.{Entry}
use Rattle.td_servant.specs.declared.judging.Judged.{Judged}
use Rattle.td_servant.specs.declared.judging.Judged.TheVariants.{Call}
use Rattle.td_servant.specs.declared.objects.Object.{Object}
use Rattle.td_dispatch.proofs.Invoking.{plain_invokes, answer_invokes}
use Rattle.td_dispatch.proofs.OutOfMemory.{query_kept}
use Rattle.td_dispatch.specs.Serving.{MayBeRefused, Invokes}
use Rattle.td_walk.specs.declared.trace.Address.{Address}

-- from one that holds of each outcome to what can be taken back
long_of : (b : ReplyBody) (P Q : Type 0) → (P → Q) → IfOutcome b P → IfLong b Q
long_of (reply_body.Outcome content) P Q f h = λ long. f h
long_of reply_body.Written P Q f h = tt

module _ (others : List Accepted → Type 0) (later : Marks → Marks → Type 0) (home : Address) (x : Object) (s t : Scene)
  where
    -- what stands for an answer is noted with a trader that is still there
    refused_within : (j : Judged) (e n : Entry) → x.trader < length s.world → no_memory_entry t.world x.trader e ≡ n
        → AnswersNoMemory others later home j s (no_memory_outcome n) n t → MayBeRefused others later home j x.trader s e t
    refused_within j e n within same h = record {
      within = omega (arith, goes-many others later s.world t.world h.goes);
      no_memory_answer = subst (λ (y : Entry). AnswersNoMemory others later home j s (no_memory_outcome y) y t) (sym same) h;
    }

    -- ---- a query

    query_refused : (q : Query) (e : Entry) → x.trader < length s.world
        → GivesNoMemory others later home (Call x (call.Query q)) s e t
        → MayBeRefused others later home (Call x (call.Query q)) x.trader s e t
    query_refused q e within h =
        refused_within (Call x (call.Query q)) e e within
        (query_kept t.world t.world x.trader (Call x (call.Query q)) e h.entry refl) h

    pub query_invokes : (q : Query) (old new : Draft) (a : Answer) → x.trader < length s.world
        → AnswersQuery others later home x s x.trader q old a new t
        → IfOutcome a.body (GivesNoMemory others later home (Call x (call.Query q)) s a.entry t) → new.order ≡ old.order
        → Invokes others later home (Call x (call.Query q)) x.trader old s a.body a.entry new t
    query_invokes q old new a within (inl h) back order =
        answer_invokes others later home (Call x (call.Query q)) x.trader s t
        (λ o e. QueryComes others later home s x.trader q old o e t) a old new h order (inl h.comes)
        (long_of a.body (GivesNoMemory others later home (Call x (call.Query q)) s a.entry t)
        (MayBeRefused others later home (Call x (call.Query q)) x.trader s a.entry t) (query_refused q a.entry within)
        back)
    query_invokes q old new a within (inr h) back order =
        answer_invokes others later home (Call x (call.Query q)) x.trader s t
        (λ o e. AnswersNoMemory others later home (Call x (call.Query q)) s o e t) a old new h order (inr h.comes)
        (long_of a.body (GivesNoMemory others later home (Call x (call.Query q)) s a.entry t)
        (MayBeRefused others later home (Call x (call.Query q)) x.trader s a.entry t) (query_refused q a.entry within)
        back)

    -- ---- names

    long_all : (b : ReplyBody) (P : Type 0) → P → IfLong b P
    long_all (reply_body.Outcome content) P h = λ long. h
    long_all reply_body.Written P h = tt

    pub names_perform : (names : List (List ℕ)) (draft written : Draft) (a : Answer) → x.trader < length s.world
        → AnswersName others later home x s x.trader names a t
        → GivesNoMemory others later home (Call x (call.Resolve names)) s (no_memory_entry t.world x.trader a.entry) t
        → Invokes others later home (Call x (call.Resolve names)) x.trader draft s a.body a.entry written t
    names_perform names draft written a within (inl h) back =
        plain_invokes others later home (Call x (call.Resolve names)) x.trader s t
        (λ o e. NameComes others later home s x.trader names o e t × (is_no_memory o ≡ false)) a draft written h
        (inl h.comes.0)
        (long_all a.body (MayBeRefused others later home (Call x (call.Resolve names)) x.trader s a.entry t)
        (refused_within (Call x (call.Resolve names)) a.entry (no_memory_entry t.world x.trader a.entry) within refl back))
    names_perform names draft written a within (inr h) back =
        plain_invokes others later home (Call x (call.Resolve names)) x.trader s t
        (λ o e. AnswersNoMemory others later home (Call x (call.Resolve names)) s o e t) a draft written h (inr h.comes)
        (long_all a.body (MayBeRefused others later home (Call x (call.Resolve names)) x.trader s a.entry t)
        (refused_within (Call x (call.Resolve names)) a.entry (no_memory_entry t.world x.trader a.entry) within refl back))
