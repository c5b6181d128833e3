-- Each Request of a run has an outcome that can be written, and each Reply spells it.
use Rattle.std.proofs.Common.{◌≡◌, ℕ, List, [], ◌∷◌, ◌++◌, append-nil, Option, None, Some, inl, inr, sym, subst}
use Rattle.std.specs.List.{AllByRecursion}
use Rattle.td_cdr.specs.Marks.{Marks}
use Rattle.td_cdr.specs.Place.{At}
use Rattle.td_cdr.specs.Writing.{Draft}
use Rattle.td_fed.proofs.Rising.{flat-append}
use Rattle.td_lookup.specs.Scenes.{Scene}
use Rattle.td_lookup.specs.NoMemory.{gave_in}
use Rattle.td_ops.specs.declared.outcome.Outcome.{Outcome}
use Rattle.td_register.specs.declared.history.Accepted.{Accepted}
use Rattle.td_servant.specs.Judging.{judge_request}
use Rattle.td_servant.specs.declared.entry.Entry.{Entry}
use Rattle.td_servant.specs.declared.judging.Judged.TheVariants.{Call, Refused}
use Rattle.td_servant.specs.declared.judging.Judged.{Judged}
use Rattle.td_dispatch.specs.Requests.{AnswersRequest, OutcomeOfRequest, FitsCode}
use Rattle.td_trader_laws.specs.WritableWorlds.{OthersAreAdmitted}
use Rattle.td_session_runs.specs.Journals.{all_gave}
use Rattle.td_dispatch.specs.ReplyBytes.{reply_to}
use Rattle.td_stream.specs.Messages.{minor_of, order_of}
use Rattle.td_session_runs.specs.Turns.{IsTurn, ServedRequest, Run, ServesRequest, Turn, cancel, locate, noted_in}
use Rattle.td_session_runs.specs.Turns.{noted_of}
use Rattle.td_session_runs.specs.Turns.{request}
use Rattle.td_session_runs_laws.proofs.Calling.{calls-write, no_memory_answer-writes}
use Rattle.td_session_runs_laws.proofs.Judgements.{judged-fits, refused-writes}
use Rattle.td_session_runs_laws.proofs.ReadingCalls.{IsBody, judged-admits, request-body}
use Rattle.td_session_runs_laws.proofs.TellingReplies.{reply-content}
use Rattle.td_session_runs_laws.specs.Replies.{AnswersNoted, AnswersTurn, OutcomesAreWritable, RepliesSpell}
use Rattle.td_session_runs_laws.specs.Spelled.{AdmitsAnswer, HasAdmittedAnswer}
use Rattle.td_session_runs_laws.specs.Writable.{IsWritableScene}
use Rattle.td_walk.specs.Peering.{AdmitsGift, AdmitsGifts}
use Rattle.td_walk.specs.declared.trace.Address.{Address}

-- ---- lists

all-joined : {X : Type 0} (P : X → Type 0) (xs ys : List X) → AllByRecursion P xs → AllByRecursion P ys
    → AllByRecursion P (xs ++ ys)
all-joined P [] ys h k = k
all-joined P (x ∷ xs) ys h k = (h.0, all-joined P xs ys h.1 k)

all-parts : {X : Type 0} (P : X → Type 0) (xs ys : List X) → AllByRecursion P (xs ++ ys)
    → AllByRecursion P xs × AllByRecursion P ys
all-parts P [] ys h = (tt, h)
all-parts P (x ∷ xs) ys h = let rest = all-parts P xs ys h.1 in ((h.0, rest.0), rest.1)

-- what peers gave for Requests, and for those behind them
gifts-parts : (ns ms : List ServedRequest) → AdmitsGifts (all_gave (ns ++ ms))
    → AdmitsGifts (all_gave ns) × AdmitsGifts (all_gave ms)
gifts-parts ns ms gifts =
    all-parts AdmitsGift (all_gave ns) (all_gave ms)
    (subst AdmitsGifts (flat-append (λ (n : ServedRequest). gave_in n.entry) ns ms) gifts)

-- ---- a turn

-- the outcome that is noted can be written, the reply tells it, and what is left can be written
record TurnWrites (o : Option ServedRequest) (t : Turn) : Type 0 where
  answered : AllByRecursion HasAdmittedAnswer (noted_in o)
  content : AnswersNoted o t
  after : IsWritableScene t.after

-- where nothing is noted and nothing changes
quiet-writes : (s : Scene) (t : Turn) → t.request ≡ None → t.after ≡ s → IsWritableScene s → TurnWrites t.request t
quiet-writes s t none kept scene =
    subst (λ (o : Option ServedRequest). TurnWrites o t) (sym none)
    (record { answered = tt; content = tt; after = subst IsWritableScene (sym kept) scene })

module _ (others : List Accepted → Type 0) (later : Marks → Marks → Type 0) (home : Address) where
  comes-writes : (key operation : List ℕ) (body : At) → IsBody body → OthersAreAdmitted others → (j : Judged)
      (draft : Draft) (s t : Scene) (o : Outcome) (e : Entry) → j ≡ judge_request s.world s.desk key operation body
      → FitsCode j o → IsWritableScene s → AdmitsGifts (gave_in e) → OutcomeOfRequest others later home j draft s o e t
      → AdmitsAnswer j o × IsWritableScene t
  comes-writes key operation body h admitted (Call x c) draft s t o e asks code scene gifts comes =
      calls-write others later home x c draft s t o e admitted scene
      (judged-admits s.world s.desk key operation body h x c (sym asks))
      (judged-fits s.world s.desk key operation body x c h.within (sym asks)) comes gifts
  comes-writes key operation body h admitted (Refused r) draft s t o e asks code scene gifts comes =
      refused-writes others later home s.world s.desk key operation body r draft s t o e (sym asks) scene code comes

  answers-write : (key operation : List ℕ) (body : At) → IsBody body → OthersAreAdmitted others → (j : Judged)
      (draft : Draft) (s t : Scene) (o : Outcome) (e : Entry) → j ≡ judge_request s.world s.desk key operation body
      → FitsCode j o → IsWritableScene s → AdmitsGifts (gave_in e) → AnswersRequest others later home j draft s o e t
      → AdmitsAnswer j o × IsWritableScene t
  answers-write key operation body h admitted j draft s t o e asks code scene gifts (inl comes) =
      comes-writes key operation body h admitted j draft s t o e asks code scene gifts comes
  answers-write key operation body h admitted j draft s t o e asks code scene gifts (inr no_memory_answer) =
      no_memory_answer-writes others later home j s t o e admitted scene no_memory_answer

  request-writes : (s : Scene) (t : Turn) → (h : ServesRequest others later home s t) → OthersAreAdmitted others
      → IsWritableScene s → AdmitsGifts (all_gave (noted_in (Some h.noted))) → TurnWrites (Some h.noted) t
  request-writes s t h admitted scene gifts =
      let n = h.noted in
      let body = request-body t.message h.head h.body h.octets h.read in
      let here =
      answers-write h.head.key h.head.operation h.body body admitted n.judged h.served.draft s t.after
      n.outcome n.entry h.asks h.served.code scene (subst AdmitsGifts (append-nil (gave_in n.entry)) gifts) h.served.answers in
      record {
        answered = (here.0, tt);
        content = record {
          head = h.head;
          body = h.body;
          read = h.read;
          content = reply-content n (reply_to (order_of t.message) (minor_of t.message) h.head) t.reply here.0 h.short h.served.reply;
        };
        after = here.1;
      }

  turn-writes : (s : Scene) (t : Turn) → OthersAreAdmitted others → IsWritableScene s
      → AdmitsGifts (all_gave (noted_in t.request)) → IsTurn others later home s t → TurnWrites t.request t
  turn-writes s t admitted scene gifts (request h) =
      subst (λ (o : Option ServedRequest). TurnWrites o t) (sym h.request)
      (request-writes s t h admitted scene
      (subst (λ (o : Option ServedRequest). AdmitsGifts (all_gave (noted_in o))) h.request gifts))
  turn-writes s t admitted scene gifts (locate h) = quiet-writes s t h.request h.kept scene
  turn-writes s t admitted scene gifts (cancel h) = quiet-writes s t h.request h.kept scene

-- ---- a run

record RunWrites (ts : List Turn) (u : Scene) : Type 0 where
  answered : AllByRecursion HasAdmittedAnswer (noted_of ts)
  content : AllByRecursion AnswersTurn ts
  after : IsWritableScene u

module _ (others : List Accepted → Type 0) (later : Marks → Marks → Type 0) (home : Address) where
  run-writes : (ts : List Turn) (s u : Scene) → OthersAreAdmitted others → IsWritableScene s
      → AdmitsGifts (all_gave (noted_of ts)) → Run others later home s ts u → RunWrites ts u
  run-writes [] s u admitted scene gifts run =
      record { answered = tt; content = tt; after = subst IsWritableScene (sym run) scene }
  run-writes (t ∷ ts) s u admitted scene gifts run =
      let parts = gifts-parts (noted_in t.request) (noted_of ts) gifts in
      let first = turn-writes others later home s t admitted scene parts.0 run.0 in
      let rest = run-writes ts t.after u admitted first.after parts.1 run.1 in
      record {
        answered = all-joined HasAdmittedAnswer (noted_in t.request) (noted_of ts) first.answered rest.answered;
        content = (first.content, rest.content);
        after = rest.after;
      }

-- ---- the laws

module _ (others : List Accepted → Type 0) (later : Marks → Marks → Type 0) (admitted : OthersAreAdmitted others)
  where
    pub outcomes-writable : OutcomesAreWritable others later
    outcomes-writable home s u ts begins run =
        let all = run-writes others later home ts s u admitted begins.scene begins.gifts run in
        (all.answered, all.after)

    pub replies-spell : RepliesSpell others later
    replies-spell home s u ts begins run =
        (run-writes others later home ts s u admitted begins.scene begins.gifts run).content
