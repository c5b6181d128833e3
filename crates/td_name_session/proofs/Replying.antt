-- A Request that was performed and whose reply was settled is served.
use Rattle.std.proofs.Common.{◌≡◌, ◌⊎◌, inl, inr, ℕ, Bool, true, false, cond, List, [], ◌++◌, length, sym}
use Rattle.std.proofs.Common.{ap, subst, ◌∙◌, arith, length-append}
use Rattle.td_cdr.specs.Place.{At}
use Rattle.td_cdr.specs.Writing.{Draft}
use Rattle.td_cdr.specs.declared.order.Order.{Order}
use Rattle.td_giop.proofs.Lengths.{reply_start_length}
use Rattle.td_giop.specs.Written.{reply_start, seal_size}
use Rattle.td_name_ops.specs.Outcomes.{outcome_piece, outcome_status}
use Rattle.td_name_ops.specs.declared.outcome.NameOutcome.{NameOutcome}
use Rattle.td_naming.specs.Views.{View}
use Rattle.td_naming.specs.declared.history.NameChange.{NameChange}
use Rattle.td_name_session.proofs.Invoking.{no_memory_invoked}
use Rattle.td_name_session.specs.Judging.{JudgesRequest}
use Rattle.td_name_session.specs.Outcomes.{no_memory}
use Rattle.td_name_session.specs.Invoking.{Handles, IfOutcome, IsBodyOf, IsOutOfMemory, InvokesInto}
use Rattle.td_name_session.specs.ReplyBytes.{BeginsReply, outcome_reply, reply_for}
use Rattle.td_name_session.specs.Requests.{AnswersRequest, AnswersNoMemory}
use Rattle.td_name_session.specs.Scenes.{IteratorList, Scene, scene}
use Rattle.td_name_session.specs.Finishing.{AlwaysFits, HasHeader, FinishesReply}
use Rattle.td_name_session.specs.Turns.{ServesHead, point_of, seen_in}
use Rattle.td_name_session.specs.declared.answer.Answer.{Answer}
use Rattle.td_name_session.specs.declared.answer.AnswerBody.{AnswerBody}
use Rattle.td_name_session.specs.declared.answer.AnswerBody.TheVariants.{Outcome, Written}
use Rattle.td_name_session.specs.declared.judging.Judged.{Judged}
use Rattle.td_name_session.specs.declared.reply_to.ReplyTo.{ReplyTo}

-- ---- the bytes

expected : (to : ReplyTo) (o : NameOutcome) → to.answered ≡ true → reply_for to o ≡ outcome_reply to o
expected to o e = ap (λ c. cond c (outcome_reply to o) []) e

unexpected : (to : ReplyTo) (o : NameOutcome) → to.answered ≡ false → reply_for to o ≡ []
unexpected to o e = ap (λ c. cond c (outcome_reply to o) []) e

-- the Reply for a result whose body stands behind the head
result_bytes : (order : Order) (minor id status : ℕ) (o : NameOutcome) (bytes : List ℕ) → status ≡ 0
    → bytes ≡ reply_start order minor id 0 ++ outcome_piece o order (length (reply_start order minor id 0))
    → seal_size order bytes
    ≡ seal_size order (reply_start order minor id status
    ++ outcome_piece o order (length (reply_start order minor id status)))
result_bytes order minor id status o bytes done is =
    subst
    (λ (n : ℕ). seal_size order bytes
    ≡ seal_size order (reply_start order minor id n ++ outcome_piece o order (length (reply_start order minor id n))))
    (sym done) (ap (seal_size order) is)

written_bytes : (to : ReplyTo) (o : NameOutcome) (draft written : Draft) → BeginsReply to draft
    → outcome_status o ≡ 0 → written.bytes ≡ draft.bytes ++ outcome_piece o draft.order (length draft.bytes)
    → written.order ≡ draft.order → seal_size written.order written.bytes ≡ outcome_reply to o
written_bytes to o draft written begun done bytes same =
    let order : Order = to.order in
    let minor : ℕ = to.minor in
    let id : ℕ = to.id in
    let in_order : written.order ≡ order = same ∙ begun.is_in in
    let with_head : written.bytes ≡ reply_start order minor id 0 ++ outcome_piece o draft.order (length (reply_start
    order minor id 0)) = bytes ∙ ap (λ (xs : List ℕ). xs ++ outcome_piece o draft.order (length xs)) begun.bytes in
    let whole : written.bytes ≡ reply_start order minor id 0 ++ outcome_piece o order (length (reply_start order minor id 0))
    =
    with_head ∙ ap (λ (x : Order). reply_start order minor id 0
    ++ outcome_piece o x (length (reply_start order minor id 0)))
    begun.is_in in
    ap (λ (x : Order). seal_size x written.bytes) in_order
    ∙ result_bytes order minor id (outcome_status o) o written.bytes done whole

-- a body that is written stands behind a header
header_before : (b : AnswerBody) (o : NameOutcome) (to : ReplyTo) (draft written : Draft)
    → BeginsReply to draft → IsBodyOf o b draft written → HasHeader b written
header_before (Outcome content) o to draft written begun h = tt
header_before Written o to draft written begun h =
    omega (
      arith,
      ap (length {A = ℕ}) h.1,
      ap (length {A = ℕ}) begun.bytes,
      length-append draft.bytes (outcome_piece o draft.order (length draft.bytes)),
      reply_start_length to.order to.minor to.id 0,
    )

module _ (others : List NameChange → Type 0) (to : ReplyTo) (j : Judged) (s : Scene) (t : Scene) where
  -- it came to this outcome, which was told
  pub record Settled (accepted : Bool) (bytes : List ℕ) : Type 0 where
    pub draft : Draft
    pub begun : BeginsReply to draft
    pub outcome : NameOutcome
    pub answers : AnswersRequest others j draft s outcome accepted t
    pub content : bytes ≡ reply_for to outcome

  settled_by : (b : AnswerBody) (flag : Bool) (written draft : Draft) (o : NameOutcome) (bytes : List ℕ)
      → BeginsReply to draft → AnswersRequest others j draft s o flag t → IsBodyOf o b draft written
      → IfOutcome b (AlwaysFits o ⊎ AnswersNoMemory others s no_memory flag t) → FinishesReply to b written bytes
      → Settled flag bytes
  settled_by Written flag written draft o bytes begun answers body back (inl whole) = record {
    draft = draft;
    begun = begun;
    outcome = o;
    answers = answers;
    content =
        whole.1 ∙ written_bytes to o draft written begun body.0 body.1 body.2 ∙ sym (expected to o whole.0);
  }
  settled_by (Outcome x) flag written draft o bytes begun answers body back (inl (yes_, inl content)) = record {
    draft = draft;
    begun = begun;
    outcome = o;
    answers = answers;
    content = content ∙ ap (outcome_reply to) body ∙ sym (expected to o yes_);
  }
  settled_by (Outcome x) flag written draft o bytes begun answers body (inl fits) (inl (yes_, inr vain)) =
      absurd (vain.0 (subst AlwaysFits (sym body) fits))
  settled_by (Outcome x) flag written draft o bytes begun answers body (inr no_memory_answer) (inl (yes_, inr vain)) = record {
    draft = draft;
    begun = begun;
    outcome = no_memory;
    answers = inr no_memory_answer;
    content = vain.1 ∙ sym (expected to no_memory yes_);
  }
  settled_by b flag written draft o bytes begun answers body back (inr none) = record {
    draft = draft;
    begun = begun;
    outcome = o;
    answers = answers;
    content = none.1 ∙ sym (unexpected to o none.0);
  }

  pub settled : (a : Answer) (written : Draft) (bytes : List ℕ) → InvokesInto others to j s a written t
      → FinishesReply to a.body written bytes → Settled a.accepted bytes
  settled a written bytes p settles =
      settled_by a.body a.accepted written p.draft p.invokes.outcome bytes p.begun p.invokes.answers p.invokes.body
      p.invokes.if_no_memory settles

module _ (others : List NameChange → Type 0) (to : ReplyTo) (key operation : List ℕ) (body : At) (s : Scene) (a : Answer)
    (written : Draft) (t : Scene) where
  pub handled_header : Handles others to key operation body s a written t → HasHeader a.body written
  handled_header h =
      header_before a.body h.performed.invokes.outcome to h.performed.draft written h.performed.begun
      h.performed.invokes.body

  pub head_served : (bytes : List ℕ) (point : ℕ) → Handles others to key operation body s a written t
      → FinishesReply to a.body written bytes → point ≡ point_of (seen_in t) a.accepted
      → ServesHead others to key operation body s bytes point t
  head_served bytes point h settles point_is =
      let x = settled others to h.judged (scene h.looked s.desk) t a written bytes h.performed settles in
      record {
        noted = record { judged = h.judged; outcome = x.outcome; accepted = a.accepted };
        looked = h.looked;
        asks = h.asks;
        draft = x.draft;
        begun = x.begun;
        answers = x.answers;
        content = x.content;
        point_is = point_is;
      }

module _ (others : List NameChange → Type 0) (to : ReplyTo) (key operation : List ℕ) (body : At) (v u : View)
    (d m : IteratorList) (a : Answer) (written : Draft) where
  -- judging has left the iterators as they were
  pub handled : (j : Judged) (t : Scene) → m ≡ d → JudgesRequest others v d key operation body j u
      → InvokesInto others to j (scene u m) a written t → Handles others to key operation body (scene v d) a written t
  handled j t same asks p = record {
    judged = j;
    looked = u;
    asks = asks;
    performed = subst (λ (x : IteratorList). InvokesInto others to j (scene u x) a written t) same p;
  }

  -- memory ran out to read the call
  pub unread_handled : m ≡ d → ((j : Judged) × JudgesRequest others v d key operation body j u) → IsOutOfMemory a
      → Handles others to key operation body (scene v d) a written (scene u m)
  unread_handled same x wants = record {
    judged = x.0;
    looked = u;
    asks = x.1;
    performed =
        subst (λ (y : IteratorList). InvokesInto others to x.0 (scene u d) a written (scene u y)) (sym same)
        (no_memory_invoked others to (scene u d) a written x.0 wants);
  }
