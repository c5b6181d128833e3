-- What a call comes to, with the body of its reply.
use Rattle.std.proofs.Common.{◌≡◌, inr, ℕ, true, List, length, refl, sym, ap, subst, ◌∙◌}
use Rattle.td_cdr.specs.Marks.{Marks}
use Rattle.td_cdr.specs.Writing.{Draft}
use Rattle.td_giop.proofs.Lengths.{reply_start_length}
use Rattle.td_lookup.specs.Scenes.{Scene}
use Rattle.td_lookup.specs.NoMemory.{AnswersNoMemory, no_memory_outcome}
use Rattle.td_ops.specs.Outcomes.{is_short}
use Rattle.td_ops.specs.declared.outcome.Outcome.{Outcome}
use Rattle.td_register.specs.declared.history.Accepted.{Accepted}
use Rattle.td_servant.specs.Answers.{IfLong, AnswersWith, AnswersPlainly, HasBody, no_memory}
use Rattle.td_servant.specs.declared.answer.Answer.{Answer}
use Rattle.td_servant.specs.declared.answer.ReplyBody.{ReplyBody}
use Rattle.td_servant.specs.declared.answer.ReplyBody.TheVariants as reply_body
use Rattle.td_servant.specs.declared.entry.Entry.{Entry}
use Rattle.td_servant.specs.declared.entry.Entry.TheVariants.{Plain}
use Rattle.td_servant.specs.declared.judging.Judged.{Judged}
use Rattle.td_dispatch.specs.ReplyBytes.{BeginsReply}
use Rattle.td_dispatch.specs.Requests.{AnswersRequest}
use Rattle.td_dispatch.specs.Serving.{IsBodyOf, MayBeRefused, Invokes}
use Rattle.td_dispatch.specs.declared.reply_to.ReplyTo.{ReplyTo}
use Rattle.td_walk.specs.declared.trace.Address.{Address}

-- a writer that holds what stands before the body of a Reply
pub begun_length : (to : ReplyTo) (draft : Draft) → BeginsReply to draft → length draft.bytes ≡ 24
begun_length to draft begun =
    ap (λ (xs : List ℕ). length xs) begun.bytes ∙ reply_start_length to.order to.minor to.id 0

-- from one that holds of what can be taken back to another
pub long_from : (b : ReplyBody) (P Q : Type 0) → (P → Q) → IfLong b P → IfLong b Q
long_from (reply_body.Outcome content) P Q f h = λ long. f (h long)
long_from reply_body.Written P Q f h = tt

-- a body is the one of what is told
pub body_in_reply : (o : Outcome) (b : ReplyBody) (old new : Draft) → HasBody o b old new → new.order ≡ old.order
    → IsBodyOf o b old new
body_in_reply o (reply_body.Outcome content) old new h same = h.0
body_in_reply o reply_body.Written old new h same = (h.0, h.1, same)

body_plain : (o : Outcome) (b : ReplyBody) (old new : Draft) → b ≡ reply_body.Outcome o → IsBodyOf o b old new
body_plain o b old new content = subst (λ (x : ReplyBody). IsBodyOf o x old new) (sym content) refl

module _ (others : List Accepted → Type 0) (later : Marks → Marks → Type 0) (home : Address) (j : Judged) (k : ℕ)
    (s t : Scene) where
  pub answer_invokes : (P : Outcome → Entry → Type 0) (a : Answer) (old new : Draft) (h : AnswersWith P a old new)
      → new.order ≡ old.order → AnswersRequest others later home j old s h.outcome a.entry t
      → IfLong a.body (MayBeRefused others later home j k s a.entry t)
      → Invokes others later home j k old s a.body a.entry new t
  answer_invokes P a old new h same answers back = record {
    outcome = h.outcome;
    answers = answers;
    body = body_in_reply h.outcome a.body old new h.content same;
    if_no_memory = back;
  }

  pub plain_invokes : (P : Outcome → Entry → Type 0) (a : Answer) (draft written : Draft) (h : AnswersPlainly P a)
      → AnswersRequest others later home j draft s h.outcome a.entry t
      → IfLong a.body (MayBeRefused others later home j k s a.entry t)
      → Invokes others later home j k draft s a.body a.entry written t
  plain_invokes P a draft written h answers back = record {
    outcome = h.outcome;
    answers = answers;
    body = body_plain h.outcome a.body draft written h.content;
    if_no_memory = back;
  }

  -- memory ran out, and nothing is noted
  pub no_memory_invokes : (draft written : Draft) → AnswersNoMemory others later home j s (no_memory_outcome Plain) Plain t
      → Invokes others later home j k draft s (reply_body.Outcome no_memory) Plain written t
  no_memory_invokes draft written h = record {
    outcome = no_memory;
    answers = inr h;
    body = refl;
    if_no_memory = λ long. absurd cc;
  }

  -- an outcome of few bytes
  pub short_invokes : (draft written : Draft) (o : Outcome) (e : Entry) → is_short o ≡ true
      → AnswersRequest others later home j draft s o e t
      → Invokes others later home j k draft s (reply_body.Outcome o) e written t
  short_invokes draft written o e short answers = record {
    outcome = o;
    answers = answers;
    body = refl;
    if_no_memory = λ long. absurd (let bad : ⊥ = cc in bad);
  }
