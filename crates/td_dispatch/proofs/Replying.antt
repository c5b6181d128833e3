-- A Request that was performed and whose reply was settled is served.
use Rattle.std.proofs.Common.{◌≡◌, ◌⊎◌, ◌<◌, ◌^◌, inl, inr, ℕ, false, cond, List, [], ◌++◌, length, refl, sym}
use Rattle.std.proofs.Common.{ap, subst, ◌∙◌, arith, length-append}
use Rattle.td_cdr.specs.Marks.{Marks}
use Rattle.td_cdr.specs.Writing.{Draft}
use Rattle.td_cdr.specs.declared.order.Order.{Order}
use Rattle.td_giop.proofs.Lengths.{reply_start_length}
use Rattle.td_giop.specs.Written.{reply_start, seal_size}
use Rattle.td_iter.specs.Desks.{Live}
use Rattle.td_lookup.specs.Scenes.{Scene}
use Rattle.td_lookup.specs.Answering.{no_memory_entry}
use Rattle.td_lookup.specs.NoMemory.{AnswersNoMemory, unbegun_entry, no_memory_outcome}
use Rattle.td_ops.specs.declared.call.Call.{Call as Asked}
use Rattle.td_ops.specs.Outcomes.{is_short, outcome_piece, outcome_status}
use Rattle.td_ops.specs.declared.outcome.Outcome.{Outcome}
use Rattle.td_register.specs.declared.history.Accepted.{Accepted}
use Rattle.td_servant.specs.Answers.{no_memory}
use Rattle.td_servant.specs.Classes.{IsOfClass}
use Rattle.td_servant.specs.declared.answer.ReplyBody.{ReplyBody}
use Rattle.td_servant.specs.declared.answer.ReplyBody.TheVariants as reply_body
use Rattle.td_servant.specs.declared.class.RequestClass.{RequestClass}
use Rattle.td_servant.specs.declared.class.RequestClass.TheVariants.{Other}
use Rattle.td_servant.specs.declared.entry.Entry.{Entry}
use Rattle.td_servant.specs.declared.entry.Entry.TheVariants.{Plain}
use Rattle.td_servant.specs.declared.judging.Judged.{Judged}
use Rattle.td_servant.specs.declared.judging.Judged.TheVariants.{Call, Refused}
use Rattle.td_servant.specs.declared.objects.Object.{Object}
use Rattle.td_dispatch.proofs.OutOfMemory.{not_begun}
use Rattle.td_dispatch.specs.Backends.{BackendSeen, scene_of}
use Rattle.td_dispatch.specs.ReplyBytes.{BeginsReply, outcome_reply, reply_for}
use Rattle.td_dispatch.specs.Requests.{AnswersRequest, FitsCode, NotesNoCall, RepliesTo, minor_code}
use Rattle.td_dispatch.specs.Serving.{HasHead, IsBodyOf, MayBeRefused, Invokes}
use Rattle.td_dispatch.specs.declared.reply_to.ReplyTo.{ReplyTo}
use Rattle.td_trader.specs.Worlds.{View}
use Rattle.td_walk.specs.declared.trace.Address.{Address}

-- ---- the bytes

-- the Reply for a result whose body stands behind the head
result_bytes : (order : Order) (minor id status : ℕ) (o : Outcome) (bytes : List ℕ) → status ≡ 0
    → bytes ≡ reply_start order minor id 0 ++ outcome_piece o order (length (reply_start order minor id 0))
    → seal_size order bytes
    ≡ seal_size order (reply_start order minor id status
    ++ outcome_piece o order (length (reply_start order minor id status)))
result_bytes order minor id status o bytes done is =
    subst
    (λ (n : ℕ). seal_size order bytes
    ≡ seal_size order (reply_start order minor id n ++ outcome_piece o order (length (reply_start order minor id n))))
    (sym done) (ap (seal_size order) is)

written_bytes : (to : ReplyTo) (o : Outcome) (draft written : Draft) → BeginsReply to draft
    → outcome_status o ≡ 0 → written.bytes ≡ draft.bytes ++ outcome_piece o draft.order (length draft.bytes)
    → written.order ≡ draft.order → seal_size written.order written.bytes ≡ outcome_reply to o
written_bytes to o draft written begun done bytes same =
    let order : Order = to.order in
    let minor : ℕ = to.minor in
    let id : ℕ = to.id in
    let in_order : written.order ≡ order = same ∙ begun.is_in in
    let with_head : written.bytes ≡ reply_start order minor id 0 ++ outcome_piece o draft.order (length (reply_start
    order minor id 0)) = bytes ∙ ap (λ (xs : List ℕ). xs ++ outcome_piece o draft.order (length xs)) begun.bytes in
    let whole : written.bytes ≡ reply_start order minor id 0 ++ outcome_piece o order (length (reply_start order minor id 0))
    =
    with_head ∙ ap (λ (x : Order). reply_start order minor id 0
    ++ outcome_piece o x (length (reply_start order minor id 0)))
    begun.is_in in
    ap (λ (x : Order). seal_size x written.bytes) in_order
    ∙ result_bytes order minor id (outcome_status o) o written.bytes done whole

-- ---- a call

module _ (others : List Accepted → Type 0) (later : Marks → Marks → Type 0) (home : Address) (to : ReplyTo)
    (x : Object) (c : Asked) where
  abbrev Serves : Scene → Outcome → Entry → List ℕ → Scene → Type 0
  Serves s o e bytes t = RepliesTo others later home to (Call x c) s o e bytes t

  serves : (s t : Scene) (o : Outcome) (e settled : Entry) (draft : Draft) (bytes : List ℕ) → BeginsReply to draft
      → AnswersRequest others later home (Call x c) draft s o e t → settled ≡ e → bytes ≡ reply_for to o
      → Serves s o settled bytes t
  serves s t o e settled draft bytes begun answers same is = record {
    draft = draft;
    begun = begun;
    answers = subst (λ (n : Entry). AnswersRequest others later home (Call x c) draft s o n t) (sym same) answers;
    reply = is;
    code = tt;
  }

  -- NO_MEMORY, with what is noted then
  serves_without_memory : (k : ℕ) (s t : Scene) (e settled : Entry) (draft : Draft) (bytes : List ℕ) → BeginsReply to draft
      → MayBeRefused others later home (Call x c) k s e t → settled ≡ no_memory_entry t.world k e
      → bytes ≡ reply_for to (no_memory_outcome settled) → Serves s (no_memory_outcome settled) settled bytes t
  serves_without_memory k s t e settled draft bytes begun back same is = record {
    draft = draft;
    begun = begun;
    answers = inr
        (subst (λ (n : Entry). AnswersNoMemory others later home (Call x c) s (no_memory_outcome n) n t) (sym same) back.no_memory_answer);
    reply = is;
    code = tt;
  }

  -- The call was performed with a writer that was begun for the Reply.
  module _ (k : ℕ) (s t : Scene) (e : Entry) (draft written : Draft) (bytes : List ℕ) where
    -- its body stands in the writer, and is sent
    pub written_served : BeginsReply to draft
        → Invokes others later home (Call x c) k draft s reply_body.Written e written t
        → bytes ≡ cond to.answered (seal_size written.order written.bytes) []
        → (o : Outcome) × Serves s o e bytes t
    written_served begun q is = (
      q.outcome,
      serves s t q.outcome e e draft bytes begun q.answers refl
          (is
          ∙ ap (λ (xs : List ℕ). cond to.answered xs [])
          (written_bytes to q.outcome draft written begun q.body.0 q.body.1 q.body.2)),
    )

    -- its outcome is told
    pub told_served : (content : Outcome) → BeginsReply to draft
        → Invokes others later home (Call x c) k draft s (reply_body.Outcome content) e written t
        → bytes ≡ reply_for to content → (o : Outcome) × Serves s o e bytes t
    told_served content begun q is = (
      q.outcome,
      serves s t q.outcome e e draft bytes begun q.answers refl (is ∙ ap (reply_for to) q.body),
    )

    -- NO_MEMORY is told in its place, since memory ran out
    pub in_vain_served : (content : Outcome) (settled : Entry) (w : List View) → BeginsReply to draft → t.world ≡ w
        → Invokes others later home (Call x c) k draft s (reply_body.Outcome content) e written t
        → is_short content ≡ false → settled ≡ no_memory_entry w k e → bytes ≡ reply_for to (no_memory_outcome settled)
        → (o : Outcome) × Serves s o settled bytes t
    in_vain_served content settled w begun seen q long in_place is = (
      no_memory_outcome settled,
      serves_without_memory k s t e settled draft bytes begun (q.if_no_memory long)
          (in_place ∙ ap (λ (v : List View). no_memory_entry v k e) (sym seen)) is,
    )

-- ---- what settling asks for

-- a body that is written stands behind a head
pub head_before : (b : ReplyBody) (o : Outcome) (to : ReplyTo) (draft written : Draft)
    → BeginsReply to draft → IsBodyOf o b draft written → HasHead b written
head_before (reply_body.Outcome content) o to draft written begun h = tt
head_before reply_body.Written o to draft written begun h =
    omega (
      arith,
      ap (length {A = ℕ}) h.1,
      ap (length {A = ℕ}) begun.bytes,
      length-append draft.bytes (outcome_piece o draft.order (length draft.bytes)),
      reply_start_length to.order to.minor to.id 0,
    )

-- ---- no call

module _ (others : List Accepted → Type 0) (later : Marks → Marks → Type 0) (home : Address) (to : ReplyTo)
    (s : Scene) where
  abbrev begun_draft : Draft
  begun_draft = record { bytes = reply_start to.order to.minor to.id 0; order = to.order; room = 0 }

  -- a Request that is refused
  refusal_served : (o : Outcome) (bytes : List ℕ) → minor_code o < 2 ^ 32 → bytes ≡ reply_for to o
      → RepliesTo others later home to (Refused o) s o Plain bytes s
  refusal_served o bytes code is = record {
    draft = begun_draft;
    begun = record { bytes = refl; is_in = refl };
    answers = inl (refl, refl, refl);
    reply = is;
    code = code;
  }

  -- the minor code of NO_MEMORY is 0
  no_memory_fits : (j : Judged) → FitsCode j no_memory
  no_memory_fits (Refused r) = omega arith
  no_memory_fits (Call x c) = tt

  -- memory ran out for a Request of a class, and nothing was called
  pub memory_served : (c : RequestClass) (j : Judged) (e : Entry) (bytes : List ℕ) → IsOfClass c j
      → e ≡ unbegun_entry c → bytes ≡ reply_for to no_memory
      → RepliesTo others later home to j s no_memory e bytes s
  memory_served c j e bytes of_class noted is = record {
    draft = begun_draft;
    begun = record { bytes = refl; is_in = refl };
    answers = inr (subst (λ (n : Entry). AnswersNoMemory others later home j s no_memory n s) (sym noted)
        (not_begun others later home c j s of_class));
    reply = is;
    code = no_memory_fits j;
  }

  -- a refusal is told as it is, or NO_MEMORY is
  pub either_served : (o : Outcome) (bytes : List ℕ) → minor_code o < 2 ^ 32
      → (bytes ≡ reply_for to o) ⊎ (bytes ≡ reply_for to no_memory)
      → (content : Outcome) × RepliesTo others later home to (Refused o) s content Plain bytes s
  either_served o bytes code (inl is) = (o, refusal_served o bytes code is)
  either_served o bytes code (inr is) = (no_memory, memory_served Other (Refused o) Plain bytes refl refl is)

-- ---- judging

-- what is noted of a Request that spells a call, and of one for which nothing was done
pub call_notes : (class : RequestClass) (x : Object) (c : Asked) (j : Judged) (e : Entry) → Call x c ≡ j
    → NotesNoCall class j e
call_notes class x c j e is = subst (λ (y : Judged). NotesNoCall class y e) is tt

pub refusal_notes : (class : RequestClass) (o : Outcome) (j : Judged) → Refused o ≡ j → NotesNoCall class j Plain
refusal_notes class o j is = subst (λ (y : Judged). NotesNoCall class y Plain) is (inl refl)

pub unread_notes : (class unread : RequestClass) (j : Judged) (e : Entry) → unread ≡ class → e ≡ unbegun_entry unread
    → NotesNoCall class j e
unread_notes class unread (Refused o) e same is = inr (is ∙ ap unbegun_entry same)
unread_notes class unread (Call x c) e same is = tt

module _ (others : List Accepted → Type 0) (later : Marks → Marks → Type 0) (home : Address) (to : ReplyTo)
    (b : BackendSeen) (d m : Live) where
  -- it leaves the iterators as they were
  pub judged_served : (j k : Judged) (e : Entry) (bytes : List ℕ) (t : Scene) → m ≡ d → k ≡ j
      → ((o : Outcome) × RepliesTo others later home to k (scene_of b m) o e bytes t)
      → (o : Outcome) × RepliesTo others later home to j (scene_of b d) o e bytes t
  judged_served j k e bytes t same is h =
      subst (λ (y : Judged). (o : Outcome) × RepliesTo others later home to y (scene_of b d) o e bytes t) is
      (subst (λ (x : Live). (o : Outcome) × RepliesTo others later home to k (scene_of b x) o e bytes t) same h)

  -- memory ran out for it
  pub unread_served : (j : Judged) (e : Entry) (bytes : List ℕ) → m ≡ d
      → RepliesTo others later home to j (scene_of b m) no_memory e bytes (scene_of b m)
      → (o : Outcome) × RepliesTo others later home to j (scene_of b d) o e bytes (scene_of b m)
  unread_served j e bytes same h =
      (no_memory, subst (λ (x : Live). RepliesTo others later home to j (scene_of b x) no_memory e bytes (scene_of b m)) same h)
