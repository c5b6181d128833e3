-- What a call is answered with, before it is a reply.
use Rattle.std.specs.Prelude.{◌≡◌, ℕ, ◌<◌, ◌≤◌, ◌++◌, List, length, Result, Ok, Err}
use Rattle.td_cdr.specs.Marks.{Marks}
use Rattle.td_cdr.specs.Writing.{Draft}
use Rattle.td_cdr.specs.declared.memory.Memory.{Memory as OutOfMemory}
use Rattle.td_lookup.specs.Scenes.{Scene}
use Rattle.td_lookup.specs.Answering.{no_memory_entry}
use Rattle.td_lookup.specs.NoMemory.{AnswersNoMemory, no_memory_outcome}
use Rattle.td_ops.specs.Outcomes.{outcome_piece, outcome_status}
use Rattle.td_ops.specs.declared.outcome.Outcome.{Outcome}
use Rattle.td_register.specs.declared.history.Accepted.{Accepted}
use Rattle.td_servant.specs.Answers.{IfLong, no_memory, plain}
use Rattle.td_servant.specs.declared.answer.Answer.{Answer}
use Rattle.td_servant.specs.declared.answer.ReplyBody.{ReplyBody}
use Rattle.td_servant.specs.declared.answer.ReplyBody.TheVariants as reply_body
use Rattle.td_servant.specs.declared.entry.Entry.{Entry}
use Rattle.td_servant.specs.declared.judging.Judged.{Judged}
use Rattle.td_dispatch.specs.Requests.{AnswersRequest}
use Rattle.td_walk.specs.declared.trace.Address.{Address}

-- ---- answers

-- when memory runs out before a peer has answered, nothing is noted
abbrev pub OrNoMemory : Result Answer OutOfMemory → Answer → Type 0
OrNoMemory (Ok a) content = content ≡ a
OrNoMemory (Err m) content = content ≡ plain no_memory

-- The body is that of this outcome: it is still to be written; or the outcome is a result, and stands in the writer
-- behind the draft.
abbrev pub IsBodyOf : Outcome → ReplyBody → (draft written : Draft) → Type 0
IsBodyOf o (reply_body.Outcome content) draft written = content ≡ o
IsBodyOf o reply_body.Written draft written =
    (outcome_status o ≡ 0) × (written.bytes
    ≡ draft.bytes ++ outcome_piece o draft.order (length draft.bytes))
    × (written.order ≡ draft.order)

module _ (others : List Accepted → Type 0) (later : Marks → Marks → Type 0) where
  -- NO_MEMORY can be answered in place of an answer with this entry.
  pub record MayBeRefused (home : Address) (j : Judged) (k : ℕ) (s : Scene) (e : Entry)
      (t : Scene) : Type 0 where
    pub within : k < length t.world
    pub no_memory_answer : AnswersNoMemory others later home j s
        (no_memory_outcome (no_memory_entry t.world k e))
        (no_memory_entry t.world k e) t

  -- What a call comes to at trader k, with a writer that held the draft. A body for which memory may run out can be
  -- taken back.
  pub record Invokes (home : Address) (j : Judged) (k : ℕ) (draft : Draft) (s : Scene)
      (b : ReplyBody) (e : Entry) (written : Draft) (t : Scene) : Type 0 where
    pub outcome : Outcome
    pub answers : AnswersRequest others later home j draft s outcome e t
    pub body : IsBodyOf outcome b draft written
    pub if_no_memory : IfLong b (MayBeRefused home j k s e t)

-- a written body has a head in front of it
abbrev pub HasHead : ReplyBody → (written : Draft) → Type 0
HasHead (reply_body.Outcome o) written = Unit {0}
HasHead reply_body.Written written = 12 ≤ length written.bytes
