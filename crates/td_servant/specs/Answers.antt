-- What a Request comes to: the body of its reply, and what a session notes of it (CORBA, chapter on General Inter-ORB
-- Protocol, "Reply Body", and chapter "Standard Exceptions").
use Rattle.std.specs.Prelude.{◌≡◌, ℕ, ◌++◌, false, length}
use Rattle.td_cdr.specs.Writing.{Draft}
use Rattle.td_ops.specs.Outcomes.{is_short, outcome_piece, outcome_status}
use Rattle.td_ops.specs.declared.outcome.Outcome.{Outcome}
use Rattle.td_ops.specs.declared.outcome.Outcome.TheVariants.{System}
use Rattle.td_ops.specs.declared.outcome.SystemKind.{SystemKind}
use Rattle.td_ops.specs.declared.outcome.SystemKind.TheVariants.{NoMemory}
use Rattle.td_servant.specs.declared.answer.Answer.{Answer}
use Rattle.td_servant.specs.declared.answer.ReplyBody.{ReplyBody}
use Rattle.td_servant.specs.declared.answer.ReplyBody.TheVariants as reply_body
use Rattle.td_servant.specs.declared.entry.Entry.{Entry}
use Rattle.td_servant.specs.declared.entry.Entry.TheVariants.{Plain}

-- a system exception of a call that wasn't done: completion NO
abbrev pub system : SystemKind → (minor : ℕ) → Outcome
system kind minor = System kind minor 1

-- what may stand in place of any answer
abbrev pub no_memory : Outcome
no_memory = system NoMemory 0

-- no trader is called for it
abbrev pub plain : Outcome → Answer
plain o = record { body = reply_body.Outcome o; entry = Plain }

-- The body is that of this outcome: it is told as it is and nothing was written; or the outcome is a result, and its
-- bytes were appended to what the writer held.
abbrev pub HasBody : Outcome → ReplyBody → (old new : Draft) → Type 0
HasBody o (reply_body.Outcome content) old new = (content ≡ o) × (new.bytes ≡ old.bytes)
HasBody o reply_body.Written old new =
    (outcome_status o ≡ 0) × (new.bytes ≡ old.bytes ++ outcome_piece o old.order (length old.bytes))

-- The answer is an outcome, with an entry, of which P holds: this is what a call comes to.
pub record AnswersWith (P : Outcome → Entry → Type 0) (a : Answer) (old new : Draft) : Type 0 where
  pub outcome : Outcome
  pub comes : P outcome a.entry
  pub content : HasBody outcome a.body old new

-- the same of an answer whose outcome is told as it is
pub record AnswersPlainly (P : Outcome → Entry → Type 0) (a : Answer) : Type 0 where
  pub outcome : Outcome
  pub comes : P outcome a.entry
  pub content : a.body ≡ reply_body.Outcome outcome

-- ---- what can be taken back

-- P holds where the body is still to be written and isn't short: memory may then be wanted for it, and NO_MEMORY is
-- answered in its place.
abbrev pub IfLong : ReplyBody → Type 0 → Type 0
IfLong (reply_body.Outcome content) P = is_short content ≡ false → P
IfLong reply_body.Written P = Unit {0}
