-- From an answer to the bytes of its reply.
use Rattle.std.specs.Prelude.{◌≡◌, ◌⊎◌, ◌≤◌, ◌+◌, ℕ, Bool, IsTrue, true, false, if◌then◌else◌, List, [], length}
use Rattle.td_cdr.specs.Writing.{Draft}
use Rattle.td_giop.specs.Written.{seal_size}
use Rattle.td_cdr.specs.declared.order.Order.{Order}
use Rattle.td_name_ops.specs.Outcomes.{is_plain, outcome_piece}
use Rattle.td_name_ops.specs.declared.outcome.NameOutcome.{NameOutcome}
use Rattle.td_name_session.specs.Outcomes.{no_memory}
use Rattle.td_name_session.specs.ReplyBytes.{outcome_reply}
use Rattle.td_name_session.specs.declared.answer.AnswerBody.{AnswerBody}
use Rattle.td_name_session.specs.declared.answer.AnswerBody.TheVariants.{Outcome, Written}
use Rattle.td_name_session.specs.declared.reply_to.ReplyTo.{ReplyTo}

-- how many bytes are reserved for replies
abbrev pub reserved_size : ℕ
reserved_size = 1300

-- there is always room for the reply of an outcome, whose body stands behind 24 bytes
pub record AlwaysFits (o : NameOutcome) : Type 0 where
  pub plain : IsTrue (is_plain o)
  pub short : (order : Order) → 24 + length (outcome_piece o order 24) ≤ reserved_size

-- The outcome was told, or memory ran out where there isn't always room for it.
abbrev pub WritesOutcome : ReplyTo → NameOutcome → List ℕ → Type 0
WritesOutcome to o bytes = (bytes ≡ outcome_reply to o)
    ⊎ ((AlwaysFits o → ⊥) × (bytes ≡ outcome_reply to no_memory))

abbrev pub FinishesBody : ReplyTo → AnswerBody → (written : Draft) → List ℕ → Type 0
FinishesBody to (Outcome o) written bytes = WritesOutcome to o bytes
FinishesBody to Written written bytes = bytes ≡ seal_size written.order written.bytes

-- The body was sent, or what stands in its place; a Request that expects no reply gets no bytes.
abbrev pub FinishesReply : ReplyTo → AnswerBody → (written : Draft) → List ℕ → Type 0
FinishesReply to b written bytes =
    ((to.answered ≡ true) × FinishesBody to b written bytes)
    ⊎ ((to.answered ≡ false) × (bytes ≡ []))

-- a written body has a message header in front of it
abbrev pub HasHeader : AnswerBody → (written : Draft) → Type 0
HasHeader (Outcome o) written = Unit {0}
HasHeader Written written = 12 ≤ length written.bytes

-- the bytes of the writer that has the reply
abbrev pub chosen : (is_long : Bool) → (short long : Draft) → List ℕ
chosen is_long short long = if is_long then long.bytes else short.bytes
