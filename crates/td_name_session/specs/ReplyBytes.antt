-- The bytes of a Reply (CORBA, chapter on General Inter-ORB Protocol, "Reply Message").
use Rattle.std.specs.Prelude.{◌≡◌, ◌≤◌, ℕ, Bool, if◌then◌else◌, List, [], ◌++◌, length}
use Rattle.td_cdr.specs.declared.order.Order.{Order}
use Rattle.td_cdr.specs.Writing.{Draft}
use Rattle.td_giop.specs.Heads.{Request}
use Rattle.td_giop.specs.declared.header.TheConstants.{NEWEST_MINOR}
use Rattle.td_giop.specs.Written.{locate_reply_written, reply_start, seal_size}
use Rattle.td_name_ops.specs.Outcomes.{outcome_piece, outcome_status}
use Rattle.td_name_ops.specs.declared.outcome.NameOutcome.{NameOutcome}
use Rattle.td_name_session.specs.declared.reply_to.ReplyTo.{ReplyTo}

-- what the reply to a Request with this head answers, whose message is in this order and of this version
abbrev pub reply_to : Order → (minor : ℕ) → Request → ReplyTo
reply_to order minor head = record {
  order = order;
  minor = minor;
  id = head.id;
  answered = head.answered;
}

-- the reply is of a version that is written
abbrev pub IsWritable : ReplyTo → Type 0
IsWritable to = to.minor ≤ NEWEST_MINOR

-- the whole Reply for an outcome, of the Request's version
abbrev pub outcome_reply : ReplyTo → NameOutcome → List ℕ
outcome_reply to outcome =
    let start = reply_start to.order to.minor to.id (outcome_status outcome) in
    seal_size to.order (start ++ outcome_piece outcome to.order (length start))

-- a Request that expects no reply gets no bytes
abbrev pub reply_for : ReplyTo → NameOutcome → List ℕ
reply_for to outcome = if to.answered then outcome_reply to outcome else []

-- what stands in a writer behind the head of a Reply with a result
pub record BeginsReply (to : ReplyTo) (draft : Draft) : Type 0 where
  pub bytes : draft.bytes ≡ reply_start to.order to.minor to.id 0
  pub is_in : draft.order ≡ to.order

-- the LocateReply: OBJECT_HERE for the key of a live object, else UNKNOWN_OBJECT
abbrev pub locate_reply : Order → (minor : ℕ) → ℕ → (live : Bool) → List ℕ
locate_reply order minor id live = seal_size order
    (locate_reply_written order minor id (if live then 1 else 0))
