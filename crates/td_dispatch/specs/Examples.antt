-- Worked examples: whole messages of the request 7, big-endian.
use Rattle.std.specs.Prelude.{◌≡◌, ℕ, Bool, false, true, List, [], ◌∷◌, ◌++◌, codes}
use Rattle.td_cdr.specs.declared.order.Order.TheVariants.{Big}
use Rattle.td_ops.specs.declared.outcome.Outcome.TheVariants.{Done, System}
use Rattle.td_ops.specs.declared.outcome.Reply.TheVariants.{Nothing, Truth}
use Rattle.td_ops.specs.declared.outcome.SystemKind.TheVariants.{NoMemory}
use Rattle.td_dispatch.specs.ReplyBytes.{locate_reply, outcome_reply, reply_for}
use Rattle.td_dispatch.specs.declared.reply_to.ReplyTo.{ReplyTo}

-- of this minor version, big-endian, a message of this type with so many bytes behind its header
abbrev pub header_bytes : (minor kind size : ℕ) → List ℕ
header_bytes minor kind size = codes "GIOP" ++ 1 ∷ minor ∷ 0 ∷ kind ∷ 0 ∷ 0 ∷ 0 ∷ size ∷ []

-- a Reply: no contexts, the request 7, this status
abbrev pub reply_with : (minor size status : ℕ) → List ℕ
reply_with minor size status =
    header_bytes minor 1 size ++ 0 ∷ 0 ∷ 0 ∷ 0 ∷ 0 ∷ 0 ∷ 0 ∷ 7 ∷ 0 ∷ 0 ∷ 0 ∷ status ∷ []

-- what its reply answers
abbrev pub to_seven : (minor : ℕ) → (answered : Bool) → ReplyTo
to_seven minor answered = record { order = Big; minor = minor; id = 7; answered = answered }

pub record WorkedReplies : Type 0 where
  pub nothing : outcome_reply (to_seven 0 true) (Done Nothing) ≡ reply_with 0 12 0
  pub truth : outcome_reply (to_seven 0 true) (Done (Truth true)) ≡ reply_with 0 13 0 ++ 1 ∷ []
  -- a call that wasn't done
  pub refused : outcome_reply (to_seven 0 true) (System NoMemory 0 1)
      ≡ reply_with 0 56 2 ++ 0 ∷ 0 ∷ 0 ∷ 32 ∷ codes "IDL:omg.org/CORBA/NO_MEMORY:1.0"
      ++ 0 ∷ 0 ∷ 0 ∷ 0 ∷ 0 ∷ 0 ∷ 0 ∷ 0 ∷ 1 ∷ []
  -- of GIOP 1.1
  pub newer : outcome_reply (to_seven 1 true) (Done (Truth true)) ≡ reply_with 1 13 0 ++ 1 ∷ []
  pub unexpected : reply_for (to_seven 0 false) (Done Nothing) ≡ []
  pub here : locate_reply Big 0 7 true ≡ header_bytes 0 4 8 ++ 0 ∷ 0 ∷ 0 ∷ 7 ∷ 0 ∷ 0 ∷ 0 ∷ 1 ∷ []
  pub newer_here : locate_reply Big 1 7 true ≡ header_bytes 1 4 8 ++ 0 ∷ 0 ∷ 0 ∷ 7 ∷ 0 ∷ 0 ∷ 0 ∷ 1
      ∷ []
  pub unknown : locate_reply Big 0 7 false ≡ header_bytes 0 4 8 ++ 0 ∷ 0 ∷ 0 ∷ 7 ∷ 0 ∷ 0 ∷ 0 ∷ 0
      ∷ []
