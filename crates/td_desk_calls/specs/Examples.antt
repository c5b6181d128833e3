-- Worked examples: an answer of seven ids has given two of them, and five are left on the desk.
use Rattle.std.specs.Prelude.{◌≡◌, true, false, [], ◌∷◌, codes, None, Some, Err}
use Rattle.td_cdr.specs.declared.order.Order.TheVariants.{Big}
use Rattle.td_desk.specs.Examples.{five_left}
use Rattle.td_ops.specs.declared.fault.OpsFault.TheVariants as fault
use Rattle.td_ops.specs.declared.outcome.Outcome.TheVariants.{Done, System}
use Rattle.td_ops.specs.declared.outcome.Reply.TheVariants as reply
use Rattle.td_ops.specs.declared.outcome.SystemKind.TheVariants.{Marshal, ObjectNotExist}
use Rattle.td_desk_calls.specs.Calls.{asked_by, iterator_key, outcome_by, refused_request}
use Rattle.td_desk_calls.specs.declared.judging.IteratorRequest.TheVariants.{NextN, Destroy, Inquire}
use Rattle.td_desk_calls.specs.declared.judging.Inquiry.TheVariants.{MaxLeft, IsA, NonExistent}

pub record WorkedCalls : Type 0 where
  pub key : iterator_key (codes "A/I/7") ≡ Some (codes "A", 7)
  pub key_of_lookup : iterator_key (codes "A/L") ≡ None
  -- what is answered where the five ids are there
  pub left : outcome_by (Inquire MaxLeft) Big (Some five_left) ≡ Done (reply.Number 5)
  pub next : outcome_by (NextN 3) Big (Some five_left)
      ≡ Done (reply.IdBatch true (codes "3" ∷ codes "4" ∷ codes "5" ∷ []))
  pub is_one : outcome_by (Inquire (IsA (codes "IDL:omg.org/CosTrading/OfferIdIterator:1.0"))) Big
      (Some five_left)
      ≡ Done (reply.Truth true)
  pub is_other : outcome_by (Inquire (IsA (codes "IDL:omg.org/CosTrading/OfferIterator:1.0"))) Big
      (Some five_left)
      ≡ Done (reply.Truth false)
  pub not_gone : outcome_by (Inquire NonExistent) Big (Some five_left) ≡ Done (reply.Truth false)
  pub taken_off : outcome_by Destroy Big (Some five_left) ≡ Done reply.Nothing
  -- a body that isn't in the grammar
  pub spells_none : asked_by (Err (fault.Marshal 40)) ≡ refused_request Marshal 40
  pub refusal : outcome_by (refused_request Marshal 40) Big (Some five_left) ≡ System Marshal 40 1
  -- where it isn't there, that comes first
  pub gone_first : outcome_by (refused_request Marshal 40) Big None ≡ System ObjectNotExist 0 1
