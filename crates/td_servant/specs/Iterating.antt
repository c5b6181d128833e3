-- What the calls of iterators come to (OMG's Trading Object Service, interfaces OfferIterator and
-- OfferIdIterator).
use Rattle.std.specs.Prelude.{◌≡◌, ℕ, ◌<◌, ◌++◌, Bool, List, length, drop, take, Option, None, Some}
use Rattle.td_cdr.specs.Writing.{Draft}
use Rattle.td_typecode.specs.Formats.{is_nonempty}
use Rattle.td_iter.specs.Batches.{BatchHead, IsBatch}
use Rattle.td_iter.specs.Desks.{Live, item_of, without_item, with_item}
use Rattle.td_iter.specs.Heads.{next_ids, next_offers}
use Rattle.td_iter.specs.declared.item.Item.{Item}
use Rattle.td_iter.specs.declared.item.Item.TheVariants.{Offers, Ids}
use Rattle.td_ops.specs.Outcomes.{outcome_piece, outcome_status}
use Rattle.td_ops.specs.declared.call.IterCall.{IterCall}
use Rattle.td_ops.specs.declared.call.IterCall.TheVariants as iter
use Rattle.td_ops.specs.declared.outcome.Outcome.{Outcome}
use Rattle.td_ops.specs.declared.outcome.Outcome.TheVariants.{Done}
use Rattle.td_ops.specs.declared.outcome.Reply.{Reply}
use Rattle.td_ops.specs.declared.outcome.Reply.TheVariants as reply
use Rattle.td_ops.specs.declared.outcome.SystemKind.TheVariants.{ObjectNotExist}
use Rattle.td_servant.specs.Answers.{HasBody, system}
use Rattle.td_servant.specs.declared.answer.ReplyBody.{ReplyBody}
use Rattle.td_servant.specs.declared.entry.Entry.{Entry}
use Rattle.td_servant.specs.declared.entry.Entry.TheVariants.{Plain}

-- how many items an iterator has left
abbrev pub left_in : Item → ℕ
left_in (Offers left) = length left
left_in (Ids left) = length left

-- what stands for the answer of an object that isn't there
abbrev pub gone : Outcome
gone = system ObjectNotExist 0

-- max_left
abbrev pub max_left_outcome : Option ℕ → Outcome
max_left_outcome (Some n) = Done (reply.Number n)
max_left_outcome None = gone

-- The outcome has the batch for n of what is left, and tells whether more is left behind it, which the iterator then
-- has. Where n is at least 1 and something is left, the batch isn't empty.
pub record GivesNext {X : Type 0} (head : BatchHead X) (content : Bool → List X → Reply)
    (over : List X → Item) (n : ℕ) (left : List X) (old : Draft) (o : Outcome)
    (after : Item) : Type 0 where
  pub count : ℕ
  pub batch : IsBatch head left old n count
  pub outcome : o ≡ Done (content (is_nonempty (drop count left)) (take count left))
  pub rest : after ≡ over (drop count left)
  pub some : 0 < n → 0 < length left → 0 < count

-- next_n, of offers or of ids
abbrev pub NextOf : (n : ℕ) → (left : Item) → (old : Draft) → Outcome → (after : Item) → Type 0
NextOf n (Offers left) old o after =
    GivesNext next_offers (λ more offers. reply.Batch more offers)
    (λ rest. Offers rest) n left old o after
NextOf n (Ids left) old o after =
    GivesNext next_ids (λ more ids. reply.IdBatch more ids) (λ rest. Ids rest) n left old o after

-- the same, written
pub record PutsNext (n : ℕ) (left : Item) (old new : Draft) (after : Item) : Type 0 where
  pub outcome : Outcome
  pub next : NextOf n left old outcome after
  pub status : outcome_status outcome ≡ 0
  pub bytes : new.bytes ≡ old.bytes ++ outcome_piece outcome old.order (length old.bytes)

module _ (name : List ℕ) (number : ℕ) where
  -- what a call of the trader's iterator of this number comes to, and what it leaves of those that the connection keeps
  abbrev pub IteratorDone : Option Item → IterCall → Live → (old : Draft) → Outcome → Live → Type 0
  IteratorDone None call d old o e = (o ≡ gone) × (e ≡ d)
  IteratorDone (Some left) iter.MaxLeft d old o e = (o ≡ Done (reply.Number (left_in left)))
      × (e ≡ d)
  IteratorDone (Some left) (iter.NextN n) d old o e =
      (after : Item) × NextOf n left old o after × (e ≡ with_item name number d after)
  IteratorDone (Some left) iter.Destroy d old o e = (o ≡ Done reply.Nothing)
      × (e ≡ without_item name number d)

  -- no trader is called for it
  pub record IteratorComes (call : IterCall) (d : Live) (draft : Draft) (o : Outcome) (e : Entry)
      (f : Live) : Type 0
    where
      pub is_done : IteratorDone (item_of name number d) call d draft o f
      pub noted : e ≡ Plain

  -- the body of its reply
  pub record AnswersIterator (call : IterCall) (d : Live) (old : Draft) (b : ReplyBody)
      (new : Draft)
      (e : Live) : Type 0
    where
      pub outcome : Outcome
      pub is_done : IteratorDone (item_of name number d) call d old outcome e
      pub content : HasBody outcome b old new
