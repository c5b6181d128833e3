-- What an iterator gives of what is left of it (OMG's Trading Object Service, next_n of the interfaces OfferIterator
-- and OfferIdIterator).
use Rattle.std.specs.Prelude.{ℕ, zero, suc, ◌+◌, Bool, true, false, if◌then◌else◌, List, length, take, drop, min, nat_le}
use Rattle.std.specs.Prelude.{nat_lt}
use Rattle.td_cdr.specs.declared.order.Order.{Order}
use Rattle.td_cdr.specs.Format.{Piece}
use Rattle.td_iter.specs.Batches.{batch}
use Rattle.td_iter.specs.Heads.{next_ids, next_offers}
use Rattle.td_iter.specs.declared.item.Item.{Item}
use Rattle.td_iter.specs.declared.item.Item.TheVariants.{Offers, Ids}
use Rattle.td_iter.specs.declared.limits.TheConstants.{LARGEST_MESSAGE, REPLY_START}

-- the greatest number up to m of which this holds; else 0
abbrev pub greatest : (ℕ → Bool) → ℕ → ℕ
greatest holds zero = 0
greatest holds (suc m) = if holds (suc m) then suc m else greatest holds m

module _ {X : Type 0} (head : List X → Bool → Piece) (order : Order) (left : List X) where
  -- the message that has the first k is within the limit
  abbrev pub fits : ℕ → Bool
  fits k = nat_le (REPLY_START + length (batch head left k order REPLY_START)) LARGEST_MESSAGE

  -- how many the batch for n items has
  abbrev pub batch_count : ℕ → ℕ
  batch_count n = greatest fits (min n (length left))

-- how many are left
abbrev pub size_of : Item → ℕ
size_of (Offers xs) = length xs
size_of (Ids xs) = length xs

abbrev pub is_offers : Item → Bool
is_offers (Offers xs) = true
is_offers (Ids xs) = false

-- the first k, and all but these
abbrev pub first_of : ℕ → Item → Item
first_of k (Offers xs) = Offers (take k xs)
first_of k (Ids xs) = Ids (take k xs)

abbrev pub rest_of : ℕ → Item → Item
rest_of k (Offers xs) = Offers (drop k xs)
rest_of k (Ids xs) = Ids (drop k xs)

module _ (n : ℕ) (order : Order) where
  -- how many the batch for n items has
  abbrev pub count_of : Item → ℕ
  count_of (Offers xs) = batch_count next_offers order xs n
  count_of (Ids xs) = batch_count next_ids order xs n

  -- the body of the reply that has it
  abbrev pub body_of : Item → List ℕ
  body_of (Offers xs) = batch next_offers xs (batch_count next_offers order xs n) order REPLY_START
  body_of (Ids xs) = batch next_ids xs (batch_count next_ids order xs n) order REPLY_START

  -- what is given, and what is left then
  abbrev pub given_of : Item → Item
  given_of item = first_of (count_of item) item

  abbrev pub left_behind : Item → Item
  left_behind item = rest_of (count_of item) item

  -- whether something is left then
  abbrev pub more_behind : Item → Bool
  more_behind item = nat_lt (count_of item) (size_of item)
