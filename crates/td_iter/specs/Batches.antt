-- How many of the items that are left stand in a reply (OMG's Trading Object Service: the operations query, list_offers
-- and list_proxies, and next_n of the interfaces OfferIterator and OfferIdIterator).
use Rattle.std.specs.Prelude.{◌≡◌, ℕ, ◌+◌, ◌≤◌, Bool, true, false, if◌then◌else◌, List, [], ◌∷◌, ◌++◌, length, take}
use Rattle.std.specs.Prelude.{drop}
use Rattle.td_cdr.specs.Format.{Piece}
use Rattle.td_cdr.specs.Writing.{Draft}
use Rattle.td_typecode.specs.Formats.{is_nonempty}
use Rattle.td_iter.specs.declared.limits.TheConstants.{LARGEST_MESSAGE}

-- k is the greatest number of which this holds, up to n and up to all
pub record IsGreatest (Holds : ℕ → Type 0) (n all k : ℕ) : Type 0 where
  pub asked : k ≤ n
  pub there : k ≤ all
  pub holds : Holds k
  pub greatest : (j : ℕ) → j ≤ n → j ≤ all → Holds j → j ≤ k

-- a result that has these items, and tells whether some are left behind them
abbrev pub BatchHead : Type 0 → Type 0
BatchHead X = List X → Bool → Piece

module _ {X : Type 0} (head : List X → Bool → Piece) (left : List X) where
  -- the result that has the first k of what is left
  abbrev pub batch : ℕ → Piece
  batch k = head (take k left) (is_nonempty (drop k left))

  -- behind what a draft holds, its message has a size field of at most 16 MiB
  abbrev pub FitsMessage : Draft → ℕ → Type 0
  FitsMessage draft k = length draft.bytes + length (batch k draft.order (length draft.bytes))
      ≤ LARGEST_MESSAGE

  -- the batch for n items has the first k: it is the longest that fits
  abbrev pub IsBatch : Draft → ℕ → ℕ → Type 0
  IsBatch draft n k = IsGreatest (FitsMessage draft) n (length left) k

  -- the batch for n items was written: the first k
  pub record PutsBatch (n : ℕ) (old new : Draft) (k : ℕ) : Type 0 where
    pub is_batch : IsBatch old n k
    pub bytes : new.bytes ≡ old.bytes ++ batch k old.order (length old.bytes)

  -- The batch for n items was written, these are left, and more tells whether there are any
  pub record GivesBatch (n : ℕ) (rest : List X) (old new : Draft) (more : Bool) : Type 0 where
    pub count : ℕ
    pub puts : PutsBatch n old new count
    pub rest_is : rest ≡ drop count left
    pub more_is : more ≡ is_nonempty rest

-- Whether the batch for n items has all that is left: it was written then, and else nothing was.
abbrev pub PutsWhole : {X : Type 0} → (List X → Bool → Piece) → List X → (n : ℕ) → (old new : Draft)
    → Bool → Type 0
PutsWhole head left n old new true = PutsBatch head left n old new (length left)
PutsWhole head left n old new false = (new.bytes ≡ old.bytes)
    × (IsBatch head left old n (length left) → ⊥)

-- the same, where nothing is left behind it
abbrev pub GivesWhole : {X : Type 0} → (List X → Bool → Piece) → List X → (n : ℕ) → (rest : List X)
    → (old new : Draft) → Bool → Type 0
GivesWhole head left n rest old new whole =
    PutsWhole head left n old new whole × (rest ≡ (if whole then [] else left))

-- Batches one after the other, each for any number of items and in any reply, and what is left behind the last
pub data Batches {X : Type 0} : List X → List (List X) → List X → Type 0 where
  ended : {left : List X} → Batches left [] left
  given : {left rest : List X} {batches : List (List X)} (head : List X → Bool → Piece)
      (draft : Draft) (n k : ℕ)
      → IsBatch head left draft n k → Batches (drop k left) batches rest
      → Batches left (take k left ∷ batches) rest

-- one list after another
abbrev pub join_lists : {X : Type 0} → List (List X) → List X
join_lists [] = []
join_lists (xs ∷ xss) = xs ++ join_lists xss
