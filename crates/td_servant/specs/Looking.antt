-- What a look comes to. Of the ids that list_offers and list_proxies list the first batch stands in the result,
-- and the connection keeps the others for an iterator (OMG's Trading Object Service, interfaces Admin and
-- OfferIdIterator).
use Rattle.std.specs.Prelude.{◌≡◌, ℕ, ◌++◌, if◌then◌else◌, List, length, take, drop, min, Option, None, Some}
use Rattle.td_cdr.specs.Marks.{Marks}
use Rattle.td_cdr.specs.Writing.{Draft}
use Rattle.td_typecode.specs.Formats.{is_nonempty}
use Rattle.td_iter.specs.Batches.{IsBatch}
use Rattle.td_iter.specs.Desks.{Live, with_added}
use Rattle.td_iter.specs.Heads.{given_or_nil, ids_found}
use Rattle.td_iter.specs.declared.item.Item.TheVariants.{Ids}
use Rattle.td_objects.specs.References.{iterator_reference}
use Rattle.td_ops.specs.Outcomes.{outcome_piece}
use Rattle.td_ops.specs.declared.call.Look.{Look}
use Rattle.td_ops.specs.declared.call.Look.TheVariants as look
use Rattle.td_ops.specs.declared.outcome.Outcome.{Outcome}
use Rattle.td_ops.specs.declared.outcome.Outcome.TheVariants.{Done}
use Rattle.td_ops.specs.declared.outcome.Reply.TheVariants as reply
use Rattle.td_register.specs.declared.history.Accepted.{Accepted}
use Rattle.td_trader.specs.Worlds.{LooksAtTrader, View, name_at}
use Rattle.td_walk.specs.declared.trace.Address.{Address}
use Rattle.td_servant.specs.Answers.{HasBody}
use Rattle.td_servant.specs.declared.answer.ReplyBody.{ReplyBody}
use Rattle.td_servant.specs.declared.entry.Entry.{Entry}
use Rattle.td_servant.specs.declared.entry.Entry.TheVariants.{Point}

-- the ids in a result that lists them
abbrev pub ids_in : Outcome → Option (List (List ℕ))
ids_in (Done (reply.Ids ids iterator)) = Some ids
ids_in other = None

-- how many ids a list is asked for
abbrev pub how_many : Look → ℕ
how_many (look.ListOffers n) = n
how_many (look.ListProxies n) = n
how_many other = 0

-- the result that has the first count of the ids; the iterator's reference is nil where nothing is left behind them
abbrev pub first_ids : Address → (name : List ℕ) → (number : ℕ) → List (List ℕ) → (count : ℕ)
    → Outcome
first_ids home name number ids count =
    Done (reply.Ids (take count ids)
    (given_or_nil (iterator_reference home name number) (is_nonempty (drop count ids))))

-- the connection keeps these for the trader's iterator of the next number, where there are any
abbrev pub kept_for : (name : List ℕ) → (left : List (List ℕ)) → Live → Live
kept_for name left d = if is_nonempty left then with_added name (Ids left) d else d

module _ (home : Address) (name : List ℕ) (n : ℕ) where
  -- the first batch for n of the ids was written, and the others are kept
  pub record PutsFirst (ids : List (List ℕ)) (old new : Draft) (d e : Live) : Type 0 where
    pub count : ℕ
    pub batch : IsBatch (ids_found (iterator_reference home name d.1)) ids old n count
    pub bytes : new.bytes ≡
        old.bytes ++ outcome_piece (first_ids home name d.1 ids count) old.order (length old.bytes)
    pub kept : e ≡ kept_for name (drop count ids) d

  -- This is the outcome of a batch of the ids, and the others are kept.
  pub record IsFirstIds (ids : List (List ℕ)) (old : Draft) (d : Live) (o : Outcome)
      (e : Live) : Type 0 where
    pub count : ℕ
    pub batch : IsBatch (ids_found (iterator_reference home name d.1)) ids old n count
    pub outcome : o ≡ first_ids home name d.1 ids count
    pub kept : e ≡ kept_for name (drop count ids) d

  -- a list of ids is answered with the first batch for n of them, and any other outcome as it is
  abbrev pub CutsList : Option (List (List ℕ)) → (found : Outcome) → Draft → Live → Outcome → Live
      → Type 0
  CutsList (Some ids) found old d o e = IsFirstIds ids old d o e
  CutsList None found old d o e = (o ≡ found) × (e ≡ d)

  -- the same, with the body of its reply
  pub record Cuts (found : Outcome) (old : Draft) (d : Live) (b : ReplyBody) (new : Draft)
      (e : Live) : Type 0 where
    pub outcome : Outcome
    pub cut : CutsList (ids_in found) found old d outcome e
    pub content : HasBody outcome b old new

module _ (others : List Accepted → Type 0) (later : Marks → Marks → Type 0) (home : Address) where
  -- The outcome is the look's at what is seen of the trader then, a list by the lesser of how many are asked for and
  -- the trader's max_list. Its point is how many changes had come before.
  pub record LookComes (w : List View) (d : Live) (k : ℕ) (l : Look) (draft : Draft) (o : Outcome)
      (e : Entry) (u : List View) (after : Live) : Type 0 where
    pub found : Outcome
    pub max_list : ℕ
    pub looks : LooksAtTrader others later w k l (found, max_list) u
    pub cuts : CutsList home (name_at u k) (min (how_many l) max_list)
        (ids_in found) found draft d o after
    pub noted : e ≡ Point k (length looks.seen.history)
