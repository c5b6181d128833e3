-- What a query is answered with: each offer that the walk gives has the properties that are asked for, the first batch
-- of them stands in the result, and the connection keeps the others for an iterator (OMG's Trading Object Service,
-- interface Lookup, query, and interface OfferIterator).
use Rattle.std.specs.Prelude.{◌≡◌, ℕ, ◌<◌, if◌then◌else◌, List, length, map, take, drop, min}
use Rattle.td_cdr.specs.Marks.{Marks}
use Rattle.td_cdr.specs.Writing.{Draft}
use Rattle.td_typecode.specs.Formats.{is_nonempty}
use Rattle.td_fed.specs.Visiting.{Walks, course}
use Rattle.td_iter.specs.Batches.{IsBatch}
use Rattle.td_iter.specs.Desks.{Live, with_added}
use Rattle.td_iter.specs.Heads.{given_or_nil, offers_found}
use Rattle.td_iter.specs.declared.item.Item.TheVariants.{Offers}
use Rattle.td_objects.specs.References.{offer_iterator}
use Rattle.td_lookup.specs.Choosing.{chosen}
use Rattle.td_lookup.specs.Scenes.{Scene}
use Rattle.td_ops.specs.declared.call.Query.{Query}
use Rattle.td_ops.specs.declared.outcome.Outcome.{Outcome}
use Rattle.td_ops.specs.declared.outcome.Outcome.TheVariants.{Done}
use Rattle.td_ops.specs.declared.outcome.Reply.TheVariants as reply
use Rattle.td_register.specs.declared.history.Accepted.{Accepted}
use Rattle.td_servant.specs.declared.entry.Entry.{Entry}
use Rattle.td_servant.specs.declared.entry.Entry.TheVariants.{Walk}
use Rattle.td_trader.specs.Worlds.{name_at}
use Rattle.td_value.specs.declared.structures.Offer.{Offer}
use Rattle.td_walk.specs.declared.trace.Address.{Address}
use Rattle.td_walk.specs.declared.trace.TraceItem.{TraceItem}
use Rattle.td_walk.specs.declared.trace.Visit.{Visit}
use Rattle.td_walk.specs.declared.trace.Visit.TheVariants as visit
use Rattle.td_query_walk.specs.Faults.{CountsFaults}

-- the result that has the first count of the offers; the iterator's reference is nil where nothing is left behind them
abbrev pub first_offers : Address → (name : List ℕ) → (number : ℕ) → (limits : List (List ℕ))
    → List Offer → (count : ℕ) → Outcome
first_offers home name number limits offers count =
    Done (reply.Found (take count offers)
    (given_or_nil (offer_iterator home name number) (is_nonempty (drop count offers))) limits)

-- the connection keeps these for the trader's iterator of the next number, where there are any
abbrev pub offers_kept : (name : List ℕ) → (left : List Offer) → Live → Live
offers_kept name left d = if is_nonempty left then with_added name (Offers left) d else d

module _ (home : Address) (name : List ℕ) (n : ℕ) where
  -- This is the outcome of a batch for n of the offers, and the others are kept. Where n is at least 1 and there are
  -- offers, the batch isn't empty.
  pub record IsFirstOffers (limits : List (List ℕ)) (offers : List Offer) (old : Draft) (d : Live)
      (o : Outcome) (e : Live) : Type 0 where
    pub count : ℕ
    pub batch : IsBatch (offers_found (offer_iterator home name d.1) limits) offers old n count
    pub outcome : o ≡ first_offers home name d.1 limits offers count
    pub kept : e ≡ offers_kept name (drop count offers) d
    pub some : 0 < n → 0 < length offers → 0 < count

-- what a visit is answered with: a refusal as it is, offers in batches for the lesser of how_many and max_list
abbrev pub AnswersVisit : Address → (name : List ℕ) → Query → Visit → Draft → Live → Outcome → Live
    → Type 0
AnswersVisit home name q (visit.Refused r) draft d o e = (o ≡ r) × (e ≡ d)
AnswersVisit home name q (visit.Answered a max_list) draft d o e =
    IsFirstOffers home name (min q.how_many max_list) a.limits (map (chosen q.desired) a.offers)
    draft d o e

module _ (others : List Accepted → Type 0) (later : Marks → Marks → Type 0) (home : Address) where
  -- The trace is a walk from the trader on, and the answer is what the walk comes to. At each call of a peer that
  -- failed the count of faults rose.
  pub record QueryComes (s : Scene) (k : ℕ) (q : Query) (draft : Draft) (o : Outcome) (e : Entry)
      (t : Scene) : Type 0
    where
      pub items : List TraceItem
      pub visit : Visit
      pub walk : Walks others later home (course s.world s.words s.peers.calls) k q items visit
          (course t.world t.words t.peers.calls)
      pub faults : CountsFaults s.peers.calls t.peers.calls s.peers.faults t.peers.faults
      pub answer : AnswersVisit home (name_at t.world k) q visit draft s.desk o t.desk
      pub noted : e ≡ Walk (record { items = items })
