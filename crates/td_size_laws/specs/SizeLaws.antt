-- What holds of the offers that a walk gives (OMG's Trading Object Service, interface Lookup, query).
use Rattle.std.specs.Prelude.{◌≡◌, ◌⊎◌, ℕ, List, [], None}
use Rattle.std.specs.List.{AllByRecursion}
use Rattle.td_cdr.specs.Marks.{Marks}
use Rattle.td_fed.specs.Visiting.{Walks}
use Rattle.td_iter.specs.Heads.{IsShort}
use Rattle.td_ops.specs.declared.call.Query.{Query}
use Rattle.td_register.specs.declared.history.Accepted.{Accepted}
use Rattle.td_trader.specs.Queries.{desired_cause}
use Rattle.td_trader.specs.Worlds.{View}
use Rattle.td_value.specs.Structures.{offer}
use Rattle.td_value.specs.declared.structures.Offer.{Offer}
use Rattle.td_walk.specs.declared.answer.SubAnswer.{SubAnswer}
use Rattle.td_walk.specs.declared.trace.Address.{Address}
use Rattle.td_walk.specs.declared.trace.TraceItem.{TraceItem}
use Rattle.td_walk.specs.declared.trace.Visit.TheVariants as visit
use Rattle.td_query_walk.specs.Walks.{WalkState}
use Rattle.td_size_laws.specs.Bounds.{IsBounded}

-- an offer with such bounds is short enough for a batch
abbrev pub BoundedOffersAreShort : Type 0
BoundedOffersAreShort = (o : Offer) → IsBounded o → IsShort offer.format.writes o

-- Each offer of a walk's answer has such bounds, whatever was exported and evaluated; and where the answer has offers,
-- the query names no property twice.
pub record GivesBounded (q : Query) (offers : List Offer) : Type 0 where
  pub bounded : AllByRecursion IsBounded offers
  pub named_once : (offers ≡ []) ⊎ (desired_cause q.desired ≡ None)

abbrev pub WalksGiveBoundedOffers : (others : List Accepted → Type 0)
    → (later : Marks → Marks → Type 0) → Type 0
WalksGiveBoundedOffers others later =
    (home : Address) (s u : WalkState (List View)) (k : ℕ) (q : Query) (t : List TraceItem)
    (a : SubAnswer) (max_list : ℕ)
    → Walks others later home s k q t (visit.Answered a max_list) u → GivesBounded q a.offers
