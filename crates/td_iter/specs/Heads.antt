-- What a reply holds beside its items: the iterator's reference, nil where nothing is left, and the limits; or
-- whether some are left (OMG's Trading Object Service, the results of query, list_offers, list_proxies and next_n).
use Rattle.std.specs.Prelude.{◌≡◌, ℕ, ◌≤◌, Bool, true, false, List, [], codes, length}
use Rattle.std.specs.List.{AllByRecursion}
use Rattle.td_cdr.specs.declared.order.Order.{Order}
use Rattle.td_cdr.specs.declared.order.Order.TheVariants.{Big}
use Rattle.td_cdr.specs.Format.{Piece}
use Rattle.td_typecode.specs.declared.reference.Ior.{Ior}
use Rattle.td_typecode.specs.References.{reference}
use Rattle.td_value.specs.declared.structures.Offer.{Offer}
use Rattle.td_value.specs.Structures.{offer}
use Rattle.td_ops.specs.declared.outcome.Reply.TheVariants.{Found, Ids, Batch, IdBatch}
use Rattle.td_ops.specs.Shapes.{reply_piece}
use Rattle.td_iter.specs.Filling.{first_piece}

-- the nil reference
abbrev pub nil : Ior
nil = record { id = []; profiles = [] }

-- nil where nothing is left
abbrev pub given_or_nil : Ior → Bool → Ior
given_or_nil iterator true = iterator
given_or_nil iterator false = nil

-- items behind their number, and the reference of an iterator for the rest
abbrev pub items_found : {X : Type 0} → (X → Piece) → Ior → List X → Bool → Piece
items_found write iterator = first_piece write
    (λ more. reference.format.writes (given_or_nil iterator more))

-- the results of query, of list_offers and list_proxies, and of next_n over offers and over ids
abbrev pub offers_found : Ior → List (List ℕ) → List Offer → Bool → Piece
offers_found iterator limits offers more = reply_piece
    (Found offers (given_or_nil iterator more) limits)

abbrev pub ids_found : Ior → List (List ℕ) → Bool → Piece
ids_found iterator ids more = reply_piece (Ids ids (given_or_nil iterator more))

abbrev pub next_offers : List Offer → Bool → Piece
next_offers offers more = reply_piece (Batch more offers)

abbrev pub next_ids : List (List ℕ) → Bool → Piece
next_ids ids more = reply_piece (IdBatch more ids)

-- ---- what may be handed in

-- an item of at most 12 MiB, wherever it is written
abbrev pub IsShort : {X : Type 0} → (X → Piece) → X → Type 0
IsShort write x = (order : Order) (place : ℕ) → length (write x order place) ≤ 12582912

abbrev pub AreShort : {X : Type 0} → (X → Piece) → List X → Type 0
AreShort write xs = AllByRecursion (IsShort write) xs

abbrev pub AreSmallOffers : List Offer → Type 0
AreSmallOffers offers = AreShort offer.format.writes offers

-- an id of at most 256 bytes
abbrev pub AreSmallIds : List (List ℕ) → Type 0
AreSmallIds ids = AllByRecursion (λ id. length id ≤ 256) ids

-- a reference of at most 4,096 bytes, written big-endian from place 0
abbrev pub IsSmallReference : Ior → Type 0
IsSmallReference iterator = length (reference.format.writes iterator Big 0) ≤ 4096

-- the policies that may have limited a query
pub data IsLimit (name : List ℕ) : Type 0 where
  hop_count : name ≡ codes "hop_count" → IsLimit name
  link_follow_rule : name ≡ codes "link_follow_rule" → IsLimit name
  match_card : name ≡ codes "match_card" → IsLimit name
  return_card : name ≡ codes "return_card" → IsLimit name
  search_card : name ≡ codes "search_card" → IsLimit name

-- at most as many as there are
pub record AreLimits (limits : List (List ℕ)) : Type 0 where
  pub few : length limits ≤ 5
  pub each : AllByRecursion IsLimit limits
