-- Traders of the examples, their calls, and what these answer. A trader's name is one letter, and `to` is the reference
-- of each name.
use Rattle.std.specs.Prelude.{◌≡◌, ℕ, List, [], ◌∷◌, map, length, codes, Option, None, Some, is_some}
use Rattle.td_cdr.specs.Marks.{add_mark}
use Rattle.td_changes.specs.Examples.{opening, printer}
use Rattle.td_typecode.specs.declared.reference.Ior.{Ior}
use Rattle.td_ior.specs.Nil.{nil}
use Rattle.td_net.specs.Worlds.{delivery_of, sent}
use Rattle.td_net.specs.declared.call.Call.{Call}
use Rattle.td_net.specs.declared.call.Stage.{Stage}
use Rattle.td_net.specs.declared.call.Stage.TheVariants.{Ended}
use Rattle.td_net.specs.declared.call.QuestionStep.{QuestionStep}
use Rattle.td_net_laws.specs.Trees.{IsTree}
use Rattle.td_ops.specs.declared.call.Change.TheVariants.{Withdraw}
use Rattle.td_ops.specs.declared.call.Query.{Query}
use Rattle.td_store.specs.declared.record.LinkRecord.{LinkRecord}
use Rattle.td_store.specs.declared.record.OfferRecord.{OfferRecord}
use Rattle.td_trader.specs.PlainTraders.{PlainTrader, after_change, new_trader}
use Rattle.td_value.specs.declared.enumerations.FollowOption.TheVariants.{Always}
use Rattle.td_value.specs.declared.structures.Offer.{Offer}
use Rattle.td_value.specs.declared.unions.SpecifiedProps.TheVariants as props
use Rattle.td_walk.specs.Passing.{card_policy, follow_policy, hop_policy, identifier_policy}
use Rattle.td_walk.specs.declared.answer.SubAnswer.{SubAnswer}
use Rattle.td_walk.specs.declared.trace.Visit.TheVariants as visit

-- the Lookups of the traders A, B, C and D, which have the numbers 0 to 3
pub record AreInside (inside : Ior → Option ℕ) (to : List ℕ → Ior) : Type 0 where
  pub a : inside (to (codes "A")) ≡ Some 0
  pub b : inside (to (codes "B")) ≡ Some 1
  pub c : inside (to (codes "C")) ≡ Some 2
  pub d : inside (to (codes "D")) ≡ Some 3

-- ---- traders

-- the object of this name
abbrev pub object : (name : List ℕ) → Ior
object name = record { id = name; profiles = [] }

-- an offer of the type Printer, of an object
abbrev pub offer_numbered : (number : ℕ) → (name : List ℕ) → OfferRecord
offer_numbered number name = record {
  number = number;
  reference = object name;
  service_type = printer;
  incarnation = 1;
  properties = [];
  proxy = None;
}

-- a link that is always followed
abbrev pub link : (to : List ℕ → Ior) → (name : List ℕ) → LinkRecord
link to name = record {
  name = name;
  target = to name;
  register = nil;
  def_pass_on = Always;
  limiting = Always;
}

-- a new trader with these offers and links, which remembers so many identifiers
abbrev pub trader : (ring : ℕ) → (name : List ℕ) → List OfferRecord → List LinkRecord → PlainTrader
trader ring name offers links =
    new_trader name (record opening { offers = offers; links = links })
    (record { ring = ring; changes = 1000000; begins = 1000000 })

-- one that remembers two, without links
abbrev pub trader_without_links : (name : List ℕ) → List OfferRecord → PlainTrader
trader_without_links name offers = trader 2 name offers []

-- with the offer of this object, and a link or two
abbrev pub trader_with_link : (to : List ℕ → Ior) → (name offer first : List ℕ) → PlainTrader
trader_with_link to name offer first = trader 2 name (offer_numbered 1 offer ∷ []) (link to first
    ∷ [])

abbrev pub linked_twice : (to : List ℕ → Ior) → (name offer first second : List ℕ) → PlainTrader
linked_twice to name offer first second =
    trader 2 name (offer_numbered 1 offer ∷ []) (link to first ∷ link to second ∷ [])

-- the trader once its offer 1 was withdrawn
abbrev pub without_first : PlainTrader → PlainTrader
without_first t = after_change t (Withdraw (codes "1"))

-- the trader once it was searched under this identifier
abbrev pub after_search : (identifier : List ℕ) → PlainTrader → PlainTrader
after_search identifier t = record t { marks = add_mark t.marks identifier 0 }

-- ---- queries

-- for so many offers of Printer, over so many hops, under this identifier
abbrev pub asks_under : (identifier : List ℕ) → (hops card : ℕ) → Query
asks_under identifier hops card = record {
  service_type = printer;
  constraint = [];
  preference = [];
  policies = hop_policy hops ∷ follow_policy Always ∷ identifier_policy identifier
      ∷ card_policy card ∷ [];
  desired = props.All;
  how_many = 1000;
}

abbrev pub asks : (hops card : ℕ) → Query
asks hops card = asks_under (codes "q") hops card

-- ---- answers

abbrev pub plain_offer : (name : List ℕ) → Offer
plain_offer name = record { reference = object name; properties = [] }

-- the offers of these objects, of which each has a letter as its name
abbrev pub found : (letters : List ℕ) → SubAnswer
found letters = record { offers = map (λ letter. plain_offer (letter ∷ [])) letters; limits = [] }

abbrev pub answer_stage : (letters : List ℕ) → Stage
answer_stage letters = Ended (visit.Answered (found letters) 100)

-- it was a repeat
abbrev pub repeat_stage : Stage
repeat_stage = Ended (visit.Answered (found []) 0)

-- ---- calls

-- A call of the Ask of call 0, which was delivered behind so many others to this trader, with what came of its
-- questions, and where it stands. A caller was handed what it ended with, or that it was lost.
abbrev pub call : (target hops card : ℕ) → (caller : Option ℕ) → (serial : ℕ) → PlainTrader
    → List QuestionStep → Stage → Call
call target hops card caller serial t steps stage = record (sent target (asks hops card) 0 caller) {
  handed = is_some caller;
  stage = stage;
  delivery = Some (delivery_of serial t);
  steps = steps;
}

-- the tree of a call over so many calls
abbrev pub HasTree : List Call → (inside : Ior → Option ℕ) → (words : List ℕ) → (c : ℕ) → SubAnswer
    → Type 0
HasTree calls inside words c a = IsTree (length calls) calls inside words c a
