-- Worked examples: the requests of a query, by the replies that its connection gives.
use Rattle.std.specs.Prelude.{◌≡◌, ℕ, true, false, List, [], ◌∷◌, ◌++◌, codes, drop, Some}
use Rattle.td_typecode.specs.declared.reference.Ior.{Ior}
use Rattle.td_ior.specs.declared.profile.Iiop.{Iiop}
use Rattle.td_ior.specs.Nil.{is_nil, nil}
use Rattle.td_ior.specs.Profiles.{iiop_of}
use Rattle.td_ops.specs.declared.call.Call.{Call}
use Rattle.td_ops.specs.declared.outcome.Answered.TheVariants.{Done, User}
use Rattle.td_ops.specs.declared.outcome.Reply.TheVariants.{Batch, Found, Nothing}
use Rattle.td_value.specs.declared.structures.Offer.{Offer}
use Rattle.td_call.specs.Calling.{first_id}
use Rattle.td_call.specs.Readings.{outcome_in_reply}
use Rattle.td_call.specs.Replies.{content, reply_value}
use Rattle.td_call.specs.Requests.{request_of}
use Rattle.td_remote_query.specs.Querying.{query_answer, asked_first, asked_requests, elsewhere, is_at}
use Rattle.td_remote_query.specs.Querying.{iterator_requests}
use Rattle.td_remote_query.specs.Draining.{destroy, gave, may_join, next_batch}

-- ---- which profiles name the trader's place

-- of IIOP 1.0
abbrev pub profile_at : (host : List ℕ) → (port : ℕ) → (key : List ℕ) → Iiop
profile_at host port key =
    record { host = host; port = port; key = key; minor = 0; components = [] }

pub record WorkedPlaces : Type 0 where
  pub key : is_at (profile_at (codes "h") 1 (codes "A")) (profile_at (codes "h") 1 (codes "B"))
      ≡ true
  pub port : is_at (profile_at (codes "h") 1 (codes "A")) (profile_at (codes "h") 2 (codes "A"))
      ≡ false
  pub host : is_at (profile_at (codes "h") 1 (codes "A")) (profile_at (codes "i") 1 (codes "A"))
      ≡ false
  -- a name of the same host that is written otherwise
  pub bytes : is_at (profile_at (codes "h") 1 (codes "A")) (profile_at (codes "H") 1 (codes "A"))
      ≡ false

-- ---- a query of the trader with this profile, whose reply names a nil iterator, or is an exception

module _ (trader : Iiop) (c : Call) (given : List ℕ) (size : ℕ) where
  abbrev pub WorkedNil : Type 0
  WorkedNil =
      reply_value (outcome_in_reply c) first_id given ≡ content (Done (Found [] nil [])) size
      → asked_requests trader c given ≡ request_of 1 trader c

  abbrev pub WorkedException : (id : List ℕ) → Type 0
  WorkedException id =
      reply_value (outcome_in_reply c) first_id given ≡ content (User id) size
      → asked_requests trader c given
      ≡ request_of 1 trader c

-- ---- one whose iterator gives an offer with TRUE, and then none with FALSE

pub record GivesBatches (trader : Iiop) (c : Call) (given : List ℕ) (p : Iiop) (iterator : Ior)
    (o : Offer) : Type 0 where
  pub reply : ℕ
  pub found : reply_value (outcome_in_reply c) 1 given ≡ content (Done (Found [] iterator [])) reply
  pub some : is_nil iterator ≡ false
  pub profile : iiop_of iterator ≡ Some p
  pub here : is_at trader p ≡ true
  pub batch : ℕ
  pub first : reply_value (outcome_in_reply next_batch) 2 (drop reply given)
      ≡ content (Done (Batch true (o ∷ []))) batch
  pub small : may_join 0 (o ∷ []) ≡ true
  pub end : ℕ
  pub last : reply_value (outcome_in_reply next_batch) 3 (drop batch (drop reply given))
      ≡ content (Done (Batch false [])) end

abbrev pub WorkedBatches : (trader : Iiop) → Call → (given : List ℕ) → Iiop → Ior → Offer → Type 0
WorkedBatches trader c given p iterator o =
    GivesBatches trader c given p iterator o
    → asked_requests trader c given
    ≡ request_of 1 trader c ++ (request_of 2 p next_batch ++ (request_of 3 p next_batch
    ++ request_of 4 p destroy))

-- ---- one whose iterator is elsewhere, and gives an offer there with FALSE

-- the query's connection gives an offer and the iterator
pub record FindsElsewhere (trader : Iiop) (c : Call) (given : List ℕ) (p : Iiop) (iterator : Ior)
    (a : Offer) : Type 0 where
  pub reply : ℕ
  pub found : reply_value (outcome_in_reply c) 1 given ≡ content (Done (Found (a ∷ []) iterator []))
      reply
  pub some : is_nil iterator ≡ false
  pub profile : iiop_of iterator ≡ Some p
  pub other : is_at trader p ≡ false
  pub small : may_join 0 (a ∷ []) ≡ true

-- the next one gives the other offer, and that the iterator is destroyed
pub record GivesLast (next : List ℕ) (b : Offer) : Type 0 where
  pub batch : ℕ
  pub last : reply_value (outcome_in_reply next_batch) 2 next
      ≡ content (Done (Batch false (b ∷ []))) batch
  pub small : may_join 1 (b ∷ []) ≡ true
  pub end : ℕ
  pub destroyed : reply_value (outcome_in_reply destroy) 3 (drop batch next)
      ≡ content (Done Nothing) end

-- Over the query's connection the query alone is written, and over the other one the iterator's requests, whose ids go
-- on from 2.
abbrev pub WorkedElsewhere : (trader : Iiop) → Call → (given next : List ℕ) → Iiop → Ior
    → (a b : Offer) → Type 0
WorkedElsewhere trader c given next p iterator a b =
    FindsElsewhere trader c given p iterator a → GivesLast next b
    → (asked_first trader c given ≡ elsewhere p (record { offers = a ∷ []; limits = [] }))
    × (query_answer trader c given next ≡ gave (record { offers = a ∷ b ∷ []; limits = [] }))
    × (asked_requests trader c given ≡ request_of 1 trader c)
    × (iterator_requests p 1 next ≡ request_of 2 p next_batch ++ request_of 3 p destroy)
