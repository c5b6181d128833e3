-- What one call of an iterator does to what was gathered.
use Rattle.std.specs.Prelude.{◌≡◌, ◌⊎◌, ℕ, suc, ◌+◌, ◌*◌, ◌<◌, ◌≤◌, ◌^◌, ◌&&◌, Bool, true, false, List, []}
use Rattle.std.specs.Prelude.{◌++◌, length, Option, Some, None, IfSome, Result, Ok, Err, ⊤}
use Rattle.td_ior.specs.declared.profile.Iiop.{Iiop}
use Rattle.td_ops.specs.declared.outcome.Answered.{Answered}
use Rattle.td_out.specs.Causes.{Rose}
use Rattle.td_value.specs.declared.structures.Offer.{Offer}
use Rattle.td_walk.specs.declared.fault.PeerFault.{PeerFault}
use Rattle.td_walk.specs.declared.fault.PeerFault.TheVariants as fault
use Rattle.td_wire.specs.Connections.{Traffic, left_of, with_left, wrote}
use Rattle.td_remote_query.specs.Draining.{DrainEnd, gave, raised, unclear, cut, behind, drain_batches}
use Rattle.td_remote_query.specs.Draining.{answer_ends, batch_ends, batch_length}
use Rattle.td_remote_query.specs.Draining.{after_destroy, batches_asked, destroy, goes_on, has_next, may_join}
use Rattle.td_remote_query.specs.Draining.{most_offers}
use Rattle.td_remote_query.specs.Draining.{next_batch}
use Rattle.td_call.specs.Readings.{outcome_in_reply}
use Rattle.td_call.specs.Replies.{reply_value}
use Rattle.td_call.specs.Requests.{request_of}
use Rattle.td_remote_query.specs.declared.draining.Turn.{Turn}
use Rattle.td_remote_query.specs.declared.draining.Turn.TheVariants.{More, Last, Refused}

-- ---- what was joined to what was gathered

-- more was gathered, and no more than may be
pub record Grew (old new offers : List Offer) : Type 0 where
  pub is : new ≡ old ++ offers
  pub some : length old < length new
  pub most : length new ≤ most_offers

abbrev pub Joins : (more : Bool) → (offers old new : List Offer) → Result Turn PeerFault → Type 0
Joins more offers old new (Ok More) =
    ((last next : DrainEnd (List Offer)) → batch_ends (length old) more offers last next
    ≡ behind offers next)
    × (has_next more offers && may_join (length old) offers ≡ true) × Grew old new offers
Joins more offers old new (Ok Last) =
    ((last next : DrainEnd (List Offer)) → batch_ends (length old) more offers last next
    ≡ behind offers last)
    × (has_next more offers && may_join (length old) offers ≡ false) × (new ≡ old ++ offers)
Joins more offers old new (Ok (Refused answer)) = ⊥
Joins more offers old new (Err fault.Grammar) =
    (last next : DrainEnd (List Offer)) → batch_ends (length old) more offers last next ≡ unclear
Joins more offers old new (Err fault.Memory) = ⊤
Joins more offers old new (Err fault.Wire) = ⊥
Joins more offers old new (Err fault.Exception) = ⊥

abbrev pub TakesBatch : Answered → (old new : List Offer) → Result Turn PeerFault → Type 0
TakesBatch answer old new (Ok More) =
    (offers : List Offer) × Grew old new offers × (batch_length answer ≡ length offers)
    × (goes_on (length old) answer ≡ true)
    × ((last next : DrainEnd (List Offer)) → answer_ends (length old) answer last next
    ≡ behind offers next)
TakesBatch answer old new (Ok Last) =
    (offers : List Offer) × (new ≡ old ++ offers) × (goes_on (length old) answer ≡ false)
    × ((last next : DrainEnd (List Offer)) → answer_ends (length old) answer last next
    ≡ behind offers last)
TakesBatch answer old new (Ok (Refused other)) =
    (last next : DrainEnd (List Offer)) → answer_ends (length old) answer last next ≡ raised other
TakesBatch answer old new (Err fault.Grammar) =
    (last next : DrainEnd (List Offer)) → answer_ends (length old) answer last next ≡ unclear
TakesBatch answer old new (Err fault.Memory) = ⊤
TakesBatch answer old new (Err fault.Wire) = ⊥
TakesBatch answer old new (Err fault.Exception) = ⊥

-- ---- the calls over the connection

-- the most bytes that come with the replies to requests up to this id
abbrev pub bytes_limit : ℕ → ℕ
bytes_limit id = id * 2 ^ 27

-- what a batch makes of a draining, whatever the most batches are
pub record DrainsBatch (profile : Iiop) (id : ℕ) (held held_after : List ℕ) (t : Traffic)
    (after : Option Traffic) (old new offers : List Offer) : Type 0 where
  pub rest : List ℕ
  pub wire : after ≡ Some (with_left rest (wrote (request_of id profile next_batch) t))
  pub left : left_of (with_left rest (wrote (request_of id profile next_batch) t)) ≡ rest
  pub is : (batches : ℕ) → drain_batches (suc batches) id (length old) (held ++ left_of t)
      ≡ behind offers (drain_batches batches (id + 1) (length new) (held_after ++ rest))
  pub asks : (batches : ℕ) → batches_asked (suc batches) id (length old) (held ++ left_of t)
      ≡ suc (batches_asked batches (id + 1) (length new) (held_after ++ rest))

pub record DrainFinishes (profile : Iiop) (id : ℕ) (held held_after : List ℕ) (t : Traffic)
    (after : Option Traffic) (old offers : List Offer) : Type 0 where
  pub rest : List ℕ
  pub wire : after ≡ Some (with_left rest (wrote (request_of id profile next_batch) t))
  pub left : left_of (with_left rest (wrote (request_of id profile next_batch) t)) ≡ rest
  pub is : (batches : ℕ) → drain_batches (suc batches) id (length old) (held ++ left_of t)
      ≡ behind offers
      (after_destroy (reply_value (outcome_in_reply destroy) (id + 1) (held_after ++ rest)))
  pub asks : (batches : ℕ) → batches_asked (suc batches) id (length old) (held ++ left_of t) ≡ 1

abbrev pub DrainsInTurn : (profile : Iiop) → (id : ℕ) → (held held_after : List ℕ)
    → (before after : Option Traffic)
    → (f0 f1 : ℕ) → (old new : List Offer) → Result Turn PeerFault → Type 0
DrainsInTurn profile id held held_after before after f0 f1 old new (Ok More) =
    (offers : List Offer) × Grew old new offers
    × IfSome before (λ t. DrainsBatch profile id held held_after t after old new offers)
DrainsInTurn profile id held held_after before after f0 f1 old new (Ok Last) =
    (offers : List Offer) × (new ≡ old ++ offers)
    × IfSome before (λ t. DrainFinishes profile id held held_after t after old offers)
DrainsInTurn profile id held held_after before after f0 f1 old new (Ok (Refused answer)) =
    IfSome before (λ t. (batches : ℕ) → drain_batches (suc batches) id (length old)
    (held ++ left_of t)
    ≡ raised answer)
DrainsInTurn profile id held held_after before after f0 f1 old new (Err fault.Wire) =
    Rose f0 f1
    ⊎ IfSome before (λ t. (batches : ℕ) → drain_batches (suc batches) id (length old)
    (held ++ left_of t)
    ≡ cut)
DrainsInTurn profile id held held_after before after f0 f1 old new (Err fault.Grammar) =
    IfSome before (λ t. (batches : ℕ) → drain_batches (suc batches) id (length old)
    (held ++ left_of t)
    ≡ unclear)
DrainsInTurn profile id held held_after before after f0 f1 old new (Err fault.Exception) = ⊥
DrainsInTurn profile id held held_after before after f0 f1 old new (Err fault.Memory) = ⊤

-- an answer to destroy
abbrev pub AfterDestroy : DrainEnd (List Offer) → Result (Option Answered) PeerFault → Type 0
AfterDestroy ending (Ok None) = ending ≡ gave []
AfterDestroy ending (Ok (Some answer)) = ending ≡ raised answer
AfterDestroy ending (Err fault.Grammar) = ending ≡ unclear
AfterDestroy ending (Err fault.Wire) = ⊥
AfterDestroy ending (Err fault.Exception) = ⊥
AfterDestroy ending (Err fault.Memory) = ⊥

-- the reply to destroy
abbrev pub DestroysRemote : (profile : Iiop) → (id : ℕ) → (held : List ℕ)
    → (before after : Option Traffic) → (f0 f1 : ℕ) → Result (Option Answered) PeerFault → Type 0
DestroysRemote profile id held before after f0 f1 (Ok None) =
    IfSome before (λ t. (rest : List ℕ)
    × (after ≡ Some (with_left rest (wrote (request_of id profile destroy) t)))
    × (after_destroy (reply_value (outcome_in_reply destroy) id (held ++ left_of t)) ≡ gave []))
DestroysRemote profile id held before after f0 f1 (Ok (Some answer)) =
    IfSome before
    (λ t. after_destroy (reply_value (outcome_in_reply destroy) id (held ++ left_of t))
    ≡ raised answer)
DestroysRemote profile id held before after f0 f1 (Err fault.Wire) =
    Rose f0 f1
    ⊎ IfSome before
    (λ t. after_destroy (reply_value (outcome_in_reply destroy) id (held ++ left_of t))
    ≡ cut)
DestroysRemote profile id held before after f0 f1 (Err fault.Grammar) =
    IfSome before
    (λ t. after_destroy (reply_value (outcome_in_reply destroy) id (held ++ left_of t))
    ≡ unclear)
DestroysRemote profile id held before after f0 f1 (Err fault.Exception) = ⊥
DestroysRemote profile id held before after f0 f1 (Err fault.Memory) = ⊤

-- what of an iterator is drained: which offers are gathered in the end, or the exception of a call
abbrev pub Drains : (id batches : ℕ) → (held : List ℕ) → (before : Option Traffic) → (f0 f1 : ℕ)
    → (old new : List Offer) → Result (Option Answered) PeerFault → Type 0
Drains id batches held before f0 f1 old new (Ok None) =
    IfSome before (λ t. (offers : List Offer) × (new ≡ old ++ offers)
    × (drain_batches batches id (length old) (held ++ left_of t) ≡ gave offers))
Drains id batches held before f0 f1 old new (Ok (Some answer)) =
    IfSome before (λ t. drain_batches batches id (length old) (held ++ left_of t) ≡ raised answer)
Drains id batches held before f0 f1 old new (Err fault.Wire) =
    Rose f0 f1 ⊎ IfSome before (λ t. drain_batches batches id (length old) (held ++ left_of t)
    ≡ cut)
Drains id batches held before f0 f1 old new (Err fault.Grammar) =
    IfSome before (λ t. drain_batches batches id (length old) (held ++ left_of t) ≡ unclear)
Drains id batches held before f0 f1 old new (Err fault.Exception) = ⊥
Drains id batches held before f0 f1 old new (Err fault.Memory) = ⊤
