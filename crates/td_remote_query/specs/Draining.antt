-- What comes of an iterator's calls over a connection (OMG's Trading Object Service, interface OfferIterator): it is
-- asked for batches until one comes with FALSE, and is then destroyed.
use Rattle.std.specs.Prelude.{ℕ, zero, suc, ◌+◌, ◌&&◌, nat_le, Bool, true, false, if◌then◌else◌, List, [], ◌∷◌, ◌++◌}
use Rattle.std.specs.Prelude.{length, drop, ⊤}
use Rattle.std.specs.List.{AllByRecursion, list_all}
use Rattle.td_cdr.specs.declared.order.Order.TheVariants.{Big}
use Rattle.td_ior.specs.declared.profile.Iiop.{Iiop}
use Rattle.td_ops.specs.declared.call.Call.{Call}
use Rattle.td_ops.specs.declared.call.Call.TheVariants.{Iter}
use Rattle.td_ops.specs.declared.call.IterCall.TheVariants.{NextN, Destroy}
use Rattle.td_ops.specs.declared.outcome.Answered.{Answered}
use Rattle.td_ops.specs.declared.outcome.Answered.TheVariants.{Done, User, System}
use Rattle.td_ops.specs.declared.outcome.Reply.{Reply}
use Rattle.td_ops.specs.declared.outcome.Reply.TheVariants.{Batch, Found, Nothing}
use Rattle.td_value.specs.declared.structures.Offer.{Offer}
use Rattle.td_value.specs.Structures.{offer}
use Rattle.td_walk.specs.Peering.{IsSmallOffer}
use Rattle.td_call.specs.Readings.{outcome_in_reply}
use Rattle.td_call.specs.Replies.{ReplyResult, content, strange, short, reply_value}
use Rattle.td_call.specs.Requests.{request_of}

-- the number of offers that a batch is asked for
abbrev pub batch_size : ℕ
batch_size = 1000

abbrev pub next_batch : Call
next_batch = Iter (NextN batch_size)

abbrev pub destroy : Call
destroy = Iter Destroy

-- ---- what may be gathered

-- the most offers of one query
abbrev pub most_offers : ℕ
most_offers = 1000000

-- of at most 6 MiB, written big-endian from place 0
abbrev pub is_small : Offer → Bool
is_small o = nat_le (length (offer.format.writes o Big 0)) 6291456

-- each can be written (CORBA, chapter on General Inter-ORB Protocol, "CDR Transfer Syntax")
pub record AreWritable (offers : List Offer) : Type 0 where
  pub each : AllByRecursion offer.format.admits offers

-- it has at most 6 MiB, and can be written
pub record IsFit (o : Offer) : Type 0 where
  pub small : IsSmallOffer o
  pub writable : offer.format.admits o

abbrev pub AreFit : List Offer → Type 0
AreFit offers = AllByRecursion IsFit offers

-- the offers of a result can be written
abbrev pub HasWritable : Reply → Type 0
HasWritable (Found offers iterator limits) = AreWritable offers
HasWritable (Batch more offers) = AreWritable offers
HasWritable other = ⊤

abbrev pub TellsWritable : Answered → Type 0
TellsWritable (Done reply) = HasWritable reply
TellsWritable (User id) = ⊤
TellsWritable (System id minor completion) = ⊤

-- offers that come behind so many others
unfoldable pub may_join : (count : ℕ) → List Offer → Bool
may_join count offers = nat_le (count + length offers) most_offers && list_all is_small offers

-- ---- how it ends

pub data DrainEnd (A : Type 0) : Type 0 where
  gave : A → DrainEnd A
  -- a call was answered by an exception
  raised : Answered → DrainEnd A
  -- the bytes are outside the grammar
  unclear : DrainEnd A
  -- they end before a reply is whole
  cut : DrainEnd A

-- with these offers in front
abbrev pub behind : List Offer → DrainEnd (List Offer) → DrainEnd (List Offer)
behind offers (gave more) = gave (offers ++ more)
behind offers (raised answer) = raised answer
behind offers unclear = unclear
behind offers cut = cut

-- ---- the iterator's replies

-- an answer to destroy
abbrev pub destroy_ends : Answered → DrainEnd (List Offer)
destroy_ends (Done Nothing) = gave []
destroy_ends (Done other) = unclear
destroy_ends (User id) = raised (User id)
destroy_ends (System id minor completion) = raised (System id minor completion)

abbrev pub after_destroy : ReplyResult Answered → DrainEnd (List Offer)
after_destroy (content answer size) = destroy_ends answer
after_destroy strange = unclear
after_destroy short = cut

-- what comes behind a batch: with FALSE the iterator is destroyed, and with TRUE the next batch follows, unless this
-- one is empty
abbrev pub behind_batch : (more : Bool) → List Offer → (last next : DrainEnd (List Offer))
    → DrainEnd (List Offer)
behind_batch false offers last next = last
behind_batch true [] last next = unclear
behind_batch true (o ∷ offers) last next = next

-- a batch behind so many offers, by what follows it
abbrev pub batch_ends : (count : ℕ) → (more : Bool) → List Offer
    → (last next : DrainEnd (List Offer))
    → DrainEnd (List Offer)
batch_ends count more offers last next =
    if may_join count offers then behind offers (behind_batch more offers last next) else unclear

-- an answer to next_n
abbrev pub answer_ends : (count : ℕ) → Answered → (last next : DrainEnd (List Offer))
    → DrainEnd (List Offer)
answer_ends count (Done (Batch more offers)) last next = batch_ends count more offers last next
answer_ends count (Done other) last next = unclear
answer_ends count (User id) last next = raised (User id)
answer_ends count (System id minor completion) last next = raised (System id minor completion)

-- how many offers an answer has
abbrev pub batch_length : Answered → ℕ
batch_length (Done (Batch more offers)) = length offers
batch_length other = 0

abbrev pub after_batch : (next : (count : ℕ) → (given : List ℕ) → DrainEnd (List Offer))
    → (id count : ℕ) → (given : List ℕ) → ReplyResult Answered → DrainEnd (List Offer)
after_batch next id count given (content answer size) =
    answer_ends count answer
    (after_destroy (reply_value (outcome_in_reply destroy) (id + 1) (drop size given)))
    (next (count + batch_length answer) (drop size given))
after_batch next id count given strange = unclear
after_batch next id count given short = cut

-- what comes of at most so many batches, from the request of this id on, behind so many offers
unfoldable pub drain_batches : (batches : ℕ) → (id count : ℕ) → (given : List ℕ)
    → DrainEnd (List Offer)
drain_batches zero id count given = unclear
drain_batches (suc batches) id count given =
    after_batch (drain_batches batches (id + 1)) id count given
    (reply_value (outcome_in_reply next_batch) id given)

-- ---- what is written for them

-- another batch follows
abbrev pub has_next : (more : Bool) → List Offer → Bool
has_next false offers = false
has_next true [] = false
has_next true (o ∷ offers) = true

-- another batch is asked for behind this answer to next_n
abbrev pub goes_on : (count : ℕ) → Answered → Bool
goes_on count (Done (Batch more offers)) = has_next more offers && may_join count offers
goes_on count (Done other) = false
goes_on count (User id) = false
goes_on count (System id minor completion) = false

abbrev pub batches_behind : (next : (count : ℕ) → (given : List ℕ) → ℕ) → (count : ℕ)
    → (given : List ℕ) → ReplyResult Answered → ℕ
batches_behind next count given (content answer size) =
    if goes_on count answer then next (count + batch_length answer) (drop size given) else 0
batches_behind next count given strange = 0
batches_behind next count given short = 0

-- How many batches the iterator is asked for: one, and another behind each that comes with TRUE. Where all come, it is
-- as many as come.
unfoldable pub batches_asked : (batches : ℕ) → (id count : ℕ) → (given : List ℕ) → ℕ
batches_asked zero id count given = 0
batches_asked (suc batches) id count given =
    suc (batches_behind (batches_asked batches (id + 1)) count given
    (reply_value (outcome_in_reply next_batch) id given))

abbrev pub batch_requests : (profile : Iiop) → (id batches : ℕ) → List ℕ
batch_requests profile id zero = []
batch_requests profile id (suc batches) = request_of id profile next_batch
    ++ batch_requests profile (id + 1) batches

-- so many batches are asked for, and then the iterator is destroyed
abbrev pub drain_requests : (profile : Iiop) → (id batches : ℕ) → List ℕ
drain_requests profile id batches = batch_requests profile id batches
    ++ request_of (id + batches) profile destroy
