-- When a recorded reply is the one that the server writes (CORBA, chapter on General Inter-ORB Protocol, "Reply
-- Message"; OMG's Trading Object Service, the results of query, list_offers and list_proxies).
use Rattle.std.specs.Prelude.{◌≡◌, ℕ, Bool, true, false, not, if◌then◌else◌, List, map, take, drop, min, Option, None}
use Rattle.std.specs.Prelude.{Some}
use Rattle.std.specs.Str.{bytes_eq}
use Rattle.std.proofs.Math.Bool.{beq}
use Rattle.td_cdr.specs.Writing.{Draft}
use Rattle.td_typecode.specs.Formats.{is_nonempty}
use Rattle.td_typecode.specs.declared.reference.Ior.{Ior}
use Rattle.td_giop.specs.Written.{reply_start}
use Rattle.td_ior.specs.Nil.{is_nil}
use Rattle.td_iter.specs.Batches.{BatchHead, IsBatch}
use Rattle.td_iter.specs.Heads.{IsSmallReference, ids_found, offers_found}
use Rattle.td_log.specs.Forms.{minor_of}
use Rattle.td_log.specs.declared.message.Recorded.{Recorded}
use Rattle.td_log.specs.declared.message.ReplyForm.{ReplyForm}
use Rattle.td_lookup.specs.Choosing.{chosen}
use Rattle.td_ops.specs.declared.call.Look.{Look}
use Rattle.td_ops.specs.declared.outcome.Outcome.{Outcome}
use Rattle.td_ops.specs.declared.outcome.Outcome.TheVariants.{Done}
use Rattle.td_ops.specs.declared.outcome.Reply.{Reply}
use Rattle.td_ops.specs.declared.outcome.Reply.TheVariants.{Found, Ids}
use Rattle.td_servant.specs.Looking.{how_many, ids_in}
use Rattle.td_dispatch.specs.ReplyBytes.{outcome_reply}
use Rattle.td_dispatch.specs.declared.reply_to.ReplyTo.{ReplyTo}
use Rattle.td_value.specs.declared.structures.Offer.{Offer}
use Rattle.td_walk.specs.declared.trace.Visit.{Visit}
use Rattle.td_walk.specs.declared.trace.Visit.TheVariants as visit
use Rattle.td_audit.specs.declared.asked.AskedQuery.{AskedQuery}

-- ---- the bytes of a reply

abbrev pub reply_to : ReplyForm → ReplyTo
reply_to f = record { order = f.order; minor = minor_of f.version; id = f.id; answered = true }

-- the whole Reply for an outcome
abbrev pub spelled_reply : ReplyForm → Outcome → List ℕ
spelled_reply f o = outcome_reply (reply_to f) o

-- what stands in front of a result
abbrev pub reply_head : ReplyForm → Draft
reply_head f = record {
  bytes = reply_start f.order (minor_of f.version) f.id 0;
  order = f.order;
  room = 0;
}

-- ---- lists

-- The reply has the batch of these items for n, and the reference of an iterator for the others. Which reference that
-- is doesn't matter, but that it is nil exactly where nothing is left, and has at most 4,096 bytes.
pub record HasBatch {X : Type 0} (head : Ior → BatchHead X) (content : List X → Ior → Reply)
    (form : ReplyForm) (n : ℕ) (items : List X) (reply : Recorded) : Type 0 where
  pub small : IsSmallReference reply.iterator
  pub count : ℕ
  pub batch : IsBatch (head reply.iterator) items (reply_head form) n count
  pub ends : is_nil reply.iterator ≡ not (is_nonempty (drop count items))
  pub bytes : reply.bytes ≡ spelled_reply form (Done (content (take count items) reply.iterator))

-- what tells it of a reply that has these bytes: whether something is left, and the message
abbrev pub ends_so : (more : Bool) → Recorded → (message : List ℕ) → Bool
ends_so more reply message = if beq (is_nil reply.iterator)
    more then false else bytes_eq reply.bytes message

abbrev pub found_with : (limits : List (List ℕ)) → List Offer → Ior → Reply
found_with limits offers iterator = Found offers iterator limits

-- a batch of offers
abbrev pub HasOffers : ReplyForm → (n : ℕ) → (limits : List (List ℕ)) → List Offer → Recorded
    → Type 0
HasOffers form n limits offers reply =
    HasBatch (λ iterator. offers_found iterator limits) (found_with limits) form n offers reply

-- a batch of ids
abbrev pub HasIds : ReplyForm → (n : ℕ) → List (List ℕ) → Recorded → Type 0
HasIds form n ids reply = HasBatch ids_found (λ some iterator. Ids some iterator) form n ids reply

-- ---- looks

abbrev pub IsFoundReply : ReplyForm → (n : ℕ) → Option (List (List ℕ)) → (found : Outcome)
    → Recorded → Type 0
IsFoundReply form n None found reply = reply.bytes ≡ spelled_reply form found
IsFoundReply form n (Some ids) found reply = HasIds form n ids reply

-- Ids are given in batches for the lesser of how many are asked for and the trader's max_list.
abbrev pub IsLookReply : ReplyForm → Look → (found : Outcome × ℕ) → Recorded → Type 0
IsLookReply form l found reply = IsFoundReply form (min (how_many l) found.1)
    (ids_in found.0) found.0 reply

-- ---- queries

-- Offers have the properties that are desired, and are given in batches for the lesser of how_many and the max_list
-- with which the visit ended; a refusal is told as it is.
abbrev pub IsVisitReply : AskedQuery → Visit → Recorded → Type 0
IsVisitReply a (visit.Refused o) reply = reply.bytes ≡ spelled_reply a.form o
IsVisitReply a (visit.Answered answer max_list) reply =
    HasOffers a.form (min a.how_many max_list) answer.limits (map (chosen a.desired) answer.offers)
    reply
