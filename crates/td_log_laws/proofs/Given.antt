-- The reply that a session of its own gives to a query is the one that an audit wants, and it can be written.
use Rattle.std.proofs.Common.{◌≡◌, ℕ, ◌+◌, ◌^◌, ◌<◌, ◌≤◌, Bool, true, false, not, List, [], ◌∷◌, length, map, min, take}
use Rattle.std.proofs.Common.{drop, refl, sym, ap, subst, ◌∙◌, arith}
use Rattle.std.proofs.lemmas.Bool.Decides.{nat_tests}
use Rattle.std.specs.List.{AllByRecursion}
use Rattle.td_audit.specs.Auditing.{asked_as}
use Rattle.td_audit.specs.Making.{IsOutcomeOfVisit, form}
use Rattle.td_audit.specs.Replies.{HasOffers, IsVisitReply, reply_head, spelled_reply}
use Rattle.td_cdr.specs.Names.{IsTraderName}
use Rattle.td_cdr.specs.Sound.{sequence, text}
use Rattle.td_cdr.specs.Writing.{Draft}
use Rattle.td_typecode.specs.Formats.{is_nonempty}
use Rattle.td_typecode.specs.References.{reference}
use Rattle.td_typecode.specs.declared.reference.Ior.{Ior}
use Rattle.td_drill.specs.Drills.{drill_query}
use Rattle.td_ior.proofs.Texts.{made-admitted}
use Rattle.td_ior.specs.Keys.{written_key}
use Rattle.td_ior.specs.Nil.{is_nil}
use Rattle.td_iter.proofs.Endings.{nil-small}
use Rattle.td_iter.proofs.Loading.{some-left}
use Rattle.td_iter.specs.Batches.{IsBatch}
use Rattle.td_iter.specs.Heads.{AreLimits, IsLimit, IsSmallReference, given_or_nil, hop_count, link_follow_rule}
use Rattle.td_iter.specs.Heads.{match_card, nil, offers_found, return_card, search_card}
use Rattle.td_iter.specs.declared.limits.TheConstants.{LARGEST_MESSAGE}
use Rattle.td_log.specs.Messages.{recorded_answer}
use Rattle.td_lookup.specs.Choosing.{chosen}
use Rattle.td_lookup.specs.Querying.{first_offers}
use Rattle.td_objects.proofs.Sizes.{offers_small}
use Rattle.td_objects.specs.Interfaces.{interface_id}
use Rattle.td_objects.specs.References.{IsAddress, offer_iterator}
use Rattle.td_objects.specs.declared.interface.Interface.TheVariants as interface
use Rattle.td_ops.specs.Answers.{AdmitsOutcome, client_answer}
use Rattle.td_ops.specs.declared.operation.Operation.TheVariants as operation
use Rattle.td_ops.specs.declared.outcome.Outcome.{Outcome}
use Rattle.td_session_runs_laws.proofs.Parts.{given-writes, sequence-front}
use Rattle.td_session_runs_laws.proofs.WalkingChosen.{offers-chosen}
use Rattle.td_types.proofs.Sequences.{sequence-from}
use Rattle.td_value.specs.Structures.{offer}
use Rattle.td_value.specs.declared.key.Kind.TheVariants as kind
use Rattle.td_value.specs.declared.structures.Offer.{Offer}
use Rattle.td_walk.specs.declared.trace.Address.{Address}
use Rattle.td_walk.specs.declared.trace.Visit.{Visit}
use Rattle.td_walk.specs.declared.trace.Visit.TheVariants as visit

-- ---- the batch with the reference that the reply has

-- a batch that leaves nothing has all
none-left : {X : Type 0} (k : ℕ) (xs : List X) → is_nonempty (drop k xs) ≡ false → length xs ≤ k
none-left k xs e = let less = sym (some-left k xs) ∙ e in grind (arith, nat_tests, less)

module _ (limits : List (List ℕ)) (offers : List Offer) (draft : Draft) (n count : ℕ) where
  abbrev Fits : (i : Ior) → Bool → Type 0
  Fits i more =
      length draft.bytes + length (offers_found i limits (take count offers) more draft.order (length draft.bytes))
      ≤ LARGEST_MESSAGE

  -- the batch is the same with nil where nothing is left, whichever reference stood there
  batch-given : (r : Ior) (more : Bool) → is_nonempty (drop count offers) ≡ more
      → IsBatch (offers_found r limits) offers draft n count
      → IsBatch (offers_found (given_or_nil r more) limits) offers draft n count
  batch-given r true e b = b
  batch-given r false e b = record {
    asked = b.asked;
    there = b.there;
    holds = by (is_nonempty (drop count offers)) e b.holds;
    greatest = λ j at_most within fits. (let all = none-left count offers e in omega (arith, all, within));
  } where
    by : (more : Bool) → more ≡ false → Fits r more → Fits nil more
    by true e h = absurd cc
    by false e h = h

-- ---- the reference

pub reference-small : (home : Address) (name : List ℕ) → IsAddress home → IsTraderName name → (more : Bool)
    → IsSmallReference (given_or_nil (offer_iterator home name 1) more)
reference-small home name a t true = offers_small home name 1 a t (omega arith)
reference-small home name a t false = nil-small

nil-at-end : (home : Address) (name : List ℕ) (more : Bool)
    → is_nil (given_or_nil (offer_iterator home name 1) more) ≡ not more
nil-at-end home name true = refl
nil-at-end home name false = refl

-- ---- the reply

module _ (home : Address) (name : List ℕ) (a : IsAddress home) (t : IsTraderName name) (limits : List (List ℕ))
    (offers : List Offer) (n count : ℕ)
    (batch : IsBatch (offers_found (offer_iterator home name 1) limits) offers (reply_head form) n count) where
  abbrev outcome : Outcome
  outcome = first_offers home name 1 limits offers count

  offers-right : HasOffers form n limits offers (recorded_answer (spelled_reply form outcome) (client_answer outcome))
  offers-right = record {
    small = reference-small home name a t (is_nonempty (drop count offers));
    count = count;
    batch = batch-given limits offers (reply_head form) n count (offer_iterator home name 1) (is_nonempty (drop count offers))
        refl batch;
    ends = nil-at-end home name (is_nonempty (drop count offers));
    bytes = refl;
  }

pub reply-right : (home : Address) (name : List ℕ) (call : ℕ) (v : Visit) (o : Outcome) → IsAddress home
    → IsTraderName name → IsOutcomeOfVisit home name v o
    → IsVisitReply (asked_as call form drill_query) v (recorded_answer (spelled_reply form o) (client_answer o))
reply-right home name call (visit.Refused r) o a t is = ap (spelled_reply form) is
reply-right home name call (visit.Answered answer max_list) o a t is =
    let offers = map (chosen drill_query.desired) answer.offers in
    let n = min drill_query.how_many max_list in
    subst (λ (x : Outcome). HasOffers form n answer.limits offers (recorded_answer (spelled_reply form x) (client_answer x)))
    (sym is.2) (offers-right home name a t answer.limits offers n is.0 is.1)

-- ---- that it can be written

limit-text : (name : List ℕ) → IsLimit name → text.format.admits name
limit-text name (hop_count e) = subst text.format.admits (sym e) refl
limit-text name (link_follow_rule e) = subst text.format.admits (sym e) refl
limit-text name (match_card e) = subst text.format.admits (sym e) refl
limit-text name (return_card e) = subst text.format.admits (sym e) refl
limit-text name (search_card e) = subst text.format.admits (sym e) refl

limits-text : (limits : List (List ℕ)) → AllByRecursion IsLimit limits → AllByRecursion text.format.admits limits
limits-text [] h = tt
limits-text (name ∷ limits) h = (limit-text name h.0, limits-text limits h.1)

limits-written : (limits : List (List ℕ)) → AreLimits limits → (sequence text).format.admits limits
limits-written limits h =
    let few = h.few in
    let short : length limits < 2 ^ 32 = omega (arith, few) in
    sequence-from text limits short (limits-text limits h.each)

-- a visit that came to this is answered so that it can be written
abbrev pub AdmitsVisit : Visit → Type 0
AdmitsVisit (visit.Refused o) = AdmitsOutcome operation.Query o
AdmitsVisit (visit.Answered a max_list) = (sequence offer).format.admits a.offers × AreLimits a.limits

iterator-written : (home : Address) (name : List ℕ) → reference.format.admits (offer_iterator home name 1)
iterator-written home name =
    made-admitted (interface_id interface.OfferIterator) home.host
    (written_key (record { trader = name; kind = kind.Iterator 1 })) home.port home.minor refl

pub reply-written : (home : Address) (name : List ℕ) (v : Visit) (o : Outcome) → AdmitsVisit v
    → IsOutcomeOfVisit home name v o → AdmitsOutcome operation.Query o
reply-written home name (visit.Refused r) o h is = subst (AdmitsOutcome operation.Query) (sym is) h
reply-written home name (visit.Answered answer max_list) o h is =
    let offers = map (chosen drill_query.desired) answer.offers in
    let all = offers-chosen drill_query.desired answer.offers (omega arith, refl) h.0 in
    let more = is_nonempty (drop is.0 offers) in
    let result : AdmitsOutcome operation.Query (first_offers home name 1 answer.limits offers is.0) = (
      refl,
      (
        (take is.0 offers, (given_or_nil (offer_iterator home name 1) more, answer.limits)),
        refl,
        (
          sequence-front offer is.0 offers all,
          (
            given-writes (offer_iterator home name 1) more (iterator-written home name),
            limits-written answer.limits h.1,
          ),
        ),
      ),
    ) in
    subst (AdmitsOutcome operation.Query) (sym is.2) result
