-- Where the offers of each trader have such references, the offers that queries end with have such.
use Rattle.std.proofs.Common.{ℕ, List, Option, Some, None, arith, length}
use Rattle.std.specs.List.{AllByRecursion}
use Rattle.td_cdr.specs.Marks.{Marks}
use Rattle.td_typecode.specs.declared.code.Any.{Any}
use Rattle.td_typecode.specs.declared.reference.Ior.{Ior}
use Rattle.td_iter.specs.Heads.{AreLimits}
use Rattle.td_log_laws.proofs.Keeping.{BeginsSo, Invariant, IsKept}
use Rattle.td_log_laws.proofs.Lasting.{Quiet}
use Rattle.td_log_laws.proofs.Referring.{Refers, StepRefers, answer-refers}
use Rattle.td_lookup.proofs.Limited.{answer_limits}
use Rattle.td_net.specs.Worlds.{value_answer}
use Rattle.td_net.specs.declared.event.Event.{Event}
use Rattle.td_net.specs.declared.event.Event.TheVariants.{Change as Changed, Ask, Deliver, Value, Answer, Lose}
use Rattle.td_ops.specs.declared.call.Query.{Query}
use Rattle.td_register.specs.Causes.{Cause}
use Rattle.td_register.specs.Stores.{Store}
use Rattle.td_store.specs.Candidates.{is_candidate}
use Rattle.td_store.specs.declared.record.LinkRecord.{LinkRecord}
use Rattle.td_store.specs.declared.record.OfferRecord.{OfferRecord}
use Rattle.td_trader.specs.Beginning.{begin_along, begin_here, begin_of, begin_unless, repeated_in}
use Rattle.td_trader.specs.PlainTraders.{PlainTrader, begin_at, store_of}
use Rattle.td_trader.specs.Queries.{parts_of, path_link, refusal}
use Rattle.td_trader.specs.Serving.{local_of, path_of}
use Rattle.td_session_runs_laws.proofs.Parts.{each-front}
use Rattle.td_types.proofs.Sequences.{each-filter}
use Rattle.td_walk.specs.declared.trace.Visit.{Visit}
use Rattle.td_walk.specs.declared.trace.Visit.TheVariants as visit
use Rattle.td_query_walk.specs.Walks.{answer_in}

-- the events of a log that is made
abbrev pub IsMade : Event → Type 0
IsMade (Changed n c) = ⊥
IsMade (Ask n q) = Unit {0}
IsMade (Deliver c) = Unit {0}
IsMade (Value c v) = Unit {0}
IsMade (Answer c) = Unit {0}
IsMade (Lose c) = Unit {0}

pub quiet-made : (e : Event) → Quiet e → IsMade e
quiet-made (Changed n c) h = h
quiet-made (Ask n q) h = tt
quiet-made (Deliver c) h = tt
quiet-made (Value c v) h = tt
quiet-made (Answer c) h = tt
quiet-made (Lose c) h = tt

module _ (P : Ior → Type 0) where
  abbrev pub OffersRefer : List OfferRecord → Type 0
  OffersRefer os = AllByRecursion (λ (o : OfferRecord). P o.reference) os

  abbrev pub EndedRefers : Query → Visit → Type 0
  EndedRefers q (visit.Refused o) = Unit {0}
  EndedRefers q (visit.Answered a max_list) = Refers P a × AreLimits a.limits

  abbrev pub referring : Invariant
  referring = record {
    trader = λ t. OffersRefer (store_of t).offers;
    local = λ l. OffersRefer l.candidates;
    step = StepRefers P;
    ended = EndedRefers;
  }

  -- ---- how a query begins

  module _ (s : Store) (point : ℕ) (m : Marks) (q : Query) (h : OffersRefer s.offers) where
    here-refers : (found : Option ℕ) → BeginsSo referring q (begin_here s point m q found)
    unfolding local_of
    here-refers (Some n) = (tt, record { few = omega arith; each = tt })
    here-refers None =
        each-front (λ (o : OfferRecord). P o.reference) _ _ (each-filter (λ (o : OfferRecord). P o.reference)
        (is_candidate s.types.types s.attributes (parts_of q).stated q.service_type) s.offers h)

    along-refers : (found : Option LinkRecord) → BeginsSo referring q (begin_along s point m q found)
    unfolding path_of
    along-refers (Some link) = tt
    along-refers None = here-refers (repeated_in m (parts_of q).stated)

    unless-refers : (cause : Cause) → BeginsSo referring q (begin_unless cause s point m q)
    unless-refers (Some f) = tt
    unless-refers None = along-refers (path_link s.links (parts_of q).stated)

  begins-refer : (t : PlainTrader) (q : Query) → OffersRefer (store_of t).offers → BeginsSo referring q (begin_at t q)
  unfolding begin_of
  begins-refer t q h =
      unless-refers (store_of t) (length t.history) t.marks q h (refusal t.bounds t.marks.count (store_of t) q)

  -- ---- events keep it so

  valued-refers : (v : Option Any) → StepRefers P (value_answer v)
  valued-refers None = tt
  valued-refers (Some v) = tt

  gives-refers : (q : Query) (v : Visit) → EndedRefers q v → Refers P (answer_in v)
  gives-refers q (visit.Refused o) h = tt
  gives-refers q (visit.Answered a max_list) h = h.0

  pub keeps-referring : IsKept referring IsMade
  keeps-referring = record {
    failed = tt;
    valued = λ c v event. valued-refers v;
    gives = gives-refers;
    begins = begins-refer;
    begun = λ t q h. h;
    changed = λ n c t h event. absurd event;
    closes = λ q l rs word a local steps is. (
      answer-refers P l rs word a local steps is,
      answer_limits l rs word a is,
    );
  }
