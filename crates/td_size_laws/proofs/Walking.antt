-- What a walk through a group of traders gives: offers with bounds, of a query that names no property twice.
use Rattle.std.proofs.Common.{◌≡◌, ◌⊎◌, inl, inr, ℕ, List, [], ◌∷◌, length, filter, Option, Some, None, nat_le}
use Rattle.std.proofs.Common.{refl, sym, subst}
use Rattle.std.specs.List.{AllByRecursion}
use Rattle.td_cdr.specs.Marks.{Marks}
use Rattle.td_changes.specs.declared.bounds.Bounds.{Bounds}
use Rattle.td_fed.proofs.Members.{Beginnings, Insides}
use Rattle.td_fed.specs.Visiting.{BeginsVisit, Walks, start_of}
use Rattle.td_targets.specs.Targets.{inside_group}
use Rattle.td_ops.specs.declared.call.Query.{Query}
use Rattle.td_policy.specs.Effective.{effective_of}
use Rattle.td_policy.specs.declared.stated.Stated.{Stated}
use Rattle.td_register.specs.Causes.{Cause, with_cause, limit_if, ◌otherwise◌}
use Rattle.td_register.specs.Named.{type_found}
use Rattle.td_register.specs.Registers.{no_more}
use Rattle.td_register.specs.Stores.{Store}
use Rattle.td_register.specs.declared.history.Accepted.{Accepted}
use Rattle.td_store.specs.Candidates.{candidates, is_candidate}
use Rattle.td_store.specs.declared.local.Local.{Local}
use Rattle.td_store.specs.declared.record.LinkRecord.{LinkRecord}
use Rattle.td_trader.specs.Beginning.{begin_along, begin_here, begin_of, begin_unless, repeated_in}
use Rattle.td_trader.specs.OfferLimits.{HasLimitedOffers, IsWithinLimits}
use Rattle.td_trader.specs.Queries.{desired_cause, first_name, others_cause, parts_cause, parts_of, path_link, refusal}
use Rattle.td_trader.specs.Queries.{start_cause}
use Rattle.td_trader.specs.Serving.{local_of, path_of}
use Rattle.td_trader.specs.Worlds.{BeginsQuery, View, history_at, store_seen}
use Rattle.td_trader.specs.declared.begin.Begin.{Begin}
use Rattle.td_trader.specs.declared.begin.Begin.TheVariants as begin
use Rattle.td_types.proofs.Sequences.{each-append, each-filter}
use Rattle.td_value.specs.declared.structures.Offer.{Offer}
use Rattle.td_walk.specs.Peering.{HasSmallOffers, IsSmallOffer}
use Rattle.td_walk.specs.declared.answer.Next.{Next}
use Rattle.td_walk.specs.declared.answer.StepAnswer.{StepAnswer}
use Rattle.td_walk.specs.declared.answer.SubAnswer.{SubAnswer}
use Rattle.td_walk.specs.declared.trace.Address.{Address}
use Rattle.td_walk.specs.declared.trace.TraceItem.{TraceItem}
use Rattle.td_walk.specs.declared.trace.Visit.{Visit}
use Rattle.td_walk.specs.declared.trace.Visit.TheVariants as visit
use Rattle.td_query_walk.specs.Walks.{WalkState, OpensWith, Path, Refused, Repeat, Search, Start, Step, Steps, Walk}
use Rattle.td_query_walk.specs.Walks.{answer_in}
use Rattle.td_query_walk.specs.Walks.{asked, asking, done, evaluated, outside, passing, refused, repeat, searching}
use Rattle.td_query_walk.specs.Walks.{no_memory_with, unevaluated, unreachable, visited}
use Rattle.td_size_laws.specs.Bounds.{IsBounded}
use Rattle.td_size_laws.specs.SizeLaws.{GivesBounded, WalksGiveBoundedOffers}
use Rattle.td_size_laws.proofs.Answers.{AreBounded, AreBoundedSteps, HasBounded, IsBoundedStep, answer-bounded}
use Rattle.td_size_laws.proofs.Answers.{each-front}
use Rattle.td_size_laws.proofs.Fitting.{small-bounded}

-- ---- how queries begin

-- what is searched is within the limits, and the query names no property twice
record IsLimitedLocal (q : Query) (l : Local) : Type 0 where
  candidates : AllByRecursion IsWithinLimits l.candidates
  named : desired_cause q.desired ≡ None

abbrev BeginsLimited : Query → Begin → Type 0
BeginsLimited q (begin.Refused o) = Unit {0}
BeginsLimited q (begin.Repeat number) = Unit {0}
BeginsLimited q (begin.Search l) = IsLimitedLocal q l
BeginsLimited q (begin.Path l) = IsLimitedLocal q l

candidates-limited : (s : Store) (a : Stated) (wanted : List ℕ) (count : ℕ) → HasLimitedOffers s
    → AllByRecursion IsWithinLimits (candidates s.types.types s.attributes a wanted count s.offers)
candidates-limited s a wanted count h =
    let test = is_candidate s.types.types s.attributes a wanted in
    each-front IsWithinLimits count (filter test s.offers) (each-filter IsWithinLimits test s.offers h.within)

pub neither : (a b : Cause) → (a otherwise b) ≡ None → (a ≡ None) × (b ≡ None)
neither None b h = (refl, h)
neither (Some f) b h = absurd (let bad : ⊥ = cc in bad)

module _ (s : Store) (point : ℕ) (m : Marks) (q : Query) (h : HasLimitedOffers s)
    (named : desired_cause q.desired ≡ None) where
  here-limited : (found : Option ℕ) → BeginsLimited q (begin_here s point m q found)
  unfolding local_of
  here-limited (Some n) = tt
  here-limited None = record {
    candidates =
        candidates-limited s (parts_of q).stated q.service_type
        (effective_of (parts_of q).stated s.attributes).search_card h;
    named = named;
  }

  along-limited : (found : Option LinkRecord) → BeginsLimited q (begin_along s point m q found)
  unfolding path_of
  along-limited (Some link) = record { candidates = tt; named = named }
  along-limited None = here-limited (repeated_in m (parts_of q).stated)

named-once : (bounds : Bounds) (count : ℕ) (s : Store) (q : Query) → refusal bounds count s q ≡ None
    → desired_cause q.desired ≡ None
unfolding refusal
named-once bounds count s q h =
    let others = others_cause bounds count s.links q (parts_of q).stated in
    let typed = neither (with_cause (type_found s.types.types q.service_type) no_more) (parts_cause q otherwise others) h in
    let rest = neither (parts_cause q) others typed.1 in
    (neither (desired_cause q.desired) (start_cause s.links q.policies (first_name (parts_of q).stated)
    otherwise limit_if (nat_le bounds.begins count)) rest.1).0

unless-limited : (bounds : Bounds) (s : Store) (point : ℕ) (m : Marks) (q : Query) → HasLimitedOffers s
    → (cause : Cause) → refusal bounds m.count s q ≡ cause → BeginsLimited q (begin_unless cause s point m q)
unless-limited bounds s point m q h (Some f) e = tt
unless-limited bounds s point m q h None e =
    along-limited s point m q h (named-once bounds m.count s q e) (path_link s.links (parts_of q).stated)

begin-limited : (bounds : Bounds) (s : Store) (point : ℕ) (m : Marks) (q : Query) → HasLimitedOffers s
    → BeginsLimited q (begin_of bounds s point m q)
unfolding begin_of
begin-limited bounds s point m q h = unless-limited bounds s point m q h (refusal bounds m.count s q) refl

-- ---- as a walk has it

abbrev StartsLimited : Query → Start → Type 0
StartsLimited q (Refused point o) = Unit {0}
StartsLimited q (Repeat point mark) = Unit {0}
StartsLimited q (Search l) = IsLimitedLocal q l
StartsLimited q (Path l) = IsLimitedLocal q l

starts-limited : (point : ℕ) (q : Query) (b : Begin) → BeginsLimited q b → StartsLimited q (start_of point b)
starts-limited point q (begin.Refused o) h = h
starts-limited point q (begin.Repeat mark) h = h
starts-limited point q (begin.Search l) h = h
starts-limited point q (begin.Path l) h = h

abbrev AlwaysLimited : Beginnings → Type 0
AlwaysLimited B = (w u : List View) (k : ℕ) (q : Query) (start : Start) → B w k q start u → StartsLimited q start

always-limited : (others : List Accepted → Type 0) (later : Marks → Marks → Type 0)
    → AlwaysLimited (BeginsVisit others later)
always-limited others later w u k q start b =
    let r = b.begun in
    subst (StartsLimited q) (sym b.is)
    (starts-limited (length (history_at u k)) q b.begin
    (subst (BeginsLimited q) (sym r.begin)
    (begin-limited r.seen.bounds (store_seen r.seen) (length r.seen.history) r.seen.marks q r.limited)))

opened-limited : {k : ℕ} {l : Local} {start : Start} {head : TraceItem} (q : Query) → OpensWith k l start head
    → StartsLimited q start → IsLimitedLocal q l
opened-limited q searching h = h
opened-limited q passing h = h

small-each : (offers : List Offer) → AllByRecursion IsSmallOffer offers → AreBounded offers
small-each [] h = tt
small-each (o ∷ offers) h = (small-bounded o h.0, small-each offers h.1)

mutual
  walk-bounded : (B : Beginnings) (inside : Insides) (limited : AlwaysLimited B) {s : WalkState (List View)} {k : ℕ}
      {q : Query} {t : List TraceItem} {v : Visit} {u : WalkState (List View)} → Walk B inside s k q t v u
      → GivesBounded q (answer_in v).offers
  walk-bounded B inside limited (refused b) = record { bounded = tt; named_once = inl refl }
  walk-bounded B inside limited (repeat b) = record { bounded = tt; named_once = inl refl }
  walk-bounded B inside limited
      (asking {s = s} {k = k} {q = q} {start = start} {w = w} {l = l} {answers = answers} {m = m} {a = a} b o steps
      ends) =
      let local = opened-limited q o (limited s.world w k q start b) in
      record {
        bounded = answer-bounded l answers m.words a local.candidates (steps-bounded B inside limited steps tt)
            ends.answer;
        named_once = inr local.named;
      }

  steps-bounded : (B : Beginnings) (inside : Insides) (limited : AlwaysLimited B) {s : WalkState (List View)} {l : Local}
      {answers : List StepAnswer} {t : List TraceItem} {all : List StepAnswer} {u : WalkState (List View)}
      → Steps B inside s l answers t all u → AreBoundedSteps answers → AreBoundedSteps all
  steps-bounded B inside limited (done e) given = given
  steps-bounded B inside limited (asked {answers = answers} {r = r} step steps) given =
      steps-bounded B inside limited steps
      (each-append IsBoundedStep answers (r ∷ []) given (step-bounded B inside limited step, tt))

  step-bounded : (B : Beginnings) (inside : Insides) (limited : AlwaysLimited B) {s : WalkState (List View)}
      {question : Next} {t : List TraceItem} {r : StepAnswer} {u : WalkState (List View)}
      → Step B inside s question t r u → IsBoundedStep r
  step-bounded B inside limited (visited i walk) = (walk-bounded B inside limited walk).bounded
  step-bounded B inside limited (outside {a = a} i small) = small-each a.offers small
  step-bounded B inside limited (no_memory_with i f) = tt
  step-bounded B inside limited (evaluated i) = tt
  step-bounded B inside limited (unevaluated i f) = tt
  step-bounded B inside limited (unreachable i) = tt

pub walks_bounded : (others : List Accepted → Type 0) (later : Marks → Marks → Type 0)
    → WalksGiveBoundedOffers others later
walks_bounded others later home s u k q t a max_list walk =
    walk-bounded (BeginsVisit others later) (inside_group home) (always-limited others later) walk
