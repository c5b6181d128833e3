-- What the crates below say, in the words of this one: how a query begins, what is marked, and what questions state. No
-- other file here opens their definitions.
use Rattle.std.proofs.Common.{◌≡◌, ℕ, ◌+◌, ◌<◌, ◌≤◌, Bool, true, false, List, [], ◌∷◌, ◌++◌, length, Option, Some}
use Rattle.std.proofs.Common.{None}
use Rattle.std.proofs.Common.{Ok, refl, sym, ap, subst, ◌∙◌, ◌⊎◌, inl, inr, arith}
use Rattle.td_cdr.specs.Marks.{Marks, RemembersAs, add_mark}
use Rattle.td_cdr.proofs.Marking.{newest, no_other, stays_remembered}
use Rattle.td_typecode.specs.declared.reference.Ior.{Ior}
use Rattle.td_net_laws.specs.Arrivals.{Way, Nowhere, Along, Here, HasReadPolicies, way_by, way_of, identifier_at}
use Rattle.td_net_laws.specs.Arrivals.{is_here}
use Rattle.td_net_laws.specs.Arrivals.{path_at, search_at, stated_identifier}
use Rattle.td_ops.specs.declared.call.Query.{Query}
use Rattle.td_ops.specs.declared.outcome.Outcome.{Outcome}
use Rattle.td_policy.specs.Stated.{stated}
use Rattle.td_register.specs.Causes.{Cause}
use Rattle.td_register.specs.Stores.{Store}
use Rattle.td_store.specs.declared.local.Local.{Local}
use Rattle.td_store.specs.declared.record.LinkRecord.{LinkRecord}
use Rattle.td_trader.proofs.Begun.{are_passed_on, are_served, only_searches}
use Rattle.td_trader.proofs.Taken.{taken_are_read}
use Rattle.td_trader.specs.Beginning.{Begins as BeginsSo, after_begin as marks_after, query_identifier, is_search}
use Rattle.td_trader.specs.Beginning.{searched_under}
use Rattle.td_trader.specs.PlainTraders.{PlainTrader, after_begin, begin_at, store_of}
use Rattle.td_trader.specs.Queries.{parts_of, path_link, refusal}
use Rattle.td_trader.specs.Serving.{local_of}
use Rattle.td_trader.specs.declared.begin.Begin.{Begin}
use Rattle.td_trader.specs.declared.begin.Begin.TheVariants as begin
use Rattle.td_trader_laws.proofs.Reached.{in-order, reached-begin}
use Rattle.td_trader_laws.specs.Reaching.{IsReached}
use Rattle.td_walk.specs.Answers.{IsAnswer}
use Rattle.td_walk.specs.Visits.{next_of}
use Rattle.td_walk.specs.declared.answer.Next.TheVariants.{Done, Forward}
use Rattle.td_walk.specs.declared.answer.StepAnswer.{StepAnswer}
use Rattle.td_walk.specs.declared.answer.SubAnswer.{SubAnswer}
use Rattle.td_query_walk.proofs.Carrying.{state}
use Rattle.td_query_walk.proofs.Spending.{asked_before, ends}
use Rattle.td_query_walk.specs.Reach.{turns_by, turns_of}
use Rattle.td_query_walk.specs.SubQueryLaws.{StatesIdentifier}

-- ---- how a query begins

-- by its way alone, and where it visits the trader, by a repeat exactly where its identifier is remembered
pub data Begins (t : PlainTrader) (q : Query) : Begin → Type 0 where
  refused : (o : Outcome) → way_of t q ≡ Nowhere → Begins t q (begin.Refused o)
  along : (link : LinkRecord) → way_of t q ≡ Along link → Begins t q (begin.Path (path_at t link q))
  repeats : (number : ℕ) → way_of t q ≡ Here → RemembersAs t.marks (identifier_at t q) number
      → Begins t q (begin.Repeat number)
  searches : way_of t q ≡ Here → ((number : ℕ) → RemembersAs t.marks (identifier_at t q) number → ⊥)
      → Begins t q (begin.Search (search_at t q))

module _ (t : PlainTrader) (q : Query) where
  abbrev path : Option LinkRecord
  path = path_link (store_of t).links (parts_of q).stated

  way-is : (c : Cause) (o : Option LinkRecord) → refusal t.bounds t.marks.count (store_of t) q ≡ c → path ≡ o
      → way_of t q ≡ way_by c o
  unfolding way_of
  way-is c o first leads = ap (λ z. way_by z path) first ∙ ap (way_by c) leads

  stated-is : (id : List ℕ) → (parts_of q).stated.request_id ≡ Some id → identifier_at t q ≡ id
  unfolding identifier_at
  stated-is id e = ap (λ z. (query_identifier t.marks (store_of t).attributes.request_id_stem z).identifier) e

  searched-as : (l : Local) → ((n : ℕ) → RemembersAs t.marks (searched_under (store_of t) t.marks q).identifier n → ⊥)
      → way_of t q ≡ Here
      → l ≡ local_of (store_of t) (length t.history) (t.marks.count + 1)
      (searched_under (store_of t) t.marks q).identifier q
      → Begins t q (begin.Search l)
  unfolding identifier_at
  searched-as l fresh way served = subst (λ z. Begins t q (begin.Search z)) (sym served) (searches way fresh)

  begins-by : (b : Begin) → BeginsSo t.bounds (store_of t) (length t.history) t.marks q b → Begins t q b
  begins-by (begin.Refused o) h = refused o (way-is (Some h.cause) path h.first refl)
  begins-by (begin.Path l) h =
      subst (λ z. Begins t q (begin.Path z)) (sym h.served) (along h.link (way-is None (Some h.link) h.taken h.path))
  begins-by (begin.Repeat number) h =
      repeats number (way-is None None h.taken h.path)
      (subst (λ z. RemembersAs t.marks z number) (sym (stated-is h.identifier h.stated)) h.held)
  begins-by (begin.Search l) h = searched-as l h.fresh (way-is None None h.taken h.path) h.served

  pub begins : IsReached t → Begins t q (begin_at t q)
  begins r = begins-by (begin_at t q) (reached-begin t q r)

-- ---- what it marks

-- one mark more, of this identifier
pub record MarkedOnce (m : Marks) (id : List ℕ) (n : Marks) : Type 0 where
  pub count : n.count ≡ m.count + 1
  pub ring : n.ring ≡ m.ring
  pub new : RemembersAs n id (m.count + 1)
  pub old : (i : List ℕ) (k : ℕ) → RemembersAs n i k → RemembersAs m i k ⊎ ((id ≡ i) × (m.count + 1 ≡ k))
  pub kept : (i : List ℕ) (k : ℕ) → m.count + 1 < k + m.ring → RemembersAs m i k → RemembersAs n i k

pub unmarked : (t : PlainTrader) (q : Query) (b : Begin) → is_search b ≡ false → (after_begin t q b).marks ≡ t.marks
unmarked t q b other = only_searches (store_of t) t.marks q b other

marked-by : (t : PlainTrader) (q : Query) (l : Local) → IsReached t
    → MarkedOnce t.marks (identifier_at t q) (after_begin t q (begin.Search l)).marks
unfolding marks_after identifier_at
marked-by t q l r =
    let i = (searched_under (store_of t) t.marks q).identifier in
    let c = (searched_under (store_of t) t.marks q).counter in
    let o = (in-order r).marks.orderly in record {
      count = refl;
      ring = refl;
      new = newest t.marks i c;
      old = λ j k h. no_other t.marks i j c k h;
      kept = λ j k near h. stays_remembered t.marks i j c k o near h;
    }

pub marked-once : (t : PlainTrader) (q : Query) (b : Begin) → IsReached t → is_search b ≡ true
    → MarkedOnce t.marks (identifier_at t q) (after_begin t q b).marks
marked-once t q (begin.Refused o) r e = absurd (cc)
marked-once t q (begin.Repeat number) r e = absurd (cc)
marked-once t q (begin.Path l) r e = absurd (cc)
marked-once t q (begin.Search l) r e = marked-by t q l r

-- It marks nothing, and where it visits the trader its identifier is remembered; or it searches under one that isn't.
pub data IsBegun (t : PlainTrader) (q : Query) (b : Begin) : Type 0 where
  quiet : is_search b ≡ false → (is_here (way_of t q) ≡ true → (k : ℕ) × RemembersAs t.marks (identifier_at t q) k)
      → IsBegun t q b
  searching : is_search b ≡ true → is_here (way_of t q) ≡ true
      → ((k : ℕ) → RemembersAs t.marks (identifier_at t q) k → ⊥) → IsBegun t q b

pub begun : (t : PlainTrader) (q : Query) (b : Begin) → Begins t q b → IsBegun t q b
begun t q _ (refused o way) = quiet refl (λ here. absurd (let e = ap is_here way in cc))
begun t q _ (along link way) = quiet refl (λ here. absurd (let e = ap is_here way in cc))
begun t q _ (repeats number way held) = quiet refl (λ here. (number, held))
begun t q _ (searches way fresh) = searching refl (ap is_here way) fresh

pub ring-is : (t : PlainTrader) → IsReached t → t.marks.ring ≡ t.bounds.ring
ring-is t r = (in-order r).ring

-- ---- what a search is served with

pub search-identifier : (t : PlainTrader) (q : Query) → (search_at t q).identifier ≡ Some (identifier_at t q)
search-identifier t q =
    (are_served (store_of t) (length t.history) (t.marks.count + 1) (identifier_at t q) q).identified

pub search-mark : (t : PlainTrader) (q : Query) → (search_at t q).mark ≡ t.marks.count + 1
search-mark t q = (are_served (store_of t) (length t.history) (t.marks.count + 1) (identifier_at t q) q).mark_is

-- which search it is
pub search-is : (t : PlainTrader) (q : Query) (l : Local) → IsReached t → begin_at t q ≡ begin.Search l
    → l ≡ search_at t q
search-is t q l r e = by l (subst (Begins t q) e (begins t q r))
  where
    by : (l : Local) → Begins t q (begin.Search l) → l ≡ search_at t q
    by _ (searches way fresh) = refl

-- ---- what its query states

module _ (t : PlainTrader) (q : Query) where
  taken-by : (c : Cause) (o : Option LinkRecord) → refusal t.bounds t.marks.count (store_of t) q ≡ c
      → (way_by c o ≡ Nowhere → ⊥) → refusal t.bounds t.marks.count (store_of t) q ≡ None
  taken-by None o e goes = e
  taken-by (Some f) o e goes = absurd (goes refl)

  -- a query that isn't refused can be read
  pub asked-read : (way_of t q ≡ Nowhere → ⊥) → HasReadPolicies q
  unfolding way_of HasReadPolicies
  asked-read goes =
      taken_are_read t.bounds t.marks.count (store_of t) q
      (taken-by (refusal t.bounds t.marks.count (store_of t) q)
      (path_link (store_of t).links (parts_of q).stated) refl goes)

  pub identifier-stated : (id : List ℕ) → stated_identifier q ≡ Some id → identifier_at t q ≡ id
  unfolding stated_identifier
  identifier-stated id e = stated-is t q id e

-- ---- its questions

pub search-carries : (t : PlainTrader) (q : Query) (rs : List StepAnswer) (target : Ior) (sub : Query)
    → next_of (search_at t q) rs ≡ Forward target sub → HasReadPolicies sub → stated_identifier sub ≡ Some (identifier_at t q)
unfolding HasReadPolicies stated_identifier
search-carries t q rs target sub asks read =
    let l : Local = search_at t q in
    let p = are_served (store_of t) (length t.history) (t.marks.count + 1) (identifier_at t q) q in
    let s : StatesIdentifier None l sub = subst (λ z. StatesIdentifier z l sub) p.path (state l rs target sub asks) in
    s (identifier_at t q) (parts_of sub).stated p.identified read

pub path-carries : (t : PlainTrader) (link : LinkRecord) (q : Query) (rs : List StepAnswer) (target : Ior)
    (sub : Query)
    → HasReadPolicies q → next_of (path_at t link q) rs ≡ Forward target sub → HasReadPolicies sub
    → stated_identifier sub ≡ stated_identifier q
unfolding HasReadPolicies stated_identifier
path-carries t link q rs target sub own asks read =
    let l : Local = path_at t link q in
    let p = are_passed_on (store_of t) (length t.history) link q in
    let s : StatesIdentifier (Some link) l sub = subst (λ z. StatesIdentifier z l sub) p.path
    (state l rs target sub asks) in
    s (parts_of q).stated (parts_of sub).stated (ap (λ (z : Query). stated z.policies) p.served.query ∙ own) read

-- so many questions there are at most
pub forward-before : (l : Local) (rs : List StepAnswer) (target : Ior) (sub : Query)
    → next_of l rs ≡ Forward target sub → length rs < turns_of l
forward-before l rs target sub e = asked_before l rs target sub e

pub done-after : (l : Local) (rs : List StepAnswer) → turns_of l ≤ length rs → next_of l rs ≡ Done
done-after l rs far = ends l rs far

-- along a path there is one
pub path-turns : (t : PlainTrader) (link : LinkRecord) (q : Query) → turns_of (path_at t link q) ≡ 1
path-turns t link q =
    ap (λ z. turns_by z (path_at t link q)) (are_passed_on (store_of t) (length t.history) link q).path

-- ---- what a visit goes by

abbrev pub IsLocal : Way → (searches : Bool) → PlainTrader → Query → Local → Type 0
IsLocal Nowhere s t q l = ⊥
IsLocal (Along link) s t q l = l ≡ path_at t link q
IsLocal Here s t q l = (s ≡ true) × (l ≡ search_at t q)

-- what a call hands on: its own identifier, or along a path what its query states
abbrev pub carried : (visits : Bool) → (stated : Option (List ℕ)) → (identifier : List ℕ) → Option (List ℕ)
carried true stated id = Some id
carried false stated id = stated

pub asks-read : (t : PlainTrader) (q : Query) (s : Bool) (l : Local) (y : Way) → way_of t q ≡ y → IsLocal y s t q l
    → HasReadPolicies q
asks-read t q s l Nowhere way here = elim here [ ]
asks-read t q s l (Along link) way here = asked-read t q (λ e. absurd (let bad = sym way ∙ e in cc))
asks-read t q s l Here way here = asked-read t q (λ e. absurd (let bad = sym way ∙ e in cc))

pub hands-on : (t : PlainTrader) (q : Query) (s : Bool) (l : Local) (y : Way) → way_of t q ≡ y → IsLocal y s t q l
    → (rs : List StepAnswer) (target : Ior) (sub : Query) → next_of l rs ≡ Forward target sub → HasReadPolicies sub
    → stated_identifier sub ≡ carried (is_here y) (stated_identifier q) (identifier_at t q)
hands-on t q s l Nowhere way here rs target sub asks read = elim here [ ]
hands-on t q s l (Along link) way here rs target sub asks read =
    path-carries t link q rs target sub (asks-read t q s l (Along link) way here)
    (subst (λ z. next_of z rs ≡ Forward target sub) here asks) read
hands-on t q s l Here way here rs target sub asks read =
    search-carries t q rs target sub (subst (λ z. next_of z rs ≡ Forward target sub) here.1 asks) read

-- along a path nothing is asked twice
pub asks-once : (t : PlainTrader) (q : Query) (s : Bool) (l : Local) (y : Way) → IsLocal y s t q l → is_here y ≡ false
    → (rs : List StepAnswer) → length rs < turns_of l → 1 ≤ length rs → ⊥
asks-once t q s l Nowhere here path rs below some = elim here [ ]
asks-once t q s l (Along link) here path rs below some =
    let one = path-turns t link q in let same = ap turns_of here in omega arith
asks-once t q s l Here here path rs below some = absurd (cc)

-- ---- its answer

-- what the answers are one by: a law of td_query_walk
abbrev pub AnswersAreOne : Type 0
AnswersAreOne =
    (l : Local) (rs : List StepAnswer) (word : ℕ → ℕ) (a b : SubAnswer) → IsAnswer l rs word a → IsAnswer l rs word b
    → a ≡ b
