-- Where the arrivals of a walk stand in its trace, and how many queries had gone outside then.
use Rattle.std.proofs.Common.{◌≡◌, ℕ, ◌≤◌, ◌⊎◌, inl, inr, List, [], ◌∷◌, ◌++◌, append_assoc, append-nil}
use Rattle.std.proofs.Common.{Option, None, Some, refl, sym, ap, subst, ◌∙◌, arith, le_refl}
use Rattle.td_cdr.specs.Marks.{In, Marks}
use Rattle.td_fed.proofs.Members.{Insides}
use Rattle.td_fed.specs.Visiting.{BeginsVisit}
use Rattle.td_fed_laws.specs.Arrivals.{Arrival, arrival, arrivals, arrivals_by, arrivals_in, sent}
use Rattle.td_fed_laws.specs.Traces.{visited_by}
use Rattle.td_ops.specs.declared.call.Query.{Query}
use Rattle.td_register.specs.declared.history.Accepted.{Accepted}
use Rattle.td_store.specs.declared.local.Local.{Local}
use Rattle.td_trader.specs.Worlds.{View}
use Rattle.td_walk.specs.Peering.{Exchange}
use Rattle.td_walk.specs.declared.answer.Next.{Next}
use Rattle.td_walk.specs.declared.answer.StepAnswer.{StepAnswer}
use Rattle.td_walk.specs.declared.trace.TraceItem.{TraceItem}
use Rattle.td_walk.specs.declared.trace.TraceItem.TheVariants as item
use Rattle.td_walk.specs.declared.trace.Visit.{Visit}
use Rattle.td_query_walk.specs.Walks.{WalkState, Step, Steps, Walk}
use Rattle.td_query_walk.specs.Walks.{asked, asking, done, evaluated, outside, refused, repeat}
use Rattle.td_query_walk.specs.Walks.{no_memory_with, unevaluated, unreachable, visited}

-- ---- lists

pub in-left : {X : Type 0} (a : X) (xs ys : List X) → In a xs → In a (xs ++ ys)
in-left a [] ys h = elim h [ ]
in-left a (x ∷ xs) ys (inl e) = inl e
in-left a (x ∷ xs) ys (inr h) = inr (in-left a xs ys h)

pub in-right : {X : Type 0} (a : X) (xs ys : List X) → In a ys → In a (xs ++ ys)
in-right a [] ys h = h
in-right a (x ∷ xs) ys h = inr (in-right a xs ys h)

pub in-append : {X : Type 0} (a : X) (xs ys : List X) → In a (xs ++ ys) → In a xs ⊎ In a ys
in-append a [] ys h = inr h
in-append a (x ∷ xs) ys (inl e) = inl (inl e)
in-append a (x ∷ xs) ys (inr h) = behind (in-append a xs ys h)
  where
    behind : In a xs ⊎ In a ys → In a (x ∷ xs) ⊎ In a ys
    behind (inl k) = inl (inr k)
    behind (inr k) = inr k

-- ---- queries that went outside

-- so many had gone outside before, at each arrival, and behind
pub record SentWithin (low high : ℕ) (xs : List Arrival) : Type 0 where
  pub rises : low ≤ high
  pub within : (a : Arrival) → In a xs → (low ≤ a.sent) × (a.sent ≤ high)

none-sent : (n : ℕ) → SentWithin n n []
none-sent n = record { rises = le_refl n; within = λ a h. elim h [ ] }

sent-first : (n high : ℕ) (a : Arrival) (xs : List Arrival) → a.sent ≡ n → SentWithin n high xs
    → SentWithin n high (a ∷ xs)
sent-first n high a xs is h = record { rises = h.rises; within = by-place }
  where
    by-place : (x : Arrival) → In x (a ∷ xs) → (n ≤ x.sent) × (x.sent ≤ high)
    by-place x (inl e) =
        let same : x.sent ≡ n = ap (λ (y : Arrival). y.sent) e ∙ is in
        let up = h.rises in (omega (arith, same), omega (arith, same, up))
    by-place x (inr i) = h.within x i

sent-on : (low middle high : ℕ) (xs ys : List Arrival) → SentWithin low middle xs → SentWithin middle high ys
    → SentWithin low high (xs ++ ys)
sent-on low middle high xs ys p q =
    let below = p.rises in
    let above = q.rises in
    record { rises = omega (arith, below, above); within = λ a i. by-part a (in-append a xs ys i) }
  where
    by-part : (a : Arrival) → In a xs ⊎ In a ys → (low ≤ a.sent) × (a.sent ≤ high)
    by-part a (inl i) =
        let w = p.within a i in
        let most = w.1 in
        let above = q.rises in (w.0, omega (arith, most, above))
    by-part a (inr i) =
        let w = q.within a i in
        let least = w.0 in
        let below = p.rises in (omega (arith, least, below), w.1)

sent-called : (calls : List Exchange) (x : Exchange) → sent calls ≤ sent (calls ++ x ∷ [])
sent-called [] x = omega arith
sent-called (c ∷ calls) x = let rest = sent-called calls x in omega (arith, rest)

called-sent : (calls : List Exchange) (x : Exchange) → SentWithin (sent calls) (sent (calls ++ x ∷ [])) []
called-sent calls x = record { rises = sent-called calls x; within = λ a h. elim h [ ] }

module _ {others : List Accepted → Type 0} {later : Marks → Marks → Type 0} {inside : Insides} where
  mutual
    pub walk-sent : (p : List TraceItem) {s : WalkState (List View)} {k : ℕ} {q : Query} {t : List TraceItem} {v : Visit}
        {u : WalkState (List View)} → (walk : Walk (BeginsVisit others later) inside s k q t v u)
        → SentWithin (sent s.calls) (sent u.calls) (arrivals p walk)
    walk-sent p (refused {s = s} b) = sent-first (sent s.calls) (sent s.calls) _ [] refl (none-sent (sent s.calls))
    walk-sent p (repeat {s = s} b) = sent-first (sent s.calls) (sent s.calls) _ [] refl (none-sent (sent s.calls))
    walk-sent p (asking {s = s} {head = head} {m = m} b o steps en) =
        let first = arrival p (sent s.calls) head b in
        let rest = arrivals_in (p ++ head ∷ []) steps in
        subst (λ (calls : List Exchange). SentWithin (sent s.calls) (sent calls) (first ∷ rest)) (sym en.calls)
        (sent-first (sent s.calls) (sent m.calls) first rest refl (steps-sent (p ++ head ∷ []) steps))

    steps-sent : (p : List TraceItem) {s : WalkState (List View)} {l : Local} {answers : List StepAnswer}
        {t : List TraceItem} {all : List StepAnswer} {u : WalkState (List View)}
        → (steps : Steps (BeginsVisit others later) inside s l answers t all u)
        → SentWithin (sent s.calls) (sent u.calls) (arrivals_in p steps)
    steps-sent p (done {s = s} e) = none-sent (sent s.calls)
    steps-sent p (asked {s = s} {t = t} {m = m} {u = u} step steps) =
        sent-on (sent s.calls) (sent m.calls) (sent u.calls) (arrivals_by p step) (arrivals_in (p ++ t) steps)
        (step-sent p step) (steps-sent (p ++ t) steps)

    step-sent : (p : List TraceItem) {s : WalkState (List View)} {question : Next} {t : List TraceItem} {r : StepAnswer}
        {u : WalkState (List View)} → (step : Step (BeginsVisit others later) inside s question t r u)
        → SentWithin (sent s.calls) (sent u.calls) (arrivals_by p step)
    step-sent p (visited i walk) = walk-sent p walk
    step-sent p (outside {s = s} i small) = called-sent s.calls _
    step-sent p (no_memory_with {s = s} i f) = called-sent s.calls _
    step-sent p (evaluated {s = s} i) = called-sent s.calls _
    step-sent p (unevaluated {s = s} i f) = called-sent s.calls _
    step-sent p (unreachable {s = s} i) = none-sent (sent s.calls)

-- ---- at each item of a trace

-- it holds of each item, with those before it
abbrev pub AllAt : (List TraceItem → TraceItem → Type 0) → List TraceItem → List TraceItem → Type 0
AllAt P p [] = Unit {0}
AllAt P p (i ∷ is) = P p i × AllAt P (p ++ i ∷ []) is

all-append : (P : List TraceItem → TraceItem → Type 0) (p t ts : List TraceItem) → AllAt P p t → AllAt P (p ++ t) ts
    → AllAt P p (t ++ ts)
all-append P p [] ts a b = subst (λ (x : List TraceItem). AllAt P x ts) (append-nil p) b
all-append P p (i ∷ t) ts a b = (
  a.0,
  all-append P (p ++ i ∷ []) t ts a.1
      (subst (λ (x : List TraceItem). AllAt P x ts) (sym (append_assoc p (i ∷ []) t)) b),
)

at-place : (P : List TraceItem → TraceItem → Type 0) (p before rest : List TraceItem) (i : TraceItem)
    → AllAt P p (before ++ i ∷ rest) → P (p ++ before) i
at-place P p [] rest i h = subst (λ (x : List TraceItem). P x i) (sym (append-nil p)) h.0
at-place P p (x ∷ before) rest i h =
    subst (λ (y : List TraceItem). P y i) (append_assoc p (x ∷ []) before)
    (at-place P (p ++ x ∷ []) before rest i h.1)

abbrev Plain : (List TraceItem → TraceItem → Type 0) → Type 0
Plain P = (p : List TraceItem) (i : TraceItem) → visited_by i ≡ None → P p i

abbrev AtEach : (List TraceItem → TraceItem → Type 0) → List Arrival → Type 0
AtEach P xs = (a : Arrival) → In a xs → P a.before a.item

module _ {others : List Accepted → Type 0} {later : Marks → Marks → Type 0} {inside : Insides} where
  mutual
    walk-all : (P : List TraceItem → TraceItem → Type 0) (plain : Plain P) (p : List TraceItem)
        {s : WalkState (List View)} {k : ℕ}
        {q : Query} {t : List TraceItem} {v : Visit} {u : WalkState (List View)}
        → (walk : Walk (BeginsVisit others later) inside s k q t v u) → AtEach P (arrivals p walk) → AllAt P p t
    walk-all P plain p (refused b) h = (h _ (inl refl), tt)
    walk-all P plain p (repeat b) h = (h _ (inl refl), tt)
    walk-all P plain p (asking {head = head} {t = t} b o steps en) h = (
      h _ (inl refl),
      all-append P (p ++ head ∷ []) t (item.Leave ∷ [])
          (steps-all P plain (p ++ head ∷ []) steps (λ a i. h a (inr i)))
          (plain ((p ++ head ∷ []) ++ t) item.Leave refl, tt),
    )

    steps-all : (P : List TraceItem → TraceItem → Type 0) (plain : Plain P) (p : List TraceItem)
        {s : WalkState (List View)}
        {l : Local} {answers : List StepAnswer} {t : List TraceItem} {all : List StepAnswer} {u : WalkState (List View)}
        → (steps : Steps (BeginsVisit others later) inside s l answers t all u) → AtEach P (arrivals_in p steps)
        → AllAt P p t
    steps-all P plain p (done e) h = tt
    steps-all P plain p (asked {t = t} {ts = ts} step steps) h =
        all-append P p t ts
        (step-all P plain p step (λ a i. h a (in-left a (arrivals_by p step) (arrivals_in (p ++ t) steps) i)))
        (steps-all P plain (p ++ t) steps
        (λ a i. h a (in-right a (arrivals_by p step) (arrivals_in (p ++ t) steps) i)))

    step-all : (P : List TraceItem → TraceItem → Type 0) (plain : Plain P) (p : List TraceItem)
        {s : WalkState (List View)}
        {question : Next} {t : List TraceItem} {r : StepAnswer} {u : WalkState (List View)}
        → (step : Step (BeginsVisit others later) inside s question t r u) → AtEach P (arrivals_by p step) → AllAt P p t
    step-all P plain p (visited i walk) h = walk-all P plain p walk h
    step-all P plain p (outside {a = a} i small) h = (plain p (item.Outside a) refl, tt)
    step-all P plain p (no_memory_with {f = f} i n) h = (plain p (item.Failed f) refl, tt)
    step-all P plain p (evaluated {value = value} i) h = (plain p (item.Evaluated value) refl, tt)
    step-all P plain p (unevaluated {f = f} i n) h = (plain p (item.Failed f) refl, tt)
    step-all P plain p (unreachable i) h = (plain p item.Unreachable refl, tt)

-- ---- the arrival of an item

-- an arrival is noted with this item, behind these
pub record Noted (xs : List Arrival) (before : List TraceItem) (i : TraceItem) : Type 0 where
  pub arrival : Arrival
  pub is_in : In arrival xs
  pub before_is : arrival.before ≡ before
  pub item_is : arrival.item ≡ i

none-some : (n : ℕ) → ◌≡◌ {A = Option ℕ} None (Some n) → ⊥
none-some n e = cc

abbrev IsNoted : List Arrival → List TraceItem → TraceItem → Type 0
IsNoted xs before i = (trader : ℕ) → visited_by i ≡ Some trader → Noted xs before i

plain-noted : (xs : List Arrival) → Plain (IsNoted xs)
plain-noted xs p i none trader visits = absurd (none-some trader (sym none ∙ visits))

each-noted : (xs : List Arrival) → AtEach (IsNoted xs) xs
each-noted xs a there trader visits = record { arrival = a; is_in = there; before_is = refl; item_is = refl }

pub visit-noted : {others : List Accepted → Type 0} {later : Marks → Marks → Type 0} {inside : Insides}
    {s : WalkState (List View)} {k : ℕ} {q : Query} {t : List TraceItem} {v : Visit} {u : WalkState (List View)}
    (walk : Walk (BeginsVisit others later) inside s k q t v u) (before rest : List TraceItem) (i : TraceItem) (trader : ℕ)
    → t ≡ before ++ i ∷ rest → visited_by i ≡ Some trader → Noted (arrivals [] walk) before i
visit-noted walk before rest i trader is visits =
    let xs = arrivals [] walk in
    at-place (IsNoted xs) [] before rest i
    (subst (AllAt (IsNoted xs) []) is (walk-all (IsNoted xs) (plain-noted xs) [] walk (each-noted xs))) trader visits
