-- When memory ran out, what was noted is the beginning of a walk: of the visits that wait for one another, the walk
-- of each goes on in that of the next.
use Rattle.std.proofs.Common.{◌≡◌, ℕ, List, [], ◌∷◌, ◌++◌, Option, Some, append_assoc, append-nil, sym, ap}
use Rattle.std.proofs.Common.{subst, ◌∙◌, refl, Result, Ok, Err, OnErr}
use Rattle.std.proofs.lemmas.List.{same_from_push}
use Rattle.td_cdr.specs.declared.memory.Memory.{Memory as OutOfMemory}
use Rattle.td_typecode.specs.declared.reference.Ior.{Ior}
use Rattle.td_fed.proofs.Called.{on-err}
use Rattle.td_fed.proofs.Pending.{Pending, Sofar, StepsTo, no_step, one_step, whole as walk-whole}
use Rattle.td_fed.proofs.Turned.{Walking}
use Rattle.td_fed.specs.Entering.{AsksSoFar, EntersSoFar, EntersTrader, IsAsked, IsAskedSoFar, IsEnd, IsEntered}
use Rattle.td_fed.specs.Entering.{IsEnteredSoFar}
use Rattle.td_fed.specs.Entering.{AsksQuestion as Comes, answered as has-answer, begun as has-begun}
use Rattle.td_fed.specs.Entering.{entered, had_answer, had_begun, not_asked, not_entered, only_watched}
use Rattle.td_fed.specs.Entering.{opens, refused, repeated}
use Rattle.td_fed.specs.Turning.{HasQuestion, ClosesSoFar, IsTurnSoFar, TurnsSoFar, had_closed, had_ended, not_closed}
use Rattle.td_fed.specs.Turning.{not_turned, was_asked}
use Rattle.td_fed.specs.declared.outside.Asking.{Asking}
use Rattle.td_fed.specs.declared.entering.VisitStart.{VisitStart}
use Rattle.td_ops.specs.declared.call.Query.{Query}
use Rattle.td_store.specs.declared.local.Local.{Local}
use Rattle.td_visit.specs.Standing.{FrameState as Frame}
use Rattle.td_walk.specs.Visits.{next_of}
use Rattle.td_walk.specs.declared.answer.Next.{Next}
use Rattle.td_walk.specs.declared.answer.Next.TheVariants.{Forward}
use Rattle.td_walk.specs.declared.answer.StepAnswer.{StepAnswer}
use Rattle.td_walk.specs.declared.trace.TraceItem.{TraceItem}
use Rattle.td_walk.specs.declared.trace.TraceItem.TheVariants as item
use Rattle.td_walk.specs.declared.trace.Visit.{Visit}
use Rattle.td_query_walk.specs.Beginnings.{StepsBegin, WalkBegins, unbegun, watched, whole, unended, no_more, one_more}
use Rattle.td_query_walk.specs.Beginnings.{visiting}
use Rattle.td_query_walk.specs.Walks.{WalkState, Start, with_world}
use Rattle.td_query_walk.specs.Walks.{refused as walk-refused, repeat as walk-repeat}

module _ {World : Type 0} (Begins : World → (trader : ℕ) → Query → Start → World → Type 0)
    (Watches : World → (trader : ℕ) → World → Type 0) (inside : World → (target : Ior) → Option ℕ) where
  -- ---- the open visits

  begin-on : (l : Local) (s : WalkState World) (first : List StepAnswer) (t : List TraceItem) (answers : List StepAnswer)
      (m : WalkState World) (ts : List TraceItem) (u : WalkState World) → StepsTo Begins inside l s first t answers m
      → StepsBegin Begins Watches inside m l answers ts u → StepsBegin Begins Watches inside s l first (t ++ ts) u
  begin-on l s first t answers m ts u no_step more = more
  begin-on l s first t answers m ts u (one_step {t = a} {answers = rs} {m = n} {ts = b} so step) more =
      subst (λ x. StepsBegin Begins Watches inside s l first x u) (sym (append_assoc a b ts))
      (begin-on l s first a rs n (b ++ ts) u so (one_more step more))

  sofar-begins : (s m u : WalkState World) (k : ℕ) (q : Query) (f : Frame) (items ts : List TraceItem)
      → Sofar Begins inside s k q f items m → StepsBegin Begins Watches inside m f.local f.answers ts u
      → WalkBegins Begins Watches inside s k q (items ++ ts) u
  sofar-begins s m u k q f items ts h more =
      subst (λ x. WalkBegins Begins Watches inside s k q x u) (ap (λ x. x ++ ts) (sym h.items_are))
      (unended h.begins h.opens
      (begin-on f.local (with_world s h.world) [] h.rest f.answers m ts u h.steps more))

  -- one goes on so far in the innermost
  pub pending-begins : (fs : List Frame) (top : Frame) (s m u : WalkState World) (k : ℕ) (q : Query)
      (items ts : List TraceItem) → Pending Begins inside fs top m s k q items
      → StepsBegin Begins Watches inside m top.local top.answers ts u
      → WalkBegins Begins Watches inside s k q (items ++ ts) u
  unfolding Pending
  pending-begins [] top s m u k q items ts h more = sofar-begins s m u k q top items ts h more
  pending-begins (f ∷ fs) top s m u k q items ts h more =
      let inner = pending-begins fs top h.middle m u h.trader h.query h.after ts h.inner more in
      subst (λ x. WalkBegins Begins Watches inside s k q x u)
      (sym (ap (λ x. x ++ ts) h.items_are ∙ append_assoc h.before h.after ts))
      (sofar-begins s h.middle u k q f h.before (h.after ++ ts) h.sofar (visiting h.question h.is_inside inner))

  -- the innermost has ended
  pub pending-ends : (fs : List Frame) (top : Frame) (s m u : WalkState World) (k : ℕ) (q : Query)
      (items : List TraceItem) (v : Visit) → Pending Begins inside fs top m s k q items → IsEnd m top v u
      → WalkBegins Begins Watches inside s k q (items ++ item.Leave ∷ []) u
  unfolding Pending
  pending-ends [] top s m u k q items v h e = whole (walk-whole Begins inside s m u k q top items v h e)
  pending-ends (f ∷ fs) top s m u k q items v h e =
      let inner = pending-ends fs top h.middle m u h.trader h.query h.after v h.inner e in
      subst (λ x. WalkBegins Begins Watches inside s k q x u)
      (sym (ap (λ x. x ++ item.Leave ∷ []) h.items_are ∙ append_assoc h.before h.after (item.Leave ∷ [])))
      (sofar-begins s h.middle u k q f h.before (h.after ++ item.Leave ∷ []) h.sofar
      (visiting h.question h.is_inside inner))

  -- ---- a question

  steps-so : (l : Local) (answers : List StepAnswer) (s u : WalkState World) (t : List TraceItem)
      → AsksSoFar Begins Watches inside s (next_of l answers) t u
      → StepsBegin Begins Watches inside s l answers t u
  steps-so l answers s u t not_asked = no_more
  steps-so l answers s u t (had_answer {r = r} step) =
      let none : StepsBegin Begins Watches inside u l (answers ++ r ∷ []) [] u = no_more in
      let one : StepsBegin Begins Watches inside s l answers (t ++ []) u = one_more step none in
      subst (λ x. StepsBegin Begins Watches inside s l answers x u) (append-nil t) one
  steps-so l answers s u t (had_begun is inner walk) = visiting is inner walk

  -- ---- a turn

  pending-at : (s m : WalkState World) (k : ℕ) (q : Query) (stack : List Frame) (before now : List TraceItem)
      (w : Walking Begins inside s k q stack m before now) (waiting : List Frame) (top : Frame)
      → stack ≡ waiting ++ top ∷ [] → Pending Begins inside waiting top m s k q w.items
  pending-at s m k q stack before now w waiting top is =
      let same = same_from_push w.waiting waiting w.top top (sym w.is ∙ is) in
      subst (λ (f : Frame). Pending Begins inside waiting f m s k q w.items) same.1
      (subst (λ (fs : List Frame). Pending Begins inside fs w.top m s k q w.items) same.0 w.pending)

  turn-begins : (s m u : WalkState World) (k : ℕ) (q : Query) (stack : List Frame) (before now t : List TraceItem)
      (w : Walking Begins inside s k q stack m before now) → TurnsSoFar Begins Watches inside m stack t u
      → WalkBegins Begins Watches inside s k q (w.items ++ t) u
  turn-begins s m u k q stack before now t w not_turned =
      pending-begins w.waiting w.top s m m k q w.items [] w.pending no_more
  turn-begins s m u k q stack before now t w (was_asked question a so) =
      pending-begins a.waiting a.top s m u k q w.items t
      (pending-at s m k q stack before now w a.waiting a.top a.is)
      (steps-so a.top.local a.top.answers m u t
      (subst (λ (x : Next). AsksSoFar Begins Watches inside m x t u) a.question_is so))
  turn-begins s m u k q stack before now t w (had_ended waiting top v is e) =
      pending-ends waiting top s m u k q w.items v (pending-at s m k q stack before now w waiting top is) e

  -- what a walk has noted that ran out of memory
  pub record WalkedSoFar (s : WalkState World) (k : ℕ) (q : Query) (before after : List TraceItem)
      (u : WalkState World) : Type 0 where
    pub items : List TraceItem
    pub notes : after ≡ before ++ items
    pub walk : WalkBegins Begins Watches inside s k q items u

  pub turned-so-far : (s m u : WalkState World) (k : ℕ) (q : Query) (stack : List Frame)
      (before now later : List TraceItem) → Walking Begins inside s k q stack m before now
      → IsTurnSoFar Begins Watches inside m stack now later u → WalkedSoFar s k q before later u
  turned-so-far s m u k q stack before now later w t = record {
    items = w.items ++ t.items;
    notes = t.notes ∙ (ap (λ x. x ++ t.items) w.notes ∙ append_assoc before w.items t.items);
    walk = turn-begins s m u k q stack before now t.items w t.turns;
  }

  -- ---- at the beginning

  -- an entry that was made is the beginning of a walk, whatever comes
  entry-begins : (s : WalkState World) (k : ℕ) (q : Query) (e : VisitStart) (head : TraceItem) (u : World)
      → EntersTrader Begins s.world k q e head u → WalkBegins Begins Watches inside s k q (head ∷ []) (with_world s u)
  entry-begins s k q e head u (refused b) = whole (walk-refused b)
  entry-begins s k q e head u (repeated b) = whole (walk-repeat b)
  entry-begins s k q e head u (opens b o) = unended b o no_more

  pub entered-begins : (s : WalkState World) (u : World) (k : ℕ) (q : Query) (e : VisitStart) (before now : List TraceItem)
      → IsEntered Begins s.world k q e before now u → WalkedSoFar s k q before now (with_world s u)
  entered-begins s u k q e before now h = record {
    items = h.head ∷ [];
    notes = h.notes;
    walk = entry-begins s k q e h.head u h.enters;
  }

  so-far-begins : (s : WalkState World) (k : ℕ) (q : Query) (t : List TraceItem) (u : World)
      → EntersSoFar Begins Watches s.world k q t u → WalkBegins Begins Watches inside s k q t (with_world s u)
  so-far-begins s k q t u not_entered = unbegun
  so-far-begins s k q t u (only_watched w) = watched w
  so-far-begins s k q t u (entered h) = entry-begins s k q _ _ u h

  pub entered-so-far : (s : WalkState World) (u : World) (k : ℕ) (q : Query) (before now : List TraceItem)
      → IsEnteredSoFar Begins Watches s.world k q before now u → WalkedSoFar s k q before now (with_world s u)
  entered-so-far s u k q before now h = record {
    items = h.items;
    notes = h.notes;
    walk = so-far-begins s k q h.items u h.enters;
  }

  -- ---- a question that a visit answers

  module _ (s : WalkState World) (target : Ior) (q : Query) (k : ℕ) (inner : inside s.world target ≡ Some k) where
    pub entered-asked-so-far : (before now : List TraceItem) (u : World)
        → IsEnteredSoFar Begins Watches s.world k q before now u
        → IsAskedSoFar Begins Watches inside s (Forward target q) before now (with_world s u)
    entered-asked-so-far before now u h = record {
      items = h.items;
      notes = h.notes;
      asks = had_begun refl inner (so-far-begins s k q h.items u h.enters);
    }

  -- nothing was done
  pub asked-nothing : (s : WalkState World) (question : Next) (notes : List TraceItem)
      → IsAskedSoFar Begins Watches inside s question notes notes s
  asked-nothing s question notes = record { items = []; notes = sym (append-nil notes); asks = not_asked }

  pub turned-nothing : (s : WalkState World) (stack : List Frame) (notes : List TraceItem)
      → IsTurnSoFar Begins Watches inside s stack notes notes s
  turned-nothing s stack notes = record { items = []; notes = sym (append-nil notes); turns = not_turned }

  -- ---- as a turn

  pub turn-so-far : (s u : WalkState World) (stack : List Frame) (question : Next) (before now : List TraceItem)
      → HasQuestion stack question → IsAskedSoFar Begins Watches inside s question before now u
      → IsTurnSoFar Begins Watches inside s stack before now u
  turn-so-far s u stack question before now asks a = record {
    items = a.items;
    notes = a.notes;
    turns = was_asked question asks a.asks;
  }

  -- its answer was lost
  comes-so-far : (s u : WalkState World) (question : Next) (a : Asking) (t : List TraceItem)
      → Comes Begins inside s question a t u → AsksSoFar Begins Watches inside s question t u
  comes-so-far s u question a t (has-answer step) = had_answer step
  comes-so-far s u question a t (has-begun is inner b o) = had_begun is inner (unended b o no_more)

  pub asked-so-far : {X : Type 0} (s u : WalkState World) (stack : List Frame) (question : Next) (a : Asking)
      (before now : List TraceItem) (r : Result X OutOfMemory) → HasQuestion stack question
      → IsAsked Begins inside s question a before now u
      → OnErr r (IsTurnSoFar Begins Watches inside s stack before now u)
  asked-so-far s u stack question a before now (Ok x) asks h = tt
  asked-so-far s u stack question a before now (Err m) asks h = record {
    items = h.items;
    notes = h.notes;
    turns = was_asked question asks (comes-so-far s u question a h.items h.asks);
  }

  closes-as-turn : (s u : WalkState World) (stack : List Frame) (before now : List TraceItem)
      → ClosesSoFar s stack before now u → IsTurnSoFar Begins Watches inside s stack before now u
  closes-as-turn s u stack before now not_closed = turned-nothing s stack before
  closes-as-turn s u stack before now (had_closed waiting top v is e) = record {
    items = item.Leave ∷ [];
    notes = refl;
    turns = had_ended waiting top v is e;
  }

  pub turn-closes-so-far : {X : Type 0} (s u : WalkState World) (stack : List Frame) (before now : List TraceItem)
      (r : Result X OutOfMemory) → OnErr r (ClosesSoFar s stack before now u)
      → OnErr r (IsTurnSoFar Begins Watches inside s stack before now u)
  turn-closes-so-far s u stack before now (Ok x) c = tt
  turn-closes-so-far s u stack before now (Err m) c = closes-as-turn s u stack before now c

-- ---- the end of a visit

pub closed-nothing : {World : Type 0} (s u : WalkState World) (stack : List Frame) (before now : List TraceItem)
    → u ≡ s → now ≡ before → ClosesSoFar s stack before now u
closed-nothing s u stack before now same kept =
    subst (λ x. ClosesSoFar s stack before now x) (sym same)
    (subst (λ (t : List TraceItem). ClosesSoFar s stack before t s) (sym kept) not_closed)

pub closed-so-far : {World : Type 0} {X : Type 0} (s u : WalkState World) (stack waiting : List Frame) (top : Frame)
    (v : Visit) (before now : List TraceItem) (r : Result X OutOfMemory) → stack ≡ waiting ++ top ∷ [] → IsEnd s top v u
    → now ≡ before ++ item.Leave ∷ [] → OnErr r (ClosesSoFar s stack before now u)
closed-so-far s u stack waiting top v before now r is e noted =
    on-err r
    (subst (λ (t : List TraceItem). ClosesSoFar s stack before t u) (sym noted) (had_closed waiting top v is e))
