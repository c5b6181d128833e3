-- A walk on its way, turn by turn: what was noted and the visits that are open make a walk with whatever comes, and
-- less is left with each turn.
use Rattle.std.proofs.Common.{◌≡◌, ℕ, ◌+◌, ◌<◌, List, [], ◌∷◌, ◌++◌, length, Option, None, Some, sym}
use Rattle.std.proofs.Common.{ap, subst, ◌∙◌, append_assoc, length-append, arith}
use Rattle.std.proofs.lemmas.List.{same_from_push}
use Rattle.std.specs.List.{AllByRecursion}
use Rattle.td_typecode.specs.declared.reference.Ior.{Ior}
use Rattle.td_fed.proofs.Measures.{falls-answered, falls-back, falls-deeper, measure, measure_all, measure_at, most}
use Rattle.td_fed.proofs.Opening.{IsBegun, goes-less-far}
use Rattle.td_fed.proofs.Pending.{Pending, Sofar}
use Rattle.td_fed.proofs.Pending.{answered as asked-on, back as ended-on, began, deeper as begun-on, whole}
use Rattle.td_fed.specs.Entering.{EntersTrader, IsEntered, new_frame}
use Rattle.td_fed.specs.Entering.{opens, refused, repeated}
use Rattle.td_fed.specs.Turning.{HasQuestion, StepsWalk, IsWalkTurn, TakesAnswer, answered, begun, ended}
use Rattle.td_fed.specs.declared.entering.VisitStart.{VisitStart}
use Rattle.td_fed.specs.declared.entering.VisitStart.TheVariants as entry
use Rattle.td_ops.specs.declared.call.Query.{Query}
use Rattle.td_store.specs.declared.local.Local.{Local}
use Rattle.td_visit.specs.Standing.{FrameState as Frame}
use Rattle.td_walk.specs.Visits.{next_of}
use Rattle.td_walk.specs.declared.answer.Next.{Next}
use Rattle.td_walk.specs.declared.answer.StepAnswer.{StepAnswer}
use Rattle.td_walk.specs.declared.answer.StepAnswer.TheVariants as answer
use Rattle.td_walk.specs.declared.trace.TraceItem.{TraceItem}
use Rattle.td_walk.specs.declared.trace.TraceItem.TheVariants as item
use Rattle.td_walk.specs.declared.trace.Visit.{Visit}
use Rattle.td_query_walk.specs.Reach.{HasReadPath}
use Rattle.td_query_walk.specs.Walks.{WalkState, OpensWith, Start, Step, Walk, answer_in, with_world}
use Rattle.td_query_walk.specs.Walks.{refused as walk-refused, repeat as walk-repeat}

-- ---- one turn

module _ {World : Type 0} (Begins : World → (trader : ℕ) → Query → Start → World → Type 0)
    (inside : World → (target : Ior) → Option ℕ) where
  -- from `before` on, a walk has come so far
  pub record Walking (s : WalkState World) (k : ℕ) (q : Query) (stack : List Frame) (m : WalkState World)
      (before now : List TraceItem) : Type 0 where
    pub waiting : List Frame
    pub top : Frame
    pub is : stack ≡ waiting ++ top ∷ []
    pub items : List TraceItem
    pub notes : now ≡ before ++ items
    pub pending : Pending Begins inside waiting top m s k q items

  -- however the innermost visit is found
  pending_at : (s m : WalkState World) (k : ℕ) (q : Query) (stack : List Frame) (before now : List TraceItem)
      (w : Walking s k q stack m before now) (waiting : List Frame) (top : Frame) → stack ≡ waiting ++ top ∷ []
      → Pending Begins inside waiting top m s k q w.items
  pending_at s m k q stack before now w waiting top is =
      let same = same_from_push w.waiting waiting w.top top (sym w.is ∙ is) in
      subst (λ (f : Frame). Pending Begins inside waiting f m s k q w.items) same.1
      (subst (λ (fs : List Frame). Pending Begins inside fs w.top m s k q w.items) same.0 w.pending)

  noted : (before now later : List TraceItem) (xs ys : List TraceItem) → now ≡ before ++ xs → later ≡ now ++ ys
      → later ≡ before ++ (xs ++ ys)
  noted before now later xs ys a b = b ∙ (ap (λ t. t ++ ys) a ∙ append_assoc before xs ys)

  -- the question that stands in the one that takes the answer
  asks-of : (stack after : List Frame) (question : Next) (r : StepAnswer) (a : HasQuestion stack question)
      (t : TakesAnswer stack r after) → question ≡ next_of t.top.local t.top.answers
  asks-of stack after question r a t =
      let same = same_from_push a.waiting t.waiting a.top t.top (sym a.is ∙ t.is) in
      a.question_is ∙ ap (λ (f : Frame). next_of f.local f.answers) same.1

  goes-on : (s m u : WalkState World) (k : ℕ) (q : Query) (stack after : List Frame) (before now later ts : List TraceItem)
      → Walking s k q stack m before now → later ≡ now ++ ts → StepsWalk Begins inside m stack after ts u
      → Walking s k q after u before later
  goes-on s m u k q stack after before now later ts w n (answered question r a step t) = record {
    waiting = t.waiting;
    top = record { local = t.top.local; answers = t.top.answers ++ r ∷ [] };
    is = t.after_is;
    items = w.items ++ ts;
    notes = noted before now later w.items ts w.notes n;
    pending = asked-on Begins inside t.waiting s m u k q t.top.local t.top.answers w.items ts r
        (pending_at s m k q stack before now w t.waiting t.top t.is)
        (subst (λ (x : Next). Step Begins inside m x ts r u) (asks-of stack after question r a t) step);
  }
  goes-on s m u k q stack after before now later ts w n (begun target sub i start l head v a is b o few) = record {
    waiting = a.waiting ++ a.top ∷ [];
    top = new_frame l;
    is = ap (λ fs. fs ++ new_frame l ∷ []) a.is;
    items = w.items ++ head ∷ [];
    notes = noted before now later w.items (head ∷ []) w.notes n;
    pending = begun-on Begins inside a.waiting a.top s m k q w.items target sub i start v l head
        (pending_at s m k q stack before now w a.waiting a.top a.is) (sym a.question_is) is b o;
  }
  goes-on s m u k q stack after before now later ts w n (ended waiting top v is e t) = record {
    waiting = t.waiting;
    top = record { local = t.top.local; answers = t.top.answers ++ answer.Offers (answer_in v) ∷ [] };
    is = t.after_is;
    items = w.items ++ item.Leave ∷ [];
    notes = noted before now later w.items (item.Leave ∷ []) w.notes n;
    pending = ended-on Begins inside t.waiting t.top.local t.top.answers top s m u k q w.items v
        (subst (λ (fs : List Frame). Pending Begins inside fs top m s k q w.items) t.is
        (pending_at s m k q stack before now w waiting top is)) e;
  }

  pub turned : (s m u : WalkState World) (k : ℕ) (q : Query) (stack after : List Frame) (before now later : List TraceItem)
      → Walking s k q stack m before now → IsWalkTurn Begins inside m stack None after now later u
      → Walking s k q after u before later
  turned s m u k q stack after before now later w t =
      goes-on s m u k q stack after before now later t.items w t.notes t.turns

  -- what a walk comes to, with all that was noted
  pub record Walked (s : WalkState World) (k : ℕ) (q : Query) (before after : List TraceItem) (v : Visit)
      (u : WalkState World) : Type 0 where
    pub items : List TraceItem
    pub notes : after ≡ before ++ items
    pub walk : Walk Begins inside s k q items v u

  as-first : (s m : WalkState World) (k : ℕ) (q : Query) (top : Frame) (items : List TraceItem)
      → Pending Begins inside [] top m s k q items → Sofar Begins inside s k q top items m
  unfolding Pending
  as-first s m k q top items p = p

  pub last : (s m u : WalkState World) (k : ℕ) (q : Query) (stack after : List Frame) (before now later : List TraceItem)
      (v : Visit) → Walking s k q stack m before now → IsWalkTurn Begins inside m stack (Some v) after now later u
      → Walked s k q before later v u
  last s m u k q stack after before now later v w t =
      let e = t.turns in
      record {
        items = w.items ++ item.Leave ∷ [];
        notes = noted before now later w.items (item.Leave ∷ []) w.notes
            (t.notes ∙ ap (λ ts. now ++ ts) e.items_are);
        walk = whole Begins inside s m u k q e.top w.items v
            (as-first s m k q e.top w.items (pending_at s m k q stack before now w [] e.top e.is)) e.end;
      }

  -- ---- at the beginning

  as-pending : (s m : WalkState World) (k : ℕ) (q : Query) (top : Frame) (items : List TraceItem)
      → Sofar Begins inside s k q top items m → Pending Begins inside [] top m s k q items
  unfolding Pending
  as-pending s m k q top items p = p

  abbrev SofarOf : WalkState World → ℕ → Query → TraceItem → World → VisitStart → Type 0
  SofarOf s k q head u (entry.Ended v) = Unit {0}
  SofarOf s k q head u (entry.Open f) = Sofar Begins inside s k q f (head ∷ []) (with_world s u)

  sofar-of : (s : WalkState World) (k : ℕ) (q : Query) (head : TraceItem) (u : World) (e : VisitStart)
      → EntersTrader Begins s.world k q e head u → SofarOf s k q head u e
  sofar-of s k q head u e (refused b) = tt
  sofar-of s k q head u e (repeated b) = tt
  sofar-of s k q head u e (opens b o) = began Begins inside s k q _ u _ head b o

  pub first-open : (s : WalkState World) (u : World) (k : ℕ) (q : Query) (f : Frame) (stack : List Frame)
      (before now : List TraceItem) → stack ≡ f ∷ [] → IsEntered Begins s.world k q (entry.Open f) before now u
      → Walking s k q stack (with_world s u) before now
  first-open s u k q f stack before now is h = record {
    waiting = [];
    top = f;
    is = is;
    items = h.head ∷ [];
    notes = h.notes;
    pending = as-pending s (with_world s u) k q f (h.head ∷ []) (sofar-of s k q h.head u (entry.Open f) h.enters);
  }

  -- a visit that asked nothing
  abbrev WalkedOf : WalkState World → ℕ → Query → TraceItem → World → VisitStart → Type 0
  WalkedOf s k q head u (entry.Ended v) = Walk Begins inside s k q (head ∷ []) v (with_world s u)
  WalkedOf s k q head u (entry.Open f) = Unit {0}

  walked-of : (s : WalkState World) (k : ℕ) (q : Query) (head : TraceItem) (u : World) (e : VisitStart)
      → EntersTrader Begins s.world k q e head u → WalkedOf s k q head u e
  walked-of s k q head u e (refused b) = walk-refused b
  walked-of s k q head u e (repeated b) = walk-repeat b
  walked-of s k q head u e (opens b o) = tt

  pub ended-at-once : (s : WalkState World) (u : World) (k : ℕ) (q : Query) (v : Visit) (before now : List TraceItem)
      → IsEntered Begins s.world k q (entry.Ended v) before now u → Walked s k q before now v (with_world s u)
  ended-at-once s u k q v before now h = record {
    items = h.head ∷ [];
    notes = h.notes;
    walk = walked-of s k q h.head u (entry.Ended v) h.enters;
  }

  -- ---- the open visits

  pub none-left : (stack after : List Frame) (ts : List TraceItem) (m u : WalkState World)
      → StepsWalk Begins inside m stack after ts u → 0 < length after
  none-left stack after ts m u (answered question r a step t) =
      let f : Frame = record { local = t.top.local; answers = t.top.answers ++ r ∷ [] } in
      let n = ap (λ (fs : List Frame). length fs) t.after_is ∙ length-append t.waiting (f ∷ []) in
      omega (arith, n)
  none-left stack after ts m u (begun target sub i start l head v a is b o few) =
      let n = length-append stack (new_frame l ∷ []) in omega (arith, n)
  none-left stack after ts m u (ended waiting top v is e t) =
      let f : Frame = record { local = t.top.local; answers = t.top.answers ++ answer.Offers (answer_in v) ∷ [] } in
      let n = ap (λ (fs : List Frame). length fs) t.after_is ∙ length-append t.waiting (f ∷ []) in
      omega (arith, n)

-- all of them were begun with queries that could be read
abbrev pub AllRead : List Frame → Type 0
AllRead fs = AllByRecursion (λ f. HasReadPath f.local) fs

front : (xs ys : List Frame) → AllRead (xs ++ ys) → AllRead xs
front [] ys h = tt
front (x ∷ xs) ys h = (h.0, front xs ys h.1)

back : (xs ys : List Frame) → AllRead (xs ++ ys) → AllRead ys
back [] ys h = h
back (x ∷ xs) ys h = back xs ys h.1

push : (xs : List Frame) (f : Frame) → AllRead xs → HasReadPath f.local → AllRead (xs ++ f ∷ [])
push [] f h r = (r, tt)
push (x ∷ xs) f h r = (h.0, push xs f h.1 r)

top-read : (stack waiting : List Frame) (top : Frame) → AllRead stack → stack ≡ waiting ++ top ∷ [] → HasReadPath top.local
top-read stack waiting top h is = (back waiting (top ∷ []) (subst AllRead is h)).0

rest-read : (stack waiting : List Frame) (top : Frame) → AllRead stack → stack ≡ waiting ++ top ∷ [] → AllRead waiting
rest-read stack waiting top h is = front waiting (top ∷ []) (subst AllRead is h)

takes-read : (stack after : List Frame) (r : StepAnswer) (t : TakesAnswer stack r after) → AllRead stack → AllRead after
takes-read stack after r t h =
    subst AllRead (sym t.after_is)
    (push t.waiting (record { local = t.top.local; answers = t.top.answers ++ r ∷ [] })
    (rest-read stack t.waiting t.top h t.is) (top-read stack t.waiting t.top h t.is))

-- less is left once the innermost visit has taken its answer
takes-less : (stack after : List Frame) (r : StepAnswer) (t : TakesAnswer stack r after)
    → measure_all most after < measure_all most stack
takes-less stack after r t =
    let f : Frame = record { local = t.top.local; answers = t.top.answers ++ r ∷ [] } in
    let a = ap (measure_all most) t.after_is ∙ measure_at most t.waiting f in
    let b = ap (measure_all most) t.is ∙ measure_at most t.waiting t.top in
    let room : length t.top.answers < most = omega (arith, t.room) in
    let less = falls-answered most t.waiting t.top.local t.top.answers r room in
    omega (arith, a, b, less)

module _ {World : Type 0} (Begins : World → (trader : ℕ) → Query → Start → World → Type 0)
    (inside : World → (target : Ior) → Option ℕ)
    (reads : (w u : World) (k : ℕ) (q : Query) (start : Start) (l : Local) (head : TraceItem) → Begins w k q start u
    → OpensWith k l start head → IsBegun q l) where
  pub still-read : (stack after : List Frame) (ts : List TraceItem) (m u : WalkState World)
      → StepsWalk Begins inside m stack after ts u → AllRead stack → AllRead after
  still-read stack after ts m u (answered question r a step t) h = takes-read stack after r t h
  still-read stack after ts m u (begun target sub i start l head v a is b o few) h =
      push stack (new_frame l) h (reads m.world v i sub start l head b o).read
  still-read stack after ts m u (ended waiting top v is e t) h =
      takes-read waiting after (answer.Offers (answer_in v)) t (rest-read stack waiting top h is)

  pub less-left : (stack after : List Frame) (ts : List TraceItem) (m u : WalkState World)
      → StepsWalk Begins inside m stack after ts u → AllRead stack → measure_all most after < measure_all most stack
  less-left stack after ts m u (answered question r a step t) h = takes-less stack after r t
  less-left stack after ts m u (begun target sub i start l head v a is b o few) h =
      let far = goes-less-far a.top target sub l (top-read stack a.waiting a.top h a.is) a.question_is
      (reads m.world v i sub start l head b o) few in
      let less = falls-deeper most a.waiting a.top l far in
      let c = measure_at most (a.waiting ++ a.top ∷ []) (new_frame l) in
      let d = ap (λ (fs : List Frame). measure_all most (fs ++ new_frame l ∷ [])) a.is in
      let e = ap (measure_all most) a.is ∙ measure_at most a.waiting a.top in
      omega (arith, less, c, d, e)
  less-left stack after ts m u (ended waiting top v is e t) h =
      let r = answer.Offers (answer_in v) in
      let f : Frame = record { local = t.top.local; answers = t.top.answers ++ r ∷ [] } in
      let a = ap (measure_all most) t.after_is ∙ measure_at most t.waiting f in
      let b = ap (measure_all most) is ∙ (measure_at most waiting top
      ∙ ap (λ (fs : List Frame). measure most fs top) t.is) in
      let room : length t.top.answers < most = omega (arith, t.room) in
      let less = falls-back most t.waiting t.top.local t.top.answers r top room in
      omega (arith, a, b, less)
