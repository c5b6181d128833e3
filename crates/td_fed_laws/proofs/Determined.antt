-- A walk's trace, its query and what was there before it determine its answer: an induction over two walks at once,
-- each in front of what is left of one list of items.
use Rattle.std.proofs.Common.{◌≡◌, ℕ, Bool, true, false, true≢false, List, [], ◌∷◌, ◌++◌, append_assoc, length}
use Rattle.std.proofs.Common.{Option, Some, refl, sym, ap, subst, ◌∙◌, slice_get}
use Rattle.std.specs.Prelude.{Ok, Err}
use mathlib.Core.Path.{fun_ext}
use Rattle.td_typecode.specs.declared.code.Any.{Any}
use Rattle.td_typecode.specs.declared.reference.Ior.{Ior}
use Rattle.td_fed.proofs.Members.{Insides, same-view}
use Rattle.td_targets.specs.Targets.{inside_group}
use Rattle.td_fed.specs.Visiting.{BeginsVisit, course, start_of}
use Rattle.td_fed_laws.specs.WalkLaws.{WalksAreDetermined}
use Rattle.td_fed_laws.proofs.Alone.{alone}
use Rattle.td_fed_laws.proofs.Leading.{no-step}
use Rattle.td_ops.specs.declared.call.Query.{Query}
use Rattle.td_ops.specs.declared.outcome.Outcome.{Outcome}
use Rattle.td_store.specs.declared.local.Local.{Local}
use Rattle.td_trader.specs.Beginning.{after_begin, begin_of}
use Rattle.td_trader.specs.Solos.{no_changes, same_marks}
use Rattle.td_trader.specs.Worlds.{View, after_begin as seen_after, history_at, store_seen, with_view}
use Rattle.td_trader.specs.declared.begin.Begin.{Begin}
use Rattle.td_walk.specs.Answers.{DrawsGathered, HasDrawn, IsAnswer}
use Rattle.td_walk.specs.Peering.{Answered as Replied, Evaluated as Valued, Failed as Missed}
use Rattle.td_walk.specs.Peering.{Evaluating, Exchange, PeerCall, Querying}
use Rattle.td_walk.specs.Visits.{AnswersRead, visit_of}
use Rattle.td_walk.specs.declared.answer.Next.{Next}
use Rattle.td_walk.specs.declared.answer.StepAnswer.{StepAnswer}
use Rattle.td_walk.specs.declared.answer.StepAnswer.TheVariants as answer
use Rattle.td_walk.specs.declared.answer.SubAnswer.{SubAnswer}
use Rattle.td_walk.specs.declared.fault.PeerFault.{PeerFault}
use Rattle.td_walk.specs.declared.gathering.Gathered.{Gathered}
use Rattle.td_walk.specs.declared.trace.TraceItem.{TraceItem}
use Rattle.td_walk.specs.declared.trace.TraceItem.TheVariants as item
use Rattle.td_walk.specs.declared.trace.Visit.{Visit}
use Rattle.td_walk.specs.declared.trace.Visit.TheVariants as visit
use Rattle.td_query_walk.specs.Walks.{WalkState, EndsVisit, OpensWith, Refused, Repeat, Start, Step, Steps, Walk}
use Rattle.td_query_walk.specs.Walks.{answer_in, call_peer, no_offers as no_answer, with_world}
use Rattle.td_query_walk.specs.Walks.{asked, asking, done, evaluated, outside, passing, refused, repeat, searching}
use Rattle.td_query_walk.specs.Walks.{no_memory_with, unevaluated, unreachable, visited}

-- ---- a beginning

-- how it begins and what it leaves
abbrev left : List View → ℕ → Query → View → Begin → List View
left w k q v b = with_view w k (seen_after v (after_begin (store_seen v) v.marks q b))

abbrev began : Query → View → Begin
began q v = begin_of v.bounds (store_seen v) (length v.history) v.marks q

same-trader : (o : Option ℕ) (n k : ℕ) → o ≡ Some n → o ≡ Some k → n ≡ k
same-trader o n k a b = let same : Some n ≡ Some k = sym a ∙ b in cc

record OneStart (start begin : Start) (u x : List View) : Type 0 where
  same : start ≡ begin
  world : u ≡ x

start-one : (w : List View) (k : ℕ) (q : Query) (start begin : Start) (u x : List View)
    → BeginsVisit no_changes same_marks w k q start u → BeginsVisit no_changes same_marks w k q begin x → OneStart start begin u x
start-one w k q start begin u x h i =
    let a = alone w k q h.begin u h.begun in
    let b = alone w k q i.begin x i.begun in
    let view = same-view (slice_get w k) a.view b.view a.is b.is in
    let same : h.begin ≡ i.begin = a.begin ∙ (ap (began q) view ∙ sym b.begin) in
    let world : u ≡ x =
    a.world ∙ (ap (λ (v : View). left w k q v h.begin) view ∙ (ap (left w k q b.view) same ∙ sym b.world)) in
    record {
      same =
          h.is ∙ (ap (λ (y : List View). start_of (length (history_at y k)) h.begin) world
          ∙ (ap (start_of (length (history_at x k))) same ∙ sym i.is));
      world = world;
    }

local-one : (k : ℕ) (l m : Local) {start begin : Start} {head first : TraceItem} → OpensWith k l start head
    → OpensWith k m begin first → start ≡ begin → l ≡ m
local-one k l m searching searching e = cc
local-one k l m searching passing e = absurd (let bad : ⊥ = cc in bad)
local-one k l m passing searching e = absurd (let bad : ⊥ = cc in bad)
local-one k l m passing passing e = cc

-- ---- items

abbrev opens_visit : TraceItem → Bool
opens_visit (item.Search trader point mark) = true
opens_visit (item.Path trader point) = true
opens_visit other = false

abbrev opens_first : List TraceItem → Bool
opens_first [] = false
opens_first (i ∷ is) = opens_visit i

opened-first : (k : ℕ) (l : Local) {start : Start} {head : TraceItem} → OpensWith k l start head → opens_visit head ≡ true
opened-first k l searching = refl
opened-first k l passing = refl

-- a visit that begins otherwise asks nothing
not-opened : (k : ℕ) (l : Local) (head i : TraceItem) (t ts : List TraceItem) {start : Start} → OpensWith k l start head
    → opens_visit i ≡ false → i ∷ ts ≡ head ∷ t → ⊥
not-opened k l head i t ts o shut e =
    true≢false (sym (opened-first k l o) ∙ (sym (ap opens_first e) ∙ shut))

behind : (i j : TraceItem) (t ts : List TraceItem) → i ∷ t ≡ j ∷ ts → t ≡ ts
behind i j t ts e = cc

-- ---- an end

abbrev HasOneAnswer : Type 0
HasOneAnswer =
    (l : Local) (answers : List StepAnswer) (word : ℕ → ℕ) (a b : SubAnswer) → IsAnswer l answers word a
    → IsAnswer l answers word b → a ≡ b

drawn-one : (l : Local) (answers : List StepAnswer) (word x y : ℕ → ℕ) → HasDrawn l answers word x
    → HasDrawn l answers word y → x ≡ y
unfolding HasDrawn
drawn-one l answers word x y a b = by-visit (visit_of l answers) a b
  where
    by-visit : (r : AnswersRead Gathered) → DrawsGathered l r word x → DrawsGathered l r word y → x ≡ y
    by-visit (Ok r) a b = fun_ext (λ k. a k ∙ sym (b k))
    by-visit (Err question) a b = elim a [ ]

course-one : (u x : WalkState (List View)) → u.world ≡ x.world → u.words ≡ x.words → u.calls ≡ x.calls → u ≡ x
course-one u x world words calls =
    ap (λ (y : List View). course y u.words u.calls) world
    ∙ (ap (λ (y : ℕ → ℕ). course x.world y u.calls) words
    ∙ ap (λ (y : List Exchange). course x.world x.words y) calls)

record OneEnd (a b : SubAnswer) (u x : WalkState (List View)) : Type 0 where
  gives : a ≡ b
  course_is : u ≡ x

end-one : HasOneAnswer → (s : WalkState (List View)) (l : Local) (answers : List StepAnswer) (a b : SubAnswer)
    (u x : WalkState (List View)) → EndsVisit s l answers a u → EndsVisit s l answers b x → OneEnd a b u x
end-one one s l answers a b u x h i = record {
  gives = one l answers s.words a b h.answer i.answer;
  course_is =
      course-one u x (h.world ∙ sym i.world) (drawn-one l answers s.words u.words x.words h.drawn i.drawn)
      (h.calls ∙ sym i.calls);
}

-- ---- two walks

-- as much is left behind both, and they come to the same
record OneVisit (r rs : List TraceItem) (v z : Visit) (u x : WalkState (List View)) : Type 0 where
  rest : r ≡ rs
  same : v ≡ z
  course_is : u ≡ x

record OneStep (r rs : List TraceItem) (a b : StepAnswer) (u x : WalkState (List View)) : Type 0 where
  rest : r ≡ rs
  same : a ≡ b
  course_is : u ≡ x

record OneRow (r rs : List TraceItem) (all every : List StepAnswer) (u x : WalkState (List View)) : Type 0 where
  rest : r ≡ rs
  same : all ≡ every
  course_is : u ≡ x

module _ (inside : Insides) (one : HasOneAnswer) where
  abbrev StepsTo : WalkState (List View) → Local → List StepAnswer → List TraceItem → List StepAnswer
      → WalkState (List View) → Type 0
  StepsTo = Steps (BeginsVisit no_changes same_marks) inside

  refused-one : (s : WalkState (List View)) (k : ℕ) (q : Query) (p n : ℕ) (o f : Outcome) (w y : List View)
      (r rs : List TraceItem) → BeginsVisit no_changes same_marks s.world k q (Refused p o) w
      → BeginsVisit no_changes same_marks s.world k q (Refused n f) y → item.Refused k p ∷ r ≡ item.Refused k n ∷ rs
      → OneVisit r rs (visit.Refused o) (visit.Refused f) (with_world s w) (with_world s y)
  refused-one s k q p n o f w y r rs b c e =
      let h = start-one s.world k q (Refused p o) (Refused n f) w y b c in
      let start : Refused p o ≡ Refused n f = h.same in
      let outcome : o ≡ f = cc in
      record {
        rest = behind (item.Refused k p) (item.Refused k n) r rs e;
        same = ap (λ (x : Outcome). visit.Refused x) outcome;
        course_is = ap (with_world s) h.world;
      }

  repeat-one : (s : WalkState (List View)) (k : ℕ) (q : Query) (p n mark number : ℕ) (w y : List View)
      (r rs : List TraceItem) → BeginsVisit no_changes same_marks s.world k q (Repeat p mark) w
      → BeginsVisit no_changes same_marks s.world k q (Repeat n number) y
      → item.Repeat k p mark ∷ r ≡ item.Repeat k n number ∷ rs
      → OneVisit r rs (visit.Answered no_answer 0) (visit.Answered no_answer 0) (with_world s w) (with_world s y)
  repeat-one s k q p n mark number w y r rs b c e =
      let h = start-one s.world k q (Repeat p mark) (Repeat n number) w y b c in
      record {
        rest = behind (item.Repeat k p mark) (item.Repeat k n number) r rs e;
        same = refl;
        course_is = ap (with_world s) h.world;
      }

  -- two visits that ask: the steps of one give those of the other
  record Asks (s : WalkState (List View)) (k : ℕ) (q : Query) (t : List TraceItem) (v : Visit) (u : WalkState (List View))
      : Type 0 where
    start : Start
    world : List View
    local : Local
    head : TraceItem
    items : List TraceItem
    answers : List StepAnswer
    middle : WalkState (List View)
    given : SubAnswer
    begins : BeginsVisit no_changes same_marks s.world k q start world
    opens : OpensWith k local start head
    steps : StepsTo (with_world s world) local [] items answers middle
    ends : EndsVisit middle local answers given u
    items_are : t ≡ head ∷ items ++ item.Leave ∷ []
    visit_is : v ≡ visit.Answered given local.attributes.max_list

  asked-one : (s : WalkState (List View)) (k : ℕ) (q : Query) (t ts r rs : List TraceItem) (v z : Visit)
      (u x : WalkState (List View)) → (a : Asks s k q t v u) → (b : Asks s k q ts z x) → t ++ r ≡ ts ++ rs
      → ((its : List TraceItem) (all : List StepAnswer) (m : WalkState (List View))
      → StepsTo (with_world s a.world) a.local [] its all m
      → a.items ++ item.Leave ∷ r ≡ its ++ item.Leave ∷ rs
      → OneRow (item.Leave ∷ r) (item.Leave ∷ rs) a.answers all a.middle m)
      → OneVisit r rs v z u x
  asked-one s k q t ts r rs v z u x a b e row =
      let h = start-one s.world k q a.start b.start a.world b.world a.begins b.begins in
      let same : b.local ≡ a.local = sym (local-one k a.local b.local a.opens b.opens h.same) in
      let steps : StepsTo (with_world s a.world) b.local [] b.items b.answers b.middle =
      subst (λ (y : List View). StepsTo (with_world s y) b.local [] b.items b.answers b.middle) (sym h.world) b.steps in
      let alike : StepsTo (with_world s a.world) a.local [] b.items b.answers b.middle =
      subst (λ (y : Local). StepsTo (with_world s a.world) y [] b.items b.answers b.middle) same steps in
      let one_list : a.head ∷ (a.items ++ item.Leave ∷ []) ++ r ≡ b.head ∷ (b.items ++ item.Leave ∷ []) ++ rs =
      sym (ap (λ (y : List TraceItem). y ++ r) a.items_are) ∙ (e ∙ ap (λ (y : List TraceItem). y ++ rs) b.items_are) in
      let behind_heads : a.items ++ item.Leave ∷ r ≡ b.items ++ item.Leave ∷ rs =
      sym (append_assoc a.items (item.Leave ∷ []) r)
      ∙ (behind a.head b.head ((a.items ++ item.Leave ∷ []) ++ r) ((b.items ++ item.Leave ∷ []) ++ rs) one_list
      ∙ append_assoc b.items (item.Leave ∷ []) rs) in
      let all = row b.items b.answers b.middle alike behind_heads in
      let end : EndsVisit a.middle a.local a.answers b.given x =
      subst (λ (y : Local). EndsVisit a.middle y a.answers b.given x) same
      (subst (λ (y : List StepAnswer). EndsVisit a.middle b.local y b.given x) (sym all.same)
      (subst (λ (y : WalkState (List View)). EndsVisit y b.local b.answers b.given x) (sym all.course_is) b.ends)) in
      let ended = end-one one a.middle a.local a.answers a.given b.given u x a.ends end in
      record {
        rest = behind item.Leave item.Leave r rs all.rest;
        same =
            a.visit_is ∙ (ap (λ (y : SubAnswer). visit.Answered y a.local.attributes.max_list) ended.gives
            ∙ (ap (λ (y : Local). visit.Answered b.given y.attributes.max_list) (sym same) ∙ sym b.visit_is));
        course_is = ended.course_is;
      }

visited-one : (inside : Insides) (s : WalkState (List View)) (target : Ior) (q : Query) (k n : ℕ)
    (ts r rs : List TraceItem)
    (v z : Visit) (u x : WalkState (List View)) → inside s.world target ≡ Some k
    → inside s.world target ≡ Some n
    → Walk (BeginsVisit no_changes same_marks) inside s n q ts z x
    → (Walk (BeginsVisit no_changes same_marks) inside s k q ts z x → OneVisit r rs v z u x)
    → OneStep r rs (answer.Offers (answer_in v)) (answer.Offers (answer_in z)) u x
visited-one inside s target q k n ts r rs v z u x i j walk here =
    let same : n ≡ k = same-trader (inside s.world target) n k j i in
    let h =
    here (subst (λ (y : ℕ). Walk (BeginsVisit no_changes same_marks) inside s y q ts z x) same walk) in
    record {
      rest = h.rest;
      same = ap (λ (y : Visit). answer.Offers (answer_in y)) h.same;
      course_is = h.course_is;
    }

outside-one : (s : WalkState (List View)) (call : PeerCall) (r rs : List TraceItem) (a b : SubAnswer)
    → item.Outside a ∷ r ≡ item.Outside b ∷ rs
    → OneStep r rs (answer.Offers a) (answer.Offers b) (call_peer s call (Replied a)) (call_peer s call (Replied b))
outside-one s call r rs a b e =
    let same : a ≡ b = cc in
    record {
      rest = behind (item.Outside a) (item.Outside b) r rs e;
      same = ap (λ (y : SubAnswer). answer.Offers y) same;
      course_is = ap (λ (y : SubAnswer). call_peer s call (Replied y)) same;
    }

failed-one : (s : WalkState (List View)) (call : PeerCall) (r rs : List TraceItem) (f g : PeerFault)
    → item.Failed f ∷ r ≡ item.Failed g ∷ rs
    → OneStep r rs answer.Failed answer.Failed (call_peer s call (Missed f)) (call_peer s call (Missed g))
failed-one s call r rs f g e =
    let same : f ≡ g = cc in
    record {
      rest = behind (item.Failed f) (item.Failed g) r rs e;
      same = refl;
      course_is = ap (λ (y : PeerFault). call_peer s call (Missed y)) same;
    }

evaluated-one : (s : WalkState (List View)) (call : PeerCall) (r rs : List TraceItem) (a b : Any)
    → item.Evaluated a ∷ r ≡ item.Evaluated b ∷ rs
    → OneStep r rs (answer.Evaluated a) (answer.Evaluated b) (call_peer s call (Valued a)) (call_peer s call (Valued b))
evaluated-one s call r rs a b e =
    let same : a ≡ b = cc in
    record {
      rest = behind (item.Evaluated a) (item.Evaluated b) r rs e;
      same = ap (λ (y : Any). answer.Evaluated y) same;
      course_is = ap (λ (y : Any). call_peer s call (Valued y)) same;
    }

-- the steps from there on, after the same answer
moved : (inside : Insides) (m n : WalkState (List View)) (l : Local) (answers : List StepAnswer) (a b : StepAnswer)
    (ps : List TraceItem) (every : List StepAnswer) (x : WalkState (List View)) → m ≡ n → a ≡ b
    → Steps (BeginsVisit no_changes same_marks) inside n l (answers ++ b ∷ []) ps every x
    → Steps (BeginsVisit no_changes same_marks) inside m l (answers ++ a ∷ []) ps every x
moved inside m n l answers a b ps every x course_is same others =
    let turned : Steps (BeginsVisit no_changes same_marks) inside n l (answers ++ a ∷ []) ps every x =
    subst (λ (y : StepAnswer). Steps (BeginsVisit no_changes same_marks) inside n l (answers ++ y ∷ []) ps every x)
    (sym same) others in
    subst (λ (y : WalkState (List View)). Steps (BeginsVisit no_changes same_marks) inside y l (answers ++ a ∷ []) ps
    every x) (sym course_is) turned

mutual
  walk-one : (inside : Insides) (one : HasOneAnswer) {s : WalkState (List View)} {k : ℕ} {q : Query}
      {t ts : List TraceItem} {v z : Visit} {u x : WalkState (List View)}
      → Walk (BeginsVisit no_changes same_marks) inside s k q t v u
      → Walk (BeginsVisit no_changes same_marks) inside s k q ts z x → (r rs : List TraceItem)
      → t ++ r ≡ ts ++ rs → OneVisit r rs v z u x
  walk-one inside one (refused {s = s} {k = k} {q = q} {point = p} {o = o} {w = w} b)
      (refused {point = n} {o = f} {w = y} c) r rs e =
      refused-one inside one s k q p n o f w y r rs b c e
  walk-one inside one (refused b) (repeat c) r rs e = absurd (let bad : ⊥ = cc in bad)
  walk-one inside one (refused {k = k} {point = p} b) (asking {l = l} {head = head} {t = ts} c o steps en) r rs e =
      absurd (not-opened k l head (item.Refused k p) ((ts ++ item.Leave ∷ []) ++ rs) r o refl e)
  walk-one inside one (repeat b) (refused c) r rs e = absurd (let bad : ⊥ = cc in bad)
  walk-one inside one (repeat {s = s} {k = k} {q = q} {point = p} {mark = m} {w = w} b)
      (repeat {point = n} {mark = number} {w = y} c) r rs e =
      repeat-one inside one s k q p n m number w y r rs b c e
  walk-one inside one (repeat {k = k} {point = p} {mark = m} b)
      (asking {l = l} {head = head} {t = ts} c o steps en) r rs
      e =
      absurd (not-opened k l head (item.Repeat k p m) ((ts ++ item.Leave ∷ []) ++ rs) r o refl e)
  walk-one inside one (asking {k = k} {l = l} {head = head} {t = t} b o steps en) (refused {point = p} c) r rs e =
      absurd (not-opened k l head (item.Refused k p) ((t ++ item.Leave ∷ []) ++ r) rs o refl (sym e))
  walk-one inside one (asking {k = k} {l = l} {head = head} {t = t} b o steps en)
      (repeat {point = p} {mark = m} c) r rs e =
      absurd (not-opened k l head (item.Repeat k p m) ((t ++ item.Leave ∷ []) ++ r) rs o refl (sym e))
  walk-one inside one (asking {s = s} {k = k} {q = q} {start = start} {w = w} {l = l} {head = head} {t = t}
      {answers = answers} {m = m} {a = a} {u = u} b o steps en)
      (asking {start = begin} {w = y} {l = n} {head = first} {t = ts} {answers = all} {m = middle} {a = c} {u = x} d
      p others ends) r rs e =
      asked-one inside one s k q (head ∷ t ++ item.Leave ∷ []) (first ∷ ts ++ item.Leave ∷ []) r rs
      (visit.Answered a l.attributes.max_list) (visit.Answered c n.attributes.max_list) u x
      (record {
        start = start;
        world = w;
        local = l;
        head = head;
        items = t;
        answers = answers;
        middle = m;
        given = a;
        begins = b;
        opens = o;
        steps = steps;
        ends = en;
        items_are = refl;
        visit_is = refl;
      })
      (record {
        start = begin;
        world = y;
        local = n;
        head = first;
        items = ts;
        answers = all;
        middle = middle;
        given = c;
        begins = d;
        opens = p;
        steps = others;
        ends = ends;
        items_are = refl;
        visit_is = refl;
      })
      e (λ its every f more same. steps-one inside one steps more (item.Leave ∷ r) (item.Leave ∷ rs) same)

  steps-one : (inside : Insides) (one : HasOneAnswer) {s : WalkState (List View)} {l : Local} {answers : List StepAnswer}
      {t ts : List TraceItem} {all every : List StepAnswer} {u x : WalkState (List View)}
      → Steps (BeginsVisit no_changes same_marks) inside s l answers t all u
      → Steps (BeginsVisit no_changes same_marks) inside s l answers ts every x → (r rs : List TraceItem)
      → t ++ r ≡ ts ++ rs → OneRow r rs all every u x
  steps-one inside one (done e) (done i) r rs same = record { rest = same; same = refl; course_is = refl }
  steps-one inside one (done e) (asked step steps) r rs same = absurd (no-step inside step e)
  steps-one inside one (asked step steps) (done e) r rs same = absurd (no-step inside step e)
  steps-one inside one (asked {s = s} {l = l} {answers = answers} {t = t} {r = a} {m = m} {ts = ts} {all = all} {u = u}
      step steps) (asked {t = p} {r = b} {m = n} {ts = ps} {all = every} {u = x} other others) r rs same =
      let here =
      step-one inside one step other (ts ++ r) (ps ++ rs)
      (sym (append_assoc t ts r) ∙ (same ∙ append_assoc p ps rs)) in
      steps-one inside one steps
      (moved inside m n l answers a b ps every x here.course_is here.same others) r rs here.rest

  step-one : (inside : Insides) (one : HasOneAnswer) {s : WalkState (List View)} {question : Next} {t ts : List TraceItem}
      {a b : StepAnswer} {u x : WalkState (List View)}
      → Step (BeginsVisit no_changes same_marks) inside s question t a u
      → Step (BeginsVisit no_changes same_marks) inside s question ts b x → (r rs : List TraceItem)
      → t ++ r ≡ ts ++ rs → OneStep r rs a b u x
  step-one inside one (visited {s = s} {target = target} {q = q} {k = k} {v = v} {u = u} i walk)
      (visited {k = n} {t = ts} {v = z} {u = x} j other) r rs e =
      visited-one inside s target q k n ts r rs v z u x i j other (λ same. walk-one inside one walk same r rs e)
  step-one inside one (visited i walk) (outside j small) r rs e = absurd (let bad : ⊥ = cc in bad)
  step-one inside one (visited i walk) (no_memory_with j f) r rs e = absurd (let bad : ⊥ = cc in bad)
  step-one inside one (outside i small) (visited j walk) r rs e = absurd (let bad : ⊥ = cc in bad)
  step-one inside one (outside {s = s} {target = target} {q = q} {a = a} i small) (outside {a = b} j limited) r rs e =
      outside-one s (Querying target q) r rs a b e
  step-one inside one (outside i small) (no_memory_with j f) r rs e = absurd (let bad : ⊥ = cc in bad)
  step-one inside one (no_memory_with i f) (visited j walk) r rs e = absurd (let bad : ⊥ = cc in bad)
  step-one inside one (no_memory_with i f) (outside j small) r rs e = absurd (let bad : ⊥ = cc in bad)
  step-one inside one (no_memory_with {s = s} {target = target} {q = q} {f = f} i m) (no_memory_with {f = g} j n) r rs e =
      failed-one s (Querying target q) r rs f g e
  step-one inside one (evaluated {s = s} {e = target} {name = name} {returned = returned} {extra = extra} {value = a} i)
      (evaluated {value = b} j) r rs e =
      evaluated-one s (Evaluating target name returned extra) r rs a b e
  step-one inside one (evaluated i) (unevaluated j f) r rs e = absurd (let bad : ⊥ = cc in bad)
  step-one inside one (evaluated i) (unreachable j) r rs e = absurd (let bad : ⊥ = cc in bad)
  step-one inside one (unevaluated i f) (evaluated j) r rs e = absurd (let bad : ⊥ = cc in bad)
  step-one inside one (unevaluated {s = s} {e = target} {name = name} {returned = returned} {extra = extra} {f = f} i m)
      (unevaluated {f = g} j n) r rs e =
      failed-one s (Evaluating target name returned extra) r rs f g e
  step-one inside one (unevaluated i f) (unreachable j) r rs e = absurd (let bad : ⊥ = cc in bad)
  step-one inside one (unreachable i) (evaluated j) r rs e = absurd (let bad : ⊥ = cc in bad)
  step-one inside one (unreachable i) (unevaluated j f) r rs e = absurd (let bad : ⊥ = cc in bad)
  step-one inside one (unreachable {s = s} i) (unreachable j) r rs e =
      record { rest = behind item.Unreachable item.Unreachable r rs e; same = refl; course_is = refl }

pub determined : HasOneAnswer → WalksAreDetermined
determined one home s u x k q t v z walk other =
    let h = walk-one (inside_group home) one walk other [] [] refl in (h.same, h.course_is)
