-- How far a walk has come: the visits that wait for one another, with what was noted in each.
use Rattle.std.proofs.Common.{◌≡◌, ℕ, List, [], ◌∷◌, ◌++◌, append_assoc, append-nil, refl, sym, ap, subst, ◌∙◌}
use Rattle.std.specs.Prelude.{Option, Some}
use Rattle.td_typecode.specs.declared.reference.Ior.{Ior}
use Rattle.td_fed.specs.Entering.{IsEnd, new_frame}
use Rattle.td_ops.specs.declared.call.Query.{Query}
use Rattle.td_store.specs.declared.local.Local.{Local}
use Rattle.td_walk.specs.Visits.{next_of}
use Rattle.td_query_walk.specs.Walks.{WalkState, OpensWith, Start, Step, Steps, Walk, answer_in, with_world}
use Rattle.td_query_walk.specs.Walks.{asked, asking, done, visited}
use Rattle.td_walk.specs.declared.answer.Next.TheVariants.{Forward}
use Rattle.td_walk.specs.declared.answer.StepAnswer.{StepAnswer}
use Rattle.td_walk.specs.declared.answer.StepAnswer.TheVariants as answer
use Rattle.td_visit.specs.Standing.{FrameState as Frame}
use Rattle.td_walk.specs.declared.trace.TraceItem.{TraceItem}
use Rattle.td_walk.specs.declared.trace.TraceItem.TheVariants as item
use Rattle.td_walk.specs.declared.trace.Visit.{Visit}

module _ {World : Type 0} (Begins : World → (trader : ℕ) → Query → Start → World → Type 0)
    (inside : World → (target : Ior) → Option ℕ) where
  -- from the first answers on, each next question was answered, up to these
  pub data StepsTo (l : Local) (s : WalkState World) (first : List StepAnswer) : List TraceItem → List StepAnswer
      → WalkState World → Type 0 where
    no_step : StepsTo l s first [] first s
    one_step : {t : List TraceItem} {answers : List StepAnswer} {m : WalkState World} {ts : List TraceItem}
        {r : StepAnswer} {u : WalkState World} → StepsTo l s first t answers m
        → Step Begins inside m (next_of l answers) ts r u → StepsTo l s first (t ++ ts) (answers ++ r ∷ []) u

  -- whatever is asked from there on, the whole is what was asked and that
  steps-on : (l : Local) (s : WalkState World) (first : List StepAnswer) (t : List TraceItem) (answers : List StepAnswer)
      (m : WalkState World) (ts : List TraceItem) (all : List StepAnswer) (u : WalkState World)
      → StepsTo l s first t answers m → Steps Begins inside m l answers ts all u
      → Steps Begins inside s l first (t ++ ts) all u
  steps-on l s first t answers m ts all u no_step more = more
  steps-on l s first t answers m ts all u (one_step {t = a} {answers = rs} {m = n} {ts = b} so step) more =
      subst (λ x. Steps Begins inside s l first x all u) (sym (append_assoc a b ts))
      (steps-on l s first a rs n (b ++ ts) all u so (asked step more))

  -- the visit began so and has taken its answers
  pub record Sofar (s : WalkState World) (k : ℕ) (q : Query) (f : Frame) (items : List TraceItem)
      (m : WalkState World) : Type 0 where
    pub start : Start
    pub world : World
    pub begins : Begins s.world k q start world
    pub head : TraceItem
    pub opens : OpensWith k f.local start head
    pub rest : List TraceItem
    pub items_are : items ≡ head ∷ rest
    pub steps : StepsTo f.local (with_world s world) [] rest f.answers m

  -- the visit waits for the answer of another one, of which this holds
  pub record Waits (s : WalkState World) (k : ℕ) (q : Query) (f : Frame) (items : List TraceItem)
      (Inner : WalkState World → ℕ → Query → List TraceItem → Type 0) : Type 0 where
    pub middle : WalkState World
    pub before : List TraceItem
    pub sofar : Sofar s k q f before middle
    pub target : Ior
    pub query : Query
    pub question : next_of f.local f.answers ≡ Forward target query
    pub trader : ℕ
    pub is_inside : inside middle.world target ≡ Some trader
    pub after : List TraceItem
    pub items_are : items ≡ before ++ after
    pub inner : Inner middle trader query after

  -- the visits that wait, the outermost first, and the open one
  unfoldable pub Pending : List Frame → Frame → WalkState World → WalkState World → ℕ → Query → List TraceItem → Type 0
  Pending [] top m s k q items = Sofar s k q top items m
  Pending (f ∷ fs) top m s k q items = Waits s k q f items (Pending fs top m)

  -- ---- a question was answered

  sofar-asked : (s m u : WalkState World) (k : ℕ) (q : Query) (l : Local) (rs : List StepAnswer) (items t : List TraceItem)
      (r : StepAnswer) → Sofar s k q (record { local = l; answers = rs }) items m
      → Step Begins inside m (next_of l rs) t r u
      → Sofar s k q (record { local = l; answers = rs ++ r ∷ [] }) (items ++ t) u
  sofar-asked s m u k q l rs items t r h step = record {
    start = h.start;
    world = h.world;
    begins = h.begins;
    head = h.head;
    opens = h.opens;
    rest = h.rest ++ t;
    items_are = ap (λ x. x ++ t) h.items_are;
    steps = one_step h.steps step;
  }

  pub answered : (fs : List Frame) (s m u : WalkState World) (k : ℕ) (q : Query) (l : Local) (rs : List StepAnswer)
      (items t : List TraceItem) (r : StepAnswer) → Pending fs (record { local = l; answers = rs }) m s k q items
      → Step Begins inside m (next_of l rs) t r u
      → Pending fs (record { local = l; answers = rs ++ r ∷ [] }) u s k q (items ++ t)
  unfolding Pending
  answered [] s m u k q l rs items t r h step = sofar-asked s m u k q l rs items t r h step
  answered (f ∷ fs) s m u k q l rs items t r h step = record {
    middle = h.middle;
    before = h.before;
    sofar = h.sofar;
    target = h.target;
    query = h.query;
    question = h.question;
    trader = h.trader;
    is_inside = h.is_inside;
    after = h.after ++ t;
    items_are = ap (λ x. x ++ t) h.items_are ∙ append_assoc h.before h.after t;
    inner = answered fs h.middle m u h.trader h.query l rs h.after t r h.inner step;
  }

  -- ---- a visit begins

  pub began : (s : WalkState World) (k : ℕ) (q : Query) (start : Start) (w : World) (l : Local) (head : TraceItem)
      → Begins s.world k q start w → OpensWith k l start head
      → Sofar s k q (new_frame l) (head ∷ []) (with_world s w)
  began s k q start w l head b o = record {
    start = start;
    world = w;
    begins = b;
    head = head;
    opens = o;
    rest = [];
    items_are = refl;
    steps = no_step;
  }

  -- the open visit waits for one that begins
  pub deeper : (fs : List Frame) (top : Frame) (s m : WalkState World) (k : ℕ) (q : Query) (items : List TraceItem)
      (target : Ior) (query : Query) (n : ℕ) (start : Start) (w : World) (l : Local) (head : TraceItem)
      → Pending fs top m s k q items → next_of top.local top.answers ≡ Forward target query
      → inside m.world target ≡ Some n → Begins m.world n query start w → OpensWith n l start head
      → Pending (fs ++ top ∷ []) (new_frame l) (with_world m w) s k q (items ++ head ∷ [])
  unfolding Pending
  deeper [] top s m k q items target query n start w l head h is i b o = record {
    middle = m;
    before = items;
    sofar = h;
    target = target;
    query = query;
    question = is;
    trader = n;
    is_inside = i;
    after = head ∷ [];
    items_are = refl;
    inner = began m n query start w l head b o;
  }
  deeper (f ∷ fs) top s m k q items target query n start w l head h is i b o = record {
    middle = h.middle;
    before = h.before;
    sofar = h.sofar;
    target = h.target;
    query = h.query;
    question = h.question;
    trader = h.trader;
    is_inside = h.is_inside;
    after = h.after ++ head ∷ [];
    items_are = ap (λ x. x ++ head ∷ []) h.items_are ∙ append_assoc h.before h.after (head ∷ []);
    inner = deeper fs top h.middle m h.trader h.query h.after target query n start w l head h.inner is i b o;
  }

  -- ---- a visit ends

  -- the one that nothing waits for
  pub whole : (s m u : WalkState World) (k : ℕ) (q : Query) (f : Frame) (items : List TraceItem) (v : Visit)
      → Sofar s k q f items m → IsEnd m f v u → Walk Begins inside s k q (items ++ item.Leave ∷ []) v u
  whole s m u k q f items v h e =
      let steps =
      steps-on f.local (with_world s h.world) [] h.rest f.answers m [] f.answers m h.steps (done e.ends.done) in
      let walk = asking h.begins h.opens steps e.ends in
      subst (λ x. Walk Begins inside s k q x v u) (
      ap (λ x. h.head ∷ (x ++ item.Leave ∷ [])) (append-nil h.rest) ∙ ap (λ x. x ++ item.Leave ∷ []) (sym h.items_are)
      ) (subst (λ x. Walk Begins inside s k q (h.head ∷ (h.rest ++ []) ++ item.Leave ∷ []) x u) (sym e.is) walk)

  -- the one that another waits for, which takes its answer
  pub back : (fs : List Frame) (l : Local) (rs : List StepAnswer) (top : Frame) (s m u : WalkState World) (k : ℕ)
      (q : Query) (items : List TraceItem) (v : Visit)
      → Pending (fs ++ record { local = l; answers = rs } ∷ []) top m s k q items → IsEnd m top v u
      → Pending fs (record { local = l; answers = rs ++ answer.Offers (answer_in v) ∷ [] }) u s k q
      (items ++ item.Leave ∷ [])
  unfolding Pending
  back [] l rs top s m u k q items v h e =
      let walk = whole h.middle m u h.trader h.query top h.after v h.inner e in
      let step :
      Step Begins inside h.middle (next_of l rs) (h.after ++ item.Leave ∷ []) (answer.Offers (answer_in v)) u =
      subst (λ x. Step Begins inside h.middle x (h.after ++ item.Leave ∷ []) (answer.Offers (answer_in v)) u)
      (sym h.question) (visited h.is_inside walk) in
      subst (λ x. Sofar s k q (record { local = l; answers = rs ++ answer.Offers (answer_in v) ∷ [] }) x u)
      (sym (ap (λ x. x ++ item.Leave ∷ []) h.items_are ∙ append_assoc h.before h.after (item.Leave ∷ [])))
      (sofar-asked s h.middle u k q l rs h.before (h.after ++ item.Leave ∷ []) (answer.Offers (answer_in v)) h.sofar
      step)
  back (f ∷ fs) l rs top s m u k q items v h e = record {
    middle = h.middle;
    before = h.before;
    sofar = h.sofar;
    target = h.target;
    query = h.query;
    question = h.question;
    trader = h.trader;
    is_inside = h.is_inside;
    after = h.after ++ item.Leave ∷ [];
    items_are = ap (λ x. x ++ item.Leave ∷ []) h.items_are ∙ append_assoc h.before h.after (item.Leave ∷ []);
    inner = back fs l rs top h.middle m u h.trader h.query h.after v h.inner e;
  }
