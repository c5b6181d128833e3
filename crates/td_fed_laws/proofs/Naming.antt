-- A walk visits under one identifier: the stated one, or the one that the first trader makes that is searched.
use Rattle.std.proofs.Common.{◌≡◌, ℕ, inl, inr, List, [], ◌∷◌, ◌++◌, length, Option, Some, None, refl, sym, ap}
use Rattle.std.proofs.Common.{append-nil, subst, ◌∙◌}
use Rattle.td_cdr.specs.Marks.{In, Later, Marks, remembered}
use Rattle.td_typecode.specs.declared.reference.Ior.{Ior}
use Rattle.td_fed.proofs.Members.{Insides}
use Rattle.td_fed.specs.Visiting.{BeginsVisit}
use Rattle.td_fed_laws.specs.Arrivals.{Arrival, arrival, arrivals, arrivals_by, arrivals_in, sent}
use Rattle.td_fed_laws.specs.Traces.{HasSearch}
use Rattle.td_fed_laws.proofs.Alone.{known, repeat-here, search-here}
use Rattle.td_fed_laws.proofs.Arriving.{in-left}
use Rattle.td_fed_laws.proofs.Carried.{Says, path-keeps, request, says, search-states}
use Rattle.td_fed_laws.proofs.Leading.{one-question, stated-there}
use Rattle.td_fed_laws.proofs.Marking.{AreUnmarked, IsOther, Knows, HasContent, path-knows, search-before}
use Rattle.td_fed_laws.proofs.Marking.{search-marked}
use Rattle.td_fed_laws.proofs.Marking.{steps-marked, content-aside, walk-marked}
use Rattle.td_ops.specs.declared.call.Query.{Query}
use Rattle.td_register.specs.declared.history.Accepted.{Accepted}
use Rattle.td_store.specs.declared.local.Local.{Local}
use Rattle.td_trader.specs.Beginning.{searched_under}
use Rattle.td_trader.specs.Queries.{parts_of}
use Rattle.td_trader.specs.Worlds.{View, store_seen}
use Rattle.td_walk.specs.Visits.{next_of}
use Rattle.td_walk.specs.declared.answer.Next.{Next}
use Rattle.td_walk.specs.declared.answer.Next.TheVariants.{Done, Forward}
use Rattle.td_walk.specs.declared.answer.StepAnswer.{StepAnswer}
use Rattle.td_walk.specs.declared.trace.TraceItem.{TraceItem}
use Rattle.td_walk.specs.declared.trace.TraceItem.TheVariants as item
use Rattle.td_walk.specs.declared.trace.Visit.{Visit}
use Rattle.td_query_walk.specs.Walks.{WalkState, OpensWith, Path, Search, Start, Step, Steps, Walk, with_world}
use Rattle.td_query_walk.specs.Walks.{asked, asking, done, evaluated, outside, passing, refused, repeat, searching}
use Rattle.td_query_walk.specs.Walks.{no_memory_with, unevaluated, unreachable, visited}

-- no search stands among these items
abbrev pub NoSearch : List TraceItem → Type 0
NoSearch p = (k mark : ℕ) → HasSearch p k mark → ⊥

no-more : (p : List TraceItem) (i : TraceItem) → ((k : ℕ) → IsOther i k) → NoSearch p → NoSearch (p ++ i ∷ [])
no-more p i other none k mark s = none k mark (search-before p i k mark (other k) s)

module _ (others : List Accepted → Type 0) (later : Marks → Marks → Type 0)
    (grows : (a b : Marks) → later a b → Later a b) (inside : Insides) (rings : ℕ → ℕ) (Quiet : List ℕ → Type 0)
    (Still : Type 0) (stays : Still → (a b : Marks) → later a b → b.count ≡ a.count) where
  -- one identifier is that of all these arrivals
  pub record AllContent (xs : List Arrival) : Type 0 where
    pub identifier : List ℕ
    pub content : (a : Arrival) → In a xs → HasContent identifier rings (Quiet identifier) Still a

  -- whichever it will be
  abbrev Known : List TraceItem → List View → Type 0
  Known p w = (id : List ℕ) → Knows id rings (Quiet id) Still p w

  abbrev Unmarked : List Arrival → Type 0
  Unmarked xs = (id : List ℕ) → AreUnmarked id rings (Quiet id) Still xs

  none-content : AllContent []
  none-content = record { identifier = []; content = λ a i. elim i [ ] }

  content-first : (a : Arrival) (xs : List Arrival) → ((id : List ℕ) → HasContent id rings (Quiet id) Still a) → AllContent xs
      → AllContent (a ∷ xs)
  content-first a xs first more = record { identifier = more.identifier; content = λ x i. by-place x i }
    where
      by-place : (x : Arrival) → In x (a ∷ xs) → HasContent more.identifier rings (Quiet more.identifier) Still x
      by-place x (inl e) =
          subst (HasContent more.identifier rings (Quiet more.identifier) Still) (sym e) (first more.identifier)
      by-place x (inr i) = more.content x i

  -- where no question is left none is asked
  no-step : {s : WalkState (List View)} {question : Next} {t : List TraceItem} {r : StepAnswer}
      {u : WalkState (List View)} → Step (BeginsVisit others later) inside s question t r u → question ≡ Done → ⊥
  no-step (visited i walk) e = cc
  no-step (outside i small) e = cc
  no-step (no_memory_with i f) e = cc
  no-step (evaluated i) e = cc
  no-step (unevaluated i f) e = cc
  no-step (unreachable i) e = cc

  none-arrive : (p : List TraceItem) {s : WalkState (List View)} {l : Local} {answers : List StepAnswer}
      {t : List TraceItem} {all : List StepAnswer} {u : WalkState (List View)}
      → (steps : Steps (BeginsVisit others later) inside s l answers t all u) → next_of l answers ≡ Done
      → arrivals_in p steps ≡ []
  none-arrive p (done e) over = refl
  none-arrive p (asked step steps) over = absurd (no-step step over)

  -- along a path, so far
  record Along (p : List TraceItem) (w : List View) (xs : List Arrival) : Type 0 where
    none : NoSearch p
    known : Known p w
    unmarked : Unmarked xs

  searched-content : (p : List TraceItem) (k : ℕ) (q : Query) (l : Local) {s m : WalkState (List View)} {x : List View}
      {t : List TraceItem} {answers : List StepAnswer} → (b : BeginsVisit others later s.world k q (Search l) x)
      → (steps : Steps (BeginsVisit others later) inside (with_world s x) l [] t answers m)
      → Along p s.world
      (arrival p (sent s.calls) (item.Search k l.point l.mark) b
      ∷ arrivals_in (p ++ item.Search k l.point l.mark ∷ []) steps)
      → AllContent
      (arrival p (sent s.calls) (item.Search k l.point l.mark) b
      ∷ arrivals_in (p ++ item.Search k l.point l.mark ∷ []) steps)
  searched-content p k q l {s = s} {x = x} b steps h =
      let here = search-here others later s.world k q l x b in
      let id = (searched_under (store_seen b.begun.seen) b.begun.seen.marks q).identifier in
      let first =
      search-marked others later grows id rings (Quiet id) Still stays p (sent s.calls) s.world k q l x b
      (h.unmarked id _ (inl refl)) (h.known id) refl (λ n o. absurd (h.none k n o)) in
      let more =
      steps-marked others later grows inside id rings (Quiet id) Still stays
      (p ++ item.Search k l.point l.mark ∷ []) steps
      (search-states l id here.served.path here.served.identified) (λ a i. h.unmarked id a (inr i)) first.knows in
      record { identifier = id; content = λ a i. by-place id first.content more.content a i }
    where
      by-place : (id : List ℕ)
          → HasContent id rings (Quiet id) Still (arrival p (sent s.calls) (item.Search k l.point l.mark) b)
          → ((a : Arrival) → In a (arrivals_in (p ++ item.Search k l.point l.mark ∷ []) steps)
          → HasContent id rings (Quiet id) Still a)
          → (a : Arrival)
          → In a
          (arrival p (sent s.calls) (item.Search k l.point l.mark) b
          ∷ arrivals_in (p ++ item.Search k l.point l.mark ∷ []) steps)
          → HasContent id rings (Quiet id) Still a
      by-place id first more a (inl e) = subst (HasContent id rings (Quiet id) Still) (sym e) first
      by-place id first more a (inr i) = more a i

  passed-content : (p : List TraceItem) (k : ℕ) (q : Query) (l : Local) {s m : WalkState (List View)} {x : List View}
      {t : List TraceItem} {answers : List StepAnswer} → (b : BeginsVisit others later s.world k q (Path l) x)
      → (steps : Steps (BeginsVisit others later) inside (with_world s x) l [] t answers m)
      → Along p s.world
      (arrival p (sent s.calls) (item.Path k l.point) b ∷ arrivals_in (p ++ item.Path k l.point ∷ []) steps)
      → (Along (p ++ item.Path k l.point ∷ []) x (arrivals_in (p ++ item.Path k l.point ∷ []) steps)
      → AllContent (arrivals_in (p ++ item.Path k l.point ∷ []) steps))
      → AllContent
      (arrival p (sent s.calls) (item.Path k l.point) b ∷ arrivals_in (p ++ item.Path k l.point ∷ []) steps)
  passed-content p k q l {s = s} {x = x} b steps h more =
      let a = arrival p (sent s.calls) (item.Path k l.point) b in
      content-first a (arrivals_in (p ++ item.Path k l.point ∷ []) steps)
      (λ id. content-aside id rings (Quiet id) Still a refl)
      (more (record {
        none =
            no-more p (item.Path k l.point) (λ j y n e. absurd (let bad : ⊥ = cc in bad)) h.none;
        known =
            λ id. path-knows others later grows id rings (Quiet id) Still stays p s.world k q l x b
            (h.unmarked id _ (inl refl)) (h.known id);
        unmarked = λ id a i. h.unmarked id a (inr i);
      }))

  opened-content : (p : List TraceItem) (k : ℕ) (q : Query) (l : Local) {s m : WalkState (List View)} {x : List View}
      {t : List TraceItem} {answers : List StepAnswer} {start : Start} {head : TraceItem} → OpensWith k l start head
      → Says request q None → (b : BeginsVisit others later s.world k q start x)
      → (steps : Steps (BeginsVisit others later) inside (with_world s x) l [] t answers m)
      → Along p s.world (arrival p (sent s.calls) head b ∷ arrivals_in (p ++ head ∷ []) steps)
      → (((target : Ior) (sub : Query) → next_of l [] ≡ Forward target sub → Says request sub None)
      → ((r : StepAnswer) → next_of l (r ∷ []) ≡ Done)
      → Along (p ++ head ∷ []) x (arrivals_in (p ++ head ∷ []) steps)
      → AllContent (arrivals_in (p ++ head ∷ []) steps))
      → AllContent (arrival p (sent s.calls) head b ∷ arrivals_in (p ++ head ∷ []) steps)
  opened-content p k q l searching none b steps h more = searched-content p k q l b steps h
  opened-content p k q l {s = s} {x = x} passing none b steps h more =
      let path = (known others later).paths s.world k q l x b in
      let here = path.here in
      passed-content p k q l b steps h
      (more
      (λ target sub e y is.
      (path-keeps (store_seen path.seen) (length path.seen.history) q l here [] target sub e).identifier y is
      ∙ none (parts_of q).stated here.taken)
      (λ r. one-question l here.link r here.served.path))

  mutual
    walk-content : (p : List TraceItem) {s : WalkState (List View)} {k : ℕ} {q : Query} {t : List TraceItem}
        {v : Visit} {u : WalkState (List View)} → (walk : Walk (BeginsVisit others later) inside s k q t v u)
        → Says request q None → Along p s.world (arrivals p walk) → AllContent (arrivals p walk)
    walk-content p (refused {s = s} {k = k} {point = point} b) none h =
        content-first (arrival p (sent s.calls) (item.Refused k point) b) []
        (λ id. content-aside id rings (Quiet id) Still (arrival p (sent s.calls) (item.Refused k point) b) refl) none-content
    walk-content p (repeat {s = s} {k = k} {q = q} {point = point} {mark = n} {w = w} b) none h =
        let here = repeat-here others later s.world k q point n w b in
        let named =
        stated-there (remembered b.begun.seen.marks) (parts_of q).stated.request_id n here.held in
        let unstated : (parts_of q).stated.request_id ≡ None = none (parts_of q).stated here.taken in
        absurd (neither named.0 (sym unstated ∙ named.1))
      where
        neither : (id : List ℕ) → ◌≡◌ {A = Option (List ℕ)} None (Some id) → ⊥
        neither id e = cc
    walk-content p (asking {k = k} {q = q} {l = l} {head = head} b o steps en) none h =
        opened-content p k q l o none b steps h
        (λ passes one along. steps-content (p ++ head ∷ []) steps passes one along)

    steps-content : (p : List TraceItem) {s : WalkState (List View)} {l : Local} {answers : List StepAnswer}
        {t : List TraceItem} {all : List StepAnswer} {u : WalkState (List View)}
        → (steps : Steps (BeginsVisit others later) inside s l answers t all u)
        → ((target : Ior) (sub : Query) → next_of l answers ≡ Forward target sub → Says request sub None)
        → ((r : StepAnswer) → next_of l (answers ++ r ∷ []) ≡ Done) → Along p s.world (arrivals_in p steps)
        → AllContent (arrivals_in p steps)
    steps-content p (done e) passes one h = none-content
    steps-content p (asked {t = t} {r = r} step steps) passes one h =
        let over : arrivals_in (p ++ t) steps ≡ [] = none-arrive (p ++ t) steps (one r) in
        let first =
        step-content p step (λ target sub e. passes target sub e)
        (record {
          none = h.none;
          known = h.known;
          unmarked =
              λ id a i. h.unmarked id a (in-left a (arrivals_by p step) (arrivals_in (p ++ t) steps) i);
        }) in
        record {
          identifier = first.identifier;
          content =
              λ a i. first.content a
              (subst (In a) (ap (λ (x : List Arrival). arrivals_by p step ++ x) over ∙ append-nil (arrivals_by p step))
              i);
        }

    step-content : (p : List TraceItem) {s : WalkState (List View)} {question : Next} {t : List TraceItem}
        {r : StepAnswer} {u : WalkState (List View)} → (step : Step (BeginsVisit others later) inside s question t r u)
        → ((target : Ior) (sub : Query) → question ≡ Forward target sub → Says request sub None)
        → Along p s.world (arrivals_by p step) → AllContent (arrivals_by p step)
    step-content p (visited {target = target} {q = q} i walk) passes h = walk-content p walk (passes target q refl) h
    step-content p (outside i small) passes h = none-content
    step-content p (no_memory_with i f) passes h = none-content
    step-content p (evaluated i) passes h = none-content
    step-content p (unevaluated i f) passes h = none-content
    step-content p (unreachable i) passes h = none-content

  -- each walk
  pub all-content : {s : WalkState (List View)} {k : ℕ} {q : Query} {t : List TraceItem} {v : Visit}
      {u : WalkState (List View)} → (walk : Walk (BeginsVisit others later) inside s k q t v u) → Known [] s.world
      → Unmarked (arrivals [] walk) → AllContent (arrivals [] walk)
  all-content {s = s} {q = q} walk known unmarked = by-stated (parts_of q).stated.request_id refl
    where
      by-stated : (o : Option (List ℕ)) → (parts_of q).stated.request_id ≡ o → AllContent (arrivals [] walk)
      by-stated (Some id) e = record {
        identifier = id;
        content =
            (walk-marked others later grows inside id rings (Quiet id) Still stays [] walk (says request q (Some id) e)
            (unmarked id) (known id)).content;
      }
      by-stated None e =
          walk-content [] walk (says request q None e)
          (record { none = λ k mark s. elim s.there [ ]; known = known; unmarked = unmarked })
