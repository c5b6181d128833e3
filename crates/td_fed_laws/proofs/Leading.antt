-- How a walk comes to its first search: along paths alone.
use Rattle.std.proofs.Common.{◌≡◌, ℕ, ◌≤◌, List, [], ◌∷◌, ◌++◌, length, append-nil, Option, Some, None, refl, sym, ap}
use Rattle.std.proofs.Common.{subst, ◌∙◌, le_refl, slice_get, option_and_then}
use Rattle.std.specs.Option.{option_or}
use Rattle.td_cdr.specs.Marks.{remembered}
use Rattle.td_typecode.specs.declared.code.Any.{Any}
use Rattle.td_typecode.specs.declared.reference.Ior.{Ior}
use Rattle.td_fed.proofs.Members.{Insides}
use Rattle.td_fed_laws.specs.Fresh.{IsUnknownIdentifier, made_so, stated_so}
use Rattle.td_fed_laws.specs.Traces.{first_searched, searched_by}
use Rattle.td_fed.specs.Visiting.{BeginsVisit}
use Rattle.td_fed_laws.proofs.Alone.{IsTaken, PathBegun, path-begun, repeat-begun, search-begun}
use Rattle.td_fed_laws.proofs.Carried.{Keeps, Says, path-keeps, request, says}
use Rattle.td_fed_laws.proofs.Noting.{IsRight, IsRightFromNone, right-append}
use Rattle.td_fed_laws.proofs.Recalling.{content, content-none}
use Rattle.td_fed_laws.proofs.Searching.{search-goes, search-passes, steps-go, walk-goes}
use Rattle.td_ops.specs.declared.call.Query.{Query}
use Rattle.td_store.specs.declared.local.Local.{Local}
use Rattle.td_store.specs.declared.record.LinkRecord.{LinkRecord}
use Rattle.td_trader.specs.Beginning.{query_identifier, searched_under}
use Rattle.td_trader.specs.Queries.{parts_of}
use Rattle.td_trader.specs.Solos.{no_changes, same_marks}
use Rattle.td_trader.specs.Worlds.{View, store_seen}
use Rattle.td_walk.specs.Visits.{next_of}
use Rattle.td_walk.specs.declared.answer.Next.{Next}
use Rattle.td_walk.specs.declared.answer.Next.TheVariants.{Done, Forward}
use Rattle.td_walk.specs.declared.answer.StepAnswer.{StepAnswer}
use Rattle.td_walk.specs.declared.answer.SubAnswer.{SubAnswer}
use Rattle.td_walk.specs.declared.fault.PeerFault.{PeerFault}
use Rattle.td_walk.specs.declared.trace.TraceItem.{TraceItem}
use Rattle.td_walk.specs.declared.trace.TraceItem.TheVariants as item
use Rattle.td_walk.specs.declared.trace.Visit.{Visit}
use Rattle.td_query_walk.specs.Reach.{turns_by}
use Rattle.td_query_walk.specs.Walks.{WalkState, OpensWith, Search, Start, Step, Steps, Walk, with_world}
use Rattle.td_query_walk.specs.Walks.{asked, asking, done, evaluated, outside, passing, refused, repeat, searching}
use Rattle.td_query_walk.specs.Walks.{no_memory_with, unevaluated, unreachable, visited}
use Rattle.td_query_walk.proofs.Spending.{ends}

-- a step that goes to no trader of the group
pub data Aside : List TraceItem → Type 0 where
  not_asked : Aside []
  peer_answered : {a : SubAnswer} → Aside (item.Outside a ∷ [])
  peer_failed : {f : PeerFault} → Aside (item.Failed f ∷ [])
  peer_valued : {value : Any} → Aside (item.Evaluated value ∷ [])
  not_reached : Aside (item.Unreachable ∷ [])

pub data Leads (inside : Insides) (w : List View) : Query → List TraceItem → Type 0 where
  turned_away : {q : Query} {k point : ℕ} → Leads inside w q (item.Refused k point ∷ [])
  known_here : {q : Query} {k point mark : ℕ} {id : List ℕ} → IsTaken q → (parts_of q).stated.request_id ≡ Some id
      → Leads inside w q (item.Repeat k point mark ∷ [])
  searched_here : {q : Query} {k : ℕ} {l : Local} {x : List View} {m : WalkState (List View)} {t : List TraceItem}
      {answers : List StepAnswer} (s : WalkState (List View)) → BeginsVisit no_changes same_marks w k q (Search l) x
      → Steps (BeginsVisit no_changes same_marks) inside (with_world s x) l [] t answers m
      → Leads inside w q (item.Search k l.point l.mark ∷ t ++ item.Leave ∷ [])
  led_on : {q sub : Query} {k point : ℕ} {t : List TraceItem} → IsTaken q → Keeps q sub → Leads inside w sub t
      → Leads inside w q (item.Path k point ∷ t ++ item.Leave ∷ [])
  led_aside : {q : Query} {k point : ℕ} {t : List TraceItem} → Aside t
      → Leads inside w q (item.Path k point ∷ t ++ item.Leave ∷ [])

-- ---- each walk leads so

data LeadsByStep (inside : Insides) (w : List View) : Next → List TraceItem → Type 0 where
  came : {target : Ior} {sub : Query} {t : List TraceItem} → Leads inside w sub t
      → LeadsByStep inside w (Forward target sub) t
  went : {question : Next} {t : List TraceItem} → Aside t → LeadsByStep inside w question t

-- by the first step, and by no other where there is one question alone
data LeadsBySteps (inside : Insides) (w : List View) (l : Local) (answers : List StepAnswer) : List TraceItem → Type 0
  where
    by_none : LeadsBySteps inside w l answers []
    by_first : {t ts : List TraceItem} (r : StepAnswer) → LeadsByStep inside w (next_of l answers) t
        → (next_of l (answers ++ r ∷ []) ≡ Done → ts ≡ []) → LeadsBySteps inside w l answers (t ++ ts)

-- where no question is left none is asked
pub no-step : (inside : Insides) {s : WalkState (List View)} {question : Next} {t : List TraceItem} {r : StepAnswer}
    {u : WalkState (List View)} → Step (BeginsVisit no_changes same_marks) inside s question t r u
    → question ≡ Done → ⊥
no-step inside (visited i walk) e = cc
no-step inside (outside i small) e = cc
no-step inside (no_memory_with i f) e = cc
no-step inside (evaluated i) e = cc
no-step inside (unevaluated i f) e = cc
no-step inside (unreachable i) e = cc

no-steps : (inside : Insides) {s : WalkState (List View)} {l : Local} {answers : List StepAnswer} {t : List TraceItem}
    {all : List StepAnswer} {u : WalkState (List View)}
    → Steps (BeginsVisit no_changes same_marks) inside s l answers t all u → next_of l answers ≡ Done → t ≡ []
no-steps inside (done e) over = refl
no-steps inside (asked step steps) over = absurd (no-step inside step over)

-- along a path there is one question
pub one-question : (l : Local) (link : LinkRecord) (r : StepAnswer) → l.path ≡ Some link → next_of l (r ∷ []) ≡ Done
one-question l link r e =
    ends l (r ∷ []) (subst (λ (p : Option LinkRecord). turns_by p l ≤ 1) (sym e) (le_refl 1))

module _ (inside : Insides) (w : List View) (k : ℕ) (q : Query) (l : Local) (x : List View) (b : PathBegun w k q l x)
  where
    by-step : (point : ℕ) {question : Next} {t : List TraceItem} → LeadsByStep inside x question t
        → next_of l [] ≡ question → Leads inside w q (item.Path k point ∷ t ++ item.Leave ∷ [])
    by-step point (came {target = target} {sub = sub} {t = t} leads) e =
        led_on b.here.taken
        (path-keeps (store_seen b.view) (length b.view.history) q l b.here [] target sub e)
        (subst (λ (y : List View). Leads inside y sub t) b.world leads)
    by-step point (went a) e = led_aside a

    by-steps : (point : ℕ) {t : List TraceItem} → LeadsBySteps inside x l [] t
        → Leads inside w q (item.Path k point ∷ t ++ item.Leave ∷ [])
    by-steps point by_none = led_aside not_asked
    by-steps point (by_first {t = t} {ts = ts} r step over) =
        let none : ts ≡ [] = over (one-question l b.here.link r b.here.served.path) in
        let all : t ≡ t ++ ts = sym (ap (λ (y : List TraceItem). t ++ y) none ∙ append-nil t) in
        subst (λ (y : List TraceItem). Leads inside w q (item.Path k point ∷ y ++ item.Leave ∷ [])) all
        (by-step point step refl)

by-opening : (inside : Insides) (s m : WalkState (List View)) (k : ℕ) (q : Query) (l : Local) (x : List View)
    (t : List TraceItem) (answers : List StepAnswer) {start : Start} {head : TraceItem} → OpensWith k l start head
    → BeginsVisit no_changes same_marks s.world k q start x
    → Steps (BeginsVisit no_changes same_marks) inside (with_world s x) l [] t answers m
    → LeadsBySteps inside x l [] t → Leads inside s.world q (head ∷ t ++ item.Leave ∷ [])
by-opening inside s m k q l x t answers searching b steps leads = searched_here s b steps
by-opening inside s m k q l x t answers passing b steps leads =
    by-steps inside s.world k q l x (path-begun s.world k q l x b) l.point leads

-- what is remembered is stated
pub stated-there : (f : List ℕ → Option ℕ) (o : Option (List ℕ)) (n : ℕ) → option_and_then f o ≡ Some n
    → (id : List ℕ) × (o ≡ Some id)
stated-there f None n e = absurd (let bad : ⊥ = cc in bad)
stated-there f (Some id) n e = (id, refl)

mutual
  pub walk-leads : (inside : Insides) {s : WalkState (List View)} {k : ℕ} {q : Query} {t : List TraceItem} {v : Visit}
      {u : WalkState (List View)} → Walk (BeginsVisit no_changes same_marks) inside s k q t v u
      → Leads inside s.world q t
  walk-leads inside (refused b) = turned_away
  walk-leads inside (repeat {s = s} {k = k} {q = q} {point = p} {mark = n} {w = w} b) =
      let r = repeat-begun s.world k q p n w b in
      let named = stated-there (remembered r.view.marks) (parts_of q).stated.request_id n r.here.held in
      known_here r.here.taken named.1
  walk-leads inside (asking {s = s} {k = k} {q = q} {w = w} {l = l} {t = t} {answers = answers} {m = m} b o steps en) =
      by-opening inside s m k q l w t answers o b steps (steps-lead inside steps)

  steps-lead : (inside : Insides) {s : WalkState (List View)} {l : Local} {answers : List StepAnswer} {t : List TraceItem}
      {all : List StepAnswer} {u : WalkState (List View)}
      → Steps (BeginsVisit no_changes same_marks) inside s l answers t all u
      → LeadsBySteps inside s.world l answers t
  steps-lead inside (done e) = by_none
  steps-lead inside (asked {r = r} step steps) = by_first r (step-leads inside step) (no-steps inside steps)

  step-leads : (inside : Insides) {s : WalkState (List View)} {question : Next} {t : List TraceItem} {r : StepAnswer}
      {u : WalkState (List View)} → Step (BeginsVisit no_changes same_marks) inside s question t r u
      → LeadsByStep inside s.world question t
  step-leads inside (visited i walk) = came (walk-leads inside walk)
  step-leads inside (outside i small) = went peer_answered
  step-leads inside (no_memory_with i f) = went peer_failed
  step-leads inside (evaluated i) = went peer_valued
  step-leads inside (unevaluated i f) = went peer_failed
  step-leads inside (unreachable i) = went not_reached

-- ---- the first search

-- the end of a visit searches nothing
pub first-left : (t : List TraceItem) → first_searched (t ++ item.Leave ∷ []) ≡ first_searched t
first-left [] = refl
first-left (i ∷ t) = ap (option_or (searched_by i)) (first-left t)

aside-right : {t : List TraceItem} → Aside t → (f : ℕ → Option ℕ) → IsRight f t
aside-right not_asked f = tt
aside-right peer_answered f = (tt, tt)
aside-right peer_failed f = (tt, tt)
aside-right peer_valued f = (tt, tt)
aside-right not_reached f = (tt, tt)

-- the identifier that the first searched trader makes isn't remembered in the group
abbrev IsNew : List View → List TraceItem → Type 0
IsNew w t =
    (j : ℕ) (v : View) → first_searched t ≡ Some j → slice_get w j ≡ Some v → (k : ℕ)
    → content (query_identifier v.marks (store_seen v).attributes.request_id_stem None).identifier w k ≡ None

-- a walk whose query states no identifier
unstated-right : (inside : Insides) (w : List View) {q : Query} {t : List TraceItem} → Leads inside w q t
    → Says request q None → IsNew w t → IsRightFromNone t
unstated-right inside w turned_away said new =
    record { notes = λ k. None; none = λ k. refl; right = (tt, tt) }
unstated-right inside w (known_here {q = q} taken named) said new =
    let none : (parts_of q).stated.request_id ≡ None = said (parts_of q).stated taken in
    absurd (let bad : ⊥ = cc in bad)
unstated-right inside w (searched_here {q = q} {k = k} {l = l} {x = x} {m = m} {t = t} s b steps) said new =
    let h = search-begun w k q l x b in
    let id = (searched_under (store_seen h.view) h.view.marks q).identifier in
    let none : (parts_of q).stated.request_id ≡ None = said (parts_of q).stated h.here.taken in
    let made : (query_identifier h.view.marks (store_seen h.view).attributes.request_id_stem None).identifier ≡ id =
    ap (λ (o : Option (List ℕ)).
    (query_identifier h.view.marks (store_seen h.view).attributes.request_id_stem o).identifier) (sym none) in
    let fresh : (j : ℕ) → content id w j ≡ None =
    λ j. subst (λ (i : List ℕ). content i w j ≡ None) made (new k h.view refl h.is j) in
    let goes = steps-go inside id steps (search-passes id w k q l x h refl) in
    record {
      notes = content id w;
      none = fresh;
      right = (search-goes id w k q l x t (content id m.world) h refl (fresh k) goes).right;
    }
unstated-right inside w (led_on {q = q} {t = t} taken keeps leads) said new =
    let none : (parts_of q).stated.request_id ≡ None = said (parts_of q).stated taken in
    let inner =
    unstated-right inside w leads (λ s e. keeps.identifier s e ∙ none) (λ j v a i. new j v (first-left t ∙ a) i) in
    record {
      notes = inner.notes;
      none = inner.none;
      right = (tt, right-append t (item.Leave ∷ []) inner.notes inner.right (tt, tt));
    }
unstated-right inside w (led_aside {t = t} a) said new = record {
  notes = λ k. None;
  none = λ k. refl;
  right = (tt, right-append t (item.Leave ∷ []) (λ k. None) (aside-right a (λ k. None)) (tt, tt));
}

-- each walk whose identifier is fresh
pub fresh-right : (inside : Insides) (s u : WalkState (List View)) (k : ℕ) (q : Query) (t : List TraceItem) (v : Visit)
    → Walk (BeginsVisit no_changes same_marks) inside s k q t v u → IsUnknownIdentifier s.world q t → IsRightFromNone t
fresh-right inside s u k q t v walk fresh = by-stated (parts_of q).stated.request_id refl
  where
    by-stated : (o : Option (List ℕ)) → (parts_of q).stated.request_id ≡ o → IsRightFromNone t
    by-stated (Some id) e = record {
      notes = content id s.world;
      none = λ j. content-none id s.world j (fresh id (stated_so e) j);
      right = (walk-goes inside id walk (says request q (Some id) e)).right;
    }
    by-stated None e =
        unstated-right inside s.world (walk-leads inside walk) (says request q None e)
        (λ j w first is i. subst (λ (x : List ℕ). content x s.world i ≡ None)
        (ap (λ (o : Option (List ℕ)). (query_identifier w.marks (store_seen w).attributes.request_id_stem o).identifier) e)
        (content-none (searched_under (store_seen w) w.marks q).identifier s.world i
        (fresh (searched_under (store_seen w) w.marks q).identifier
        (made_so e (record { trader = j; searched = first; is = is })) i)))
