-- How far a walk goes: each search lies at most as many hops below the first as this one may go.
use Rattle.std.proofs.Common.{◌≡◌, ℕ, ◌+◌, ◌-◌, ◌<◌, ◌≤◌, List, [], ◌∷◌, ◌++◌, length, Some, None, refl, sym}
use Rattle.std.proofs.Common.{ap, subst, ◌∙◌, arith, le_refl}
use Rattle.td_cdr.specs.Marks.{Marks}
use Rattle.td_typecode.specs.declared.reference.Ior.{Ior}
use Rattle.td_fed.proofs.Members.{Beginnings, Insides}
use Rattle.td_targets.specs.Targets.{inside_group}
use Rattle.td_fed_laws.specs.Traces.{hops_in, waiting_items, waiting_after}
use Rattle.td_fed.specs.Visiting.{BeginsVisit}
use Rattle.td_fed_laws.specs.WalkLaws.{VisitsEnd, WalksStayWithinStatedHops}
use Rattle.td_fed_laws.proofs.Alone.{AreKnown, IsTaken, PathSeen, known}
use Rattle.td_fed_laws.proofs.Carried.{Keeps, MayGo, hop_count, path-keeps, says, search-fewer}
use Rattle.td_fed_laws.proofs.Carried.{search-most}
use Rattle.td_ops.specs.declared.call.Query.{Query}
use Rattle.td_register.specs.declared.history.Accepted.{Accepted}
use Rattle.td_store.specs.declared.local.Local.{Local}
use Rattle.td_trader.specs.Queries.{parts_of}
use Rattle.td_trader.specs.Worlds.{View, store_seen}
use Rattle.td_walk.specs.Visits.{next_of}
use Rattle.td_walk.specs.declared.answer.Next.{Next}
use Rattle.td_walk.specs.declared.answer.Next.TheVariants.{Forward}
use Rattle.td_walk.specs.declared.answer.StepAnswer.{StepAnswer}
use Rattle.td_walk.specs.declared.trace.TraceItem.{TraceItem}
use Rattle.td_walk.specs.declared.trace.TraceItem.TheVariants as item
use Rattle.td_walk.specs.declared.trace.Visit.{Visit}
use Rattle.td_query_walk.specs.Walks.{WalkState, OpensWith, Start, Step, Steps, Walk}
use Rattle.td_query_walk.specs.Walks.{asked, asking, done, evaluated, outside, passing, refused, repeat, searching}
use Rattle.td_query_walk.specs.Walks.{no_memory_with, unevaluated, unreachable, visited}

-- ---- items one after the other

-- a search lies at most so many hops below the first one of the visits that wait
abbrev pub IsNear : (hops : ℕ) → List TraceItem → TraceItem → Type 0
IsNear hops visits (item.Search trader point mark) = hops_in visits ≤ hops
IsNear hops visits other = Unit {0}

abbrev pub Within : (hops : ℕ) → List TraceItem → List TraceItem → Type 0
Within hops visits [] = Unit {0}
Within hops visits (i ∷ is) = IsNear hops visits i × Within hops (waiting_after visits i) is

waiting-append : (t ts visits : List TraceItem) → waiting_items visits (t ++ ts) ≡ waiting_items (waiting_items visits t) ts
waiting-append [] ts visits = refl
waiting-append (i ∷ t) ts visits = waiting-append t ts (waiting_after visits i)

within-append : (hops : ℕ) (t ts visits : List TraceItem) → Within hops visits t
    → Within hops (waiting_items visits t) ts → Within hops visits (t ++ ts)
within-append hops [] ts visits a b = b
within-append hops (i ∷ t) ts visits a b = (a.0, within-append hops t ts (waiting_after visits i) a.1 b)

-- the visit ends
pub within-left : (hops : ℕ) (t visits : List TraceItem) → Within hops visits t
    → Within hops visits (t ++ item.Leave ∷ [])
within-left hops t visits a = within-append hops t (item.Leave ∷ []) visits a (tt, tt)

pub within-at : (hops : ℕ) (before rest visits : List TraceItem) (trader point mark : ℕ)
    → Within hops visits (before ++ item.Search trader point mark ∷ rest) → hops_in (waiting_items visits before) ≤ hops
within-at hops [] rest visits trader point mark h = h.0
within-at hops (i ∷ before) rest visits trader point mark h =
    within-at hops before rest (waiting_after visits i) trader point mark h.1

-- ---- each visit that begins ends

opened-even : (k : ℕ) (l : Local) (t visits : List TraceItem) {start : Start} {head : TraceItem}
    → OpensWith k l start head → ((xs : List TraceItem) → waiting_items xs t ≡ xs)
    → waiting_items visits (head ∷ t ++ item.Leave ∷ []) ≡ visits
opened-even k l t visits searching even =
    waiting-append t (item.Leave ∷ []) (item.Search k l.point l.mark ∷ visits)
    ∙ ap (λ (x : List TraceItem). waiting_items x (item.Leave ∷ [])) (even (item.Search k l.point l.mark ∷ visits))
opened-even k l t visits passing even =
    waiting-append t (item.Leave ∷ []) (item.Path k l.point ∷ visits)
    ∙ ap (λ (x : List TraceItem). waiting_items x (item.Leave ∷ [])) (even (item.Path k l.point ∷ visits))

mutual
  walk-even : (B : Beginnings) (inside : Insides) {s : WalkState (List View)} {k : ℕ} {q : Query} {t : List TraceItem}
      {v : Visit}
      {u : WalkState (List View)} → Walk B inside s k q t v u
      → (visits : List TraceItem) → waiting_items visits t ≡ visits
  walk-even B inside (refused b) visits = refl
  walk-even B inside (repeat b) visits = refl
  walk-even B inside (asking {k = k} {l = l} {t = t} b o steps en) visits =
      opened-even k l t visits o (λ xs. steps-even B inside steps xs)

  steps-even : (B : Beginnings) (inside : Insides) {s : WalkState (List View)} {l : Local} {answers : List StepAnswer}
      {t : List TraceItem}
      {all : List StepAnswer} {u : WalkState (List View)}
      → Steps B inside s l answers t all u → (visits : List TraceItem)
      → waiting_items visits t ≡ visits
  steps-even B inside (done e) visits = refl
  steps-even B inside (asked {t = t} {ts = ts} step steps) visits =
      waiting-append t ts visits
      ∙ (ap (λ (x : List TraceItem). waiting_items x ts) (step-even B inside step visits) ∙ steps-even B inside steps visits)

  step-even : (B : Beginnings) (inside : Insides) {s : WalkState (List View)} {question : Next} {t : List TraceItem}
      {r : StepAnswer}
      {u : WalkState (List View)} → Step B inside s question t r u
      → (visits : List TraceItem) → waiting_items visits t ≡ visits
  step-even B inside (visited i walk) visits = walk-even B inside walk visits
  step-even B inside (outside i small) visits = refl
  step-even B inside (no_memory_with i f) visits = refl
  step-even B inside (evaluated i) visits = refl
  step-even B inside (unevaluated i f) visits = refl
  step-even B inside (unreachable i) visits = refl

-- ---- a walk below a search

-- behind these visits the query may go so many hops that it stays within
pub record Fits (hops : ℕ) (visits : List TraceItem) (q : Query) : Type 0 where
  pub most : ℕ
  pub may : MayGo most q
  pub fits : hops_in visits + most ≤ hops

-- so does each query that the visit passes on
abbrev pub PassesWithin : (hops : ℕ) → List TraceItem → Local → Type 0
PassesWithin hops visits l =
    (answers : List StepAnswer) (target : Ior) (sub : Query) → next_of l answers ≡ Forward target sub
    → Fits hops visits sub

-- a step of a search is one hop
less-one : (below hops most : ℕ) → 0 < hops → below + hops ≤ most → 1 + below + (hops - 1) ≤ most
less-one below hops most some le = omega (arith, some, le)

less-hops : (below hops n most : ℕ) → hops ≤ n → below + n ≤ most → below + hops ≤ most
less-hops below hops n most less le = omega (arith, less, le)

pub no-less : (below n most : ℕ) → below + n ≤ most → below ≤ most
no-less below n most le = omega (arith, le)

pub search-within : (hops : ℕ) (visits : List TraceItem) (k point mark : ℕ) (l : Local) → l.path ≡ None
    → hops_in visits + l.effective.hops ≤ hops → PassesWithin hops (item.Search k point mark ∷ visits) l
search-within hops visits k point mark l none le answers target sub e =
    let fewer = search-fewer l none answers target sub e in
    record {
      most = l.effective.hops - 1;
      may = fewer.may;
      fits = less-one (hops_in visits) l.effective.hops hops fewer.some le;
    }

keeps-going : (n : ℕ) (q sub : Query) → IsTaken q → Keeps q sub → MayGo n q → MayGo n sub
keeps-going n q sub taken keeps may s e =
    let m = may (parts_of q).stated taken in (m.0, keeps.hops s e ∙ m.1, m.2)

path-within : (hops : ℕ) (visits : List TraceItem) (k point : ℕ) (q : Query) (l : Local) → PathSeen q l
    → Fits hops visits q
    → PassesWithin hops (item.Path k point ∷ visits) l
path-within hops visits k point q l b f answers target sub e =
    let keeps = path-keeps (store_seen b.seen) (length b.seen.history) q l b.here answers target sub e in
    let below : 0 + hops_in visits ≡ hops_in visits = omega arith in
    record {
      most = f.most;
      may = keeps-going f.most q sub b.here.taken keeps f.may;
      fits = subst (λ (n : ℕ). n + f.most ≤ hops) (sym below) f.fits;
    }

opened-within : (B : Beginnings) (known : AreKnown B) (hops : ℕ) (w : List View) (k : ℕ) (q : Query) (l : Local)
    (x : List View) (t visits : List TraceItem)
    {start : Start} {head : TraceItem} → OpensWith k l start head → B w k q start x
    → Fits hops visits q → ((xs : List TraceItem) → PassesWithin hops xs l → Within hops xs t)
    → Within hops visits (head ∷ t ++ item.Leave ∷ [])
opened-within B known hops w k q l x t visits searching b f steps =
    let h = known.searches w k q l x b in
    let less = search-most (store_seen h.seen) (length h.seen.history) h.seen.marks q l h.here f.most f.may in
    let below = less-hops (hops_in visits) l.effective.hops f.most hops less f.fits in (
      no-less (hops_in visits) f.most hops f.fits,
      within-left hops t (item.Search k l.point l.mark ∷ visits)
          (steps (item.Search k l.point l.mark ∷ visits)
          (search-within hops visits k l.point l.mark l h.here.served.path below)),
    )
opened-within B known hops w k q l x t visits passing b f steps =
    let p = known.paths w k q l x b in (
      tt,
      within-left hops t (item.Path k l.point ∷ visits)
          (steps (item.Path k l.point ∷ visits) (path-within hops visits k l.point q l p f)),
    )

mutual
  walk-within : (B : Beginnings) (inside : Insides) (known : AreKnown B) (hops : ℕ) {s : WalkState (List View)}
      {k : ℕ} {q : Query} {t : List TraceItem}
      {v : Visit} {u : WalkState (List View)} → Walk B inside s k q t v u
      → (visits : List TraceItem) → Fits hops visits q → Within hops visits t
  walk-within B inside known hops (refused b) visits f = (tt, tt)
  walk-within B inside known hops (repeat b) visits f = (tt, tt)
  walk-within B inside known hops (asking {s = s} {k = k} {q = q} {w = w} {l = l} {t = t} b o steps en) visits f =
      opened-within B known hops s.world k q l w t visits o b f (λ xs p. steps-within B inside known hops steps xs p)

  pub steps-within : (B : Beginnings) (inside : Insides) (known : AreKnown B) (hops : ℕ) {s : WalkState (List View)}
      {l : Local} {answers : List StepAnswer}
      {t : List TraceItem} {all : List StepAnswer} {u : WalkState (List View)}
      → Steps B inside s l answers t all u → (visits : List TraceItem)
      → PassesWithin hops visits l → Within hops visits t
  steps-within B inside known hops (done e) visits p = tt
  steps-within B inside known hops (asked {answers = answers} {t = t} {ts = ts} step steps) visits p =
      within-append hops t ts visits
      (step-within B inside known hops step visits (λ target sub e. p answers target sub e))
      (subst (λ (x : List TraceItem). Within hops x ts) (sym (step-even B inside step visits))
      (steps-within B inside known hops steps visits p))

  step-within : (B : Beginnings) (inside : Insides) (known : AreKnown B) (hops : ℕ) {s : WalkState (List View)}
      {question : Next} {t : List TraceItem}
      {r : StepAnswer} {u : WalkState (List View)}
      → Step B inside s question t r u → (visits : List TraceItem)
      → ((target : Ior) (sub : Query) → question ≡ Forward target sub → Fits hops visits sub) → Within hops visits t
  step-within B inside known hops (visited {target = target} {q = q} i walk) visits p =
      walk-within B inside known hops walk visits (p target q refl)
  step-within B inside known hops (outside i small) visits p = (tt, tt)
  step-within B inside known hops (no_memory_with i f) visits p = (tt, tt)
  step-within B inside known hops (evaluated i) visits p = (tt, tt)
  step-within B inside known hops (unevaluated i f) visits p = (tt, tt)
  step-within B inside known hops (unreachable i) visits p = (tt, tt)

-- ---- the laws

pub stay-within-stated : (others : List Accepted → Type 0) (later : Marks → Marks → Type 0)
    → WalksStayWithinStatedHops others later
stay-within-stated others later home s u k q t v n walk states before rest trader point mark split =
    let none : 0 + n ≤ n = omega arith in
    let fits : Fits n [] q =
    record { most = n; may = λ x e. (n, says hop_count q (Some n) states x e, le_refl n); fits = none } in
    let all : Within n [] t =
    walk-within (BeginsVisit others later) (inside_group home) (known others later) n walk [] fits in
    within-at n before rest [] trader point mark (subst (λ (x : List TraceItem). Within n [] x) split all)

pub visits-end : (others : List Accepted → Type 0) (later : Marks → Marks → Type 0) → VisitsEnd others later
visits-end others later home s u k q t v walk = walk-even (BeginsVisit others later) (inside_group home) walk []
