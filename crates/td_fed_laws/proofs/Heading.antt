-- The first search of a walk, and how far the walk goes below it, whatever others do meanwhile.
use Rattle.std.proofs.Common.{◌≡◌, ℕ, ◌+◌, ◌≤◌, List, [], ◌∷◌, ◌++◌, length, append-nil, Option, Some, refl, sym}
use Rattle.std.proofs.Common.{ap, subst, ◌∙◌, arith, slice_get}
use Rattle.std.specs.Option.{option_or}
use Rattle.td_cdr.specs.Marks.{Marks}
use Rattle.td_changes.specs.Histories.{at}
use Rattle.td_typecode.specs.declared.reference.Ior.{Ior}
use Rattle.td_fed.proofs.Members.{Beginnings, Insides}
use Rattle.td_targets.specs.Targets.{inside_group}
use Rattle.td_fed_laws.specs.Traces.{first_point, first_searched, hops_in, searched_at}
use Rattle.td_fed.specs.Visiting.{BeginsVisit}
use Rattle.td_fed_laws.specs.WalkLaws.{WalksStayWithinTheirHops}
use Rattle.td_fed_laws.proofs.Alone.{AreKnown, IsTaken, PathSeen, known}
use Rattle.td_fed_laws.proofs.Carried.{Keeps, Says, hop_count, path-keeps, says, search-hops}
use Rattle.td_fed_laws.proofs.Growing.{Grow, Grown, SearchLeft, grow, steps-grow, store-there}
use Rattle.td_fed_laws.proofs.Hopping.{Within, no-less, search-within, steps-within, within-at, within-left}
use Rattle.td_fed_laws.proofs.Leading.{Aside, first-left, not_asked, not_reached, one-question, peer_answered}
use Rattle.td_fed_laws.proofs.Leading.{peer_failed, peer_valued}
use Rattle.td_ops.specs.declared.call.Query.{Query}
use Rattle.td_policy.specs.Effective.{effective_number}
use Rattle.td_register.specs.Stores.{Store}
use Rattle.td_register.specs.declared.history.Accepted.{Accepted}
use Rattle.td_store.specs.declared.local.Local.{Local}
use Rattle.td_trader.specs.Queries.{parts_of}
use Rattle.td_trader.specs.Worlds.{View, store_seen}
use Rattle.td_walk.specs.Visits.{next_of}
use Rattle.td_walk.specs.declared.answer.Next.{Next}
use Rattle.td_walk.specs.declared.answer.Next.TheVariants.{Done, Forward}
use Rattle.td_walk.specs.declared.answer.StepAnswer.{StepAnswer}
use Rattle.td_walk.specs.declared.trace.TraceItem.{TraceItem}
use Rattle.td_walk.specs.declared.trace.TraceItem.TheVariants as item
use Rattle.td_walk.specs.declared.trace.Visit.{Visit}
use Rattle.td_query_walk.specs.Walks.{WalkState, OpensWith, Start, Step, Steps, Walk, with_world}
use Rattle.td_query_walk.specs.Walks.{asked, asking, done, evaluated, outside, passing, refused, repeat, searching}
use Rattle.td_query_walk.specs.Walks.{no_memory_with, unevaluated, unreachable, visited}

-- the trader that a search was made at is seen so behind the walk
pub record FoundAt (u : List View) (k : ℕ) (q : Query) (l : Local) : Type 0 where
  pub world : List View
  pub left : SearchLeft world k q l
  pub grown : Grown world u

-- a walk that leaves this world comes to its first search along paths alone
data Heads (B : Beginnings) (inside : Insides) (u : List View) : Query → List TraceItem → Type 0 where
  turned_away : {q : Query} {k point : ℕ} → Heads B inside u q (item.Refused k point ∷ [])
  known_here : {q : Query} {k point mark : ℕ} → Heads B inside u q (item.Repeat k point mark ∷ [])
  searched_here : {q : Query} {k : ℕ} {l : Local} {t : List TraceItem} {answers : List StepAnswer}
      (s m : WalkState (List View)) → FoundAt u k q l → Steps B inside s l [] t answers m
      → Heads B inside u q (item.Search k l.point l.mark ∷ t ++ item.Leave ∷ [])
  led_on : {q sub : Query} {k point : ℕ} {t : List TraceItem} → IsTaken q → Keeps q sub → Heads B inside u sub t
      → Heads B inside u q (item.Path k point ∷ t ++ item.Leave ∷ [])
  led_aside : {q : Query} {k point : ℕ} {t : List TraceItem} → Aside t
      → Heads B inside u q (item.Path k point ∷ t ++ item.Leave ∷ [])

data HeadsByStep (B : Beginnings) (inside : Insides) (u : List View) : Next → List TraceItem → Type 0 where
  came : {target : Ior} {sub : Query} {t : List TraceItem} → Heads B inside u sub t
      → HeadsByStep B inside u (Forward target sub) t
  went : {question : Next} {t : List TraceItem} → Aside t → HeadsByStep B inside u question t

-- where no question is left no step is made
record IsOver (u m : List View) (ts : List TraceItem) : Type 0 where
  none : ts ≡ []
  world : u ≡ m

data HeadsBySteps (B : Beginnings) (inside : Insides) (u : List View) (l : Local) (answers : List StepAnswer)
    : List TraceItem → Type 0 where
  by_none : HeadsBySteps B inside u l answers []
  by_first : {t ts : List TraceItem} (r : StepAnswer) (m : List View) → HeadsByStep B inside m (next_of l answers) t
      → (next_of l (answers ++ r ∷ []) ≡ Done → IsOver u m ts) → HeadsBySteps B inside u l answers (t ++ ts)

no-step : (B : Beginnings) (inside : Insides) {s : WalkState (List View)} {question : Next} {t : List TraceItem}
    {r : StepAnswer} {u : WalkState (List View)} → Step B inside s question t r u → question ≡ Done → ⊥
no-step B inside (visited i walk) e = cc
no-step B inside (outside i small) e = cc
no-step B inside (no_memory_with i f) e = cc
no-step B inside (evaluated i) e = cc
no-step B inside (unevaluated i f) e = cc
no-step B inside (unreachable i) e = cc

over : (B : Beginnings) (inside : Insides) {s : WalkState (List View)} {l : Local} {answers : List StepAnswer}
    {t : List TraceItem} {all : List StepAnswer} {u : WalkState (List View)} → Steps B inside s l answers t all u
    → next_of l answers ≡ Done → IsOver u.world s.world t
over B inside (done e) last = record { none = refl; world = refl }
over B inside (asked step steps) last = absurd (no-step B inside step last)

module _ (B : Beginnings) (inside : Insides) (u : List View) (k : ℕ) (q : Query) (l : Local) (b : PathSeen q l) where
  by-step : (point : ℕ) (m : List View) → u ≡ m → {question : Next} {t : List TraceItem}
      → HeadsByStep B inside m question t → next_of l [] ≡ question
      → Heads B inside u q (item.Path k point ∷ t ++ item.Leave ∷ [])
  by-step point m same (came {target = target} {sub = sub} {t = t} heads) e =
      led_on b.here.taken
      (path-keeps (store_seen b.seen) (length b.seen.history) q l b.here [] target sub e)
      (subst (λ (y : List View). Heads B inside y sub t) (sym same) heads)
  by-step point m same (went a) e = led_aside a

  by-steps : (point : ℕ) {t : List TraceItem} → HeadsBySteps B inside u l [] t
      → Heads B inside u q (item.Path k point ∷ t ++ item.Leave ∷ [])
  by-steps point by_none = led_aside not_asked
  by-steps point (by_first {t = t} {ts = ts} r m step last) =
      let end = last (one-question l b.here.link r b.here.served.path) in
      let all : t ≡ t ++ ts = sym (ap (λ (y : List TraceItem). t ++ y) end.none ∙ append-nil t) in
      subst (λ (y : List TraceItem). Heads B inside u q (item.Path k point ∷ y ++ item.Leave ∷ [])) all
      (by-step point m end.world step refl)

by-opening : (B : Beginnings) (inside : Insides) (known : AreKnown B) (g : Grow B) (s m u : WalkState (List View)) (k : ℕ)
    (q : Query) (l : Local) (x : List View) (t : List TraceItem) (answers : List StepAnswer) {start : Start}
    {head : TraceItem} → OpensWith k l start head → B s.world k q start x
    → Steps B inside (with_world s x) l [] t answers m → u.world ≡ m.world → HeadsBySteps B inside m.world l [] t
    → Heads B inside u.world q (head ∷ t ++ item.Leave ∷ [])
by-opening B inside known g s m u k q l x t answers searching b steps same heads =
    searched_here (with_world s x) m
    (record {
      world = x;
      left = g.leaves s.world k q l x b;
      grown = subst (Grown x) (sym same) (steps-grow B inside g steps);
    })
    steps
by-opening B inside known g s m u k q l x t answers passing b steps same heads =
    subst (λ (y : List View). Heads B inside y q (item.Path k l.point ∷ t ++ item.Leave ∷ [])) (sym same)
    (by-steps B inside m.world k q l (known.paths s.world k q l x b) l.point heads)

mutual
  walk-heads : (B : Beginnings) (inside : Insides) (known : AreKnown B) (g : Grow B) {s : WalkState (List View)} {k : ℕ}
      {q : Query} {t : List TraceItem} {v : Visit} {u : WalkState (List View)} → Walk B inside s k q t v u
      → Heads B inside u.world q t
  walk-heads B inside known g (refused b) = turned_away
  walk-heads B inside known g (repeat b) = known_here
  walk-heads B inside known g (asking {s = s} {k = k} {q = q} {w = w} {l = l} {t = t} {answers = answers} {m = m}
      {u = u} b o steps en) =
      by-opening B inside known g s m u k q l w t answers o b steps en.world (steps-head B inside known g steps)

  steps-head : (B : Beginnings) (inside : Insides) (known : AreKnown B) (g : Grow B) {s : WalkState (List View)}
      {l : Local} {answers : List StepAnswer} {t : List TraceItem} {all : List StepAnswer} {u : WalkState (List View)}
      → Steps B inside s l answers t all u → HeadsBySteps B inside u.world l answers t
  steps-head B inside known g (done e) = by_none
  steps-head B inside known g (asked {r = r} {m = m} step steps) =
      by_first r m.world (step-heads B inside known g step) (over B inside steps)

  step-heads : (B : Beginnings) (inside : Insides) (known : AreKnown B) (g : Grow B) {s : WalkState (List View)}
      {question : Next} {t : List TraceItem} {r : StepAnswer} {u : WalkState (List View)}
      → Step B inside s question t r u → HeadsByStep B inside u.world question t
  step-heads B inside known g (visited i walk) = came (walk-heads B inside known g walk)
  step-heads B inside known g (outside i small) = went peer_answered
  step-heads B inside known g (no_memory_with i f) = went peer_failed
  step-heads B inside known g (evaluated i) = went peer_valued
  step-heads B inside known g (unevaluated i f) = went peer_failed
  step-heads B inside known g (unreachable i) = went not_reached

-- ---- how far it goes

point-left : (t : List TraceItem) → first_point (t ++ item.Leave ∷ []) ≡ first_point t
point-left [] = refl
point-left (i ∷ t) = ap (option_or (searched_at i)) (point-left t)

aside-within : (hops : ℕ) (visits : List TraceItem) {t : List TraceItem} → Aside t → Within hops visits t
aside-within hops visits not_asked = tt
aside-within hops visits peer_answered = (tt, tt)
aside-within hops visits peer_failed = (tt, tt)
aside-within hops visits peer_valued = (tt, tt)
aside-within hops visits not_reached = (tt, tt)

-- the hop count that a query goes by at a store
abbrev hops_at : Store → Option ℕ → ℕ
hops_at s o = effective_number o s.attributes.def_hop_count s.attributes.max_hop_count

same-number : (k j : ℕ) → ◌≡◌ {A = Option ℕ} (Some k) (Some j) → k ≡ j
same-number k j e = cc

no-hops : (hops below most : ℕ) → hops ≡ most → below ≡ 0 → below + hops ≤ most
no-hops hops below most is none = omega (arith, is, none)

heads-within : (B : Beginnings) (inside : Insides) (known : AreKnown B) (u : List View) (o : Option ℕ) (j p : ℕ)
    (z : View) → slice_get u j ≡ Some z → {q : Query} {t : List TraceItem} → Heads B inside u q t
    → Says hop_count q o → first_searched t ≡ Some j → first_point t ≡ Some p → (visits : List TraceItem)
    → hops_in visits ≡ 0 → Within (hops_at (at z.opening z.history p) o) visits t
heads-within B inside known u o j p z is turned_away said first point_is visits none = (tt, tt)
heads-within B inside known u o j p z is known_here said first point_is visits none = (tt, tt)
heads-within B inside known u o j p z is
    (searched_here {q = q} {k = k} {l = l} {t = t} s m found steps) said first point_is
    visits none =
    let h = found.left in
    let trader : j ≡ k = sym (same-number k j first) in
    let point : l.point ≡ p = same-number l.point p point_is in
    let store : at z.opening z.history p ≡ store_seen h.seen =
    ap (at z.opening z.history) (sym point)
    ∙ store-there found.world u k q l h found.grown z (subst (λ (n : ℕ). slice_get u n ≡ Some z) trader is) in
    let most = hops_at (at z.opening z.history p) o in
    let hops : l.effective.hops ≡ most =
    search-hops (store_seen h.seen) (length h.seen.history) h.seen.marks q l h.here o said
    ∙ ap (λ (y : Store). hops_at y o) (sym store) in
    let below = no-hops l.effective.hops (hops_in visits) most hops none in (
      no-less (hops_in visits) l.effective.hops most below,
      within-left most t (item.Search k l.point l.mark ∷ visits)
          (steps-within B inside known most steps (item.Search k l.point l.mark ∷ visits)
          (search-within most visits k l.point l.mark l h.here.served.path below)),
    )
heads-within B inside known u o j p z is
    (led_on {q = q} {k = k} {point = n} {t = t} taken keeps heads) said first point_is
    visits none =
    let below : 0 + hops_in visits ≡ 0 = omega (arith, none) in
    let most = hops_at (at z.opening z.history p) o in (
      tt,
      within-left most t (item.Path k n ∷ visits)
          (heads-within B inside known u o j p z is heads (λ s e. keeps.hops s e ∙ said (parts_of q).stated taken)
          (sym (first-left t) ∙ first) (sym (point-left t) ∙ point_is) (item.Path k n ∷ visits) below),
    )
heads-within B inside known u o j p z is (led_aside {k = k} {point = n} {t = t} a) said first point_is visits none =
    let most = hops_at (at z.opening z.history p) o in (
      tt,
      within-left most t (item.Path k n ∷ visits) (aside-within most (item.Path k n ∷ visits) a),
    )

pub stay-within : (others : List Accepted → Type 0) (later : Marks → Marks → Type 0)
    → WalksStayWithinTheirHops others later
stay-within others later home s u k q t v store walk is before rest trader point mark split =
    let B = BeginsVisit others later in
    let inside = inside_group home in
    let o = (parts_of q).stated.hops in
    let all : Within (hops_at (at is.view.opening is.view.history is.point) o) [] t =
    heads-within B inside (known others later) u.world o is.trader is.point is.view is.is
    (walk-heads B inside (known others later) (grow others later) walk)
    (says hop_count q o refl) is.searched is.pointed []
    refl in
    let most : Within (hops_at store o) [] t =
    subst (λ (y : Store). Within (hops_at y o) [] t) (sym is.store_is) all in
    within-at (hops_at store o) before rest [] trader point mark
    (subst (λ (x : List TraceItem). Within (hops_at store o) [] x) split most)
