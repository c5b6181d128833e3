-- A walk whose query states an identifier searches where the identifier isn't remembered, and repeats where it is: an
-- induction over the walk, its steps and each step.
use Rattle.std.proofs.Common.{◌≡◌, ℕ, List, [], ◌∷◌, ◌++◌, length, Option, Some, None, refl, sym, ap, subst, ◌∙◌}
use Rattle.td_typecode.specs.declared.reference.Ior.{Ior}
use Rattle.td_fed.proofs.Members.{Insides}
use Rattle.td_fed.specs.Visiting.{BeginsVisit}
use Rattle.td_fed_laws.proofs.Alone.{IsTaken, SearchBegun, path-begun, refused-begun, repeat-begun}
use Rattle.td_fed_laws.proofs.Alone.{search-begun}
use Rattle.td_fed_laws.proofs.Carried.{States, path-keeps, search-states}
use Rattle.td_fed_laws.proofs.Noting.{Goes, goes-first, goes-left, goes-on}
use Rattle.td_fed_laws.proofs.Recalling.{remembered-as-stated, searched-as-stated, content, content-at}
use Rattle.td_fed_laws.proofs.Recalling.{content-searched}
use Rattle.td_ops.specs.declared.call.Query.{Query}
use Rattle.td_ops.specs.declared.outcome.Outcome.{Outcome}
use Rattle.td_store.specs.declared.local.Local.{Local}
use Rattle.td_trader.specs.Beginning.{searched_under}
use Rattle.td_trader.specs.Queries.{parts_of}
use Rattle.td_trader.specs.Solos.{no_changes, same_marks}
use Rattle.td_trader.specs.Worlds.{View, store_seen}
use Rattle.td_walk.specs.Visits.{next_of}
use Rattle.td_walk.specs.declared.answer.Next.{Next}
use Rattle.td_walk.specs.declared.answer.Next.TheVariants.{Forward}
use Rattle.td_walk.specs.declared.answer.StepAnswer.{StepAnswer}
use Rattle.td_walk.specs.declared.trace.TraceItem.{TraceItem}
use Rattle.td_walk.specs.declared.trace.TraceItem.TheVariants as item
use Rattle.td_walk.specs.declared.trace.Visit.{Visit}
use Rattle.td_query_walk.specs.Walks.{WalkState, OpensWith, Refused, Repeat, Start, Step, Steps, Walk}
use Rattle.td_query_walk.specs.Walks.{asked, asking, done, evaluated, outside, passing, refused, repeat, searching}
use Rattle.td_query_walk.specs.Walks.{no_memory_with, unevaluated, unreachable, visited}

-- each query that the visit passes on states the identifier
abbrev pub Passes : List ℕ → Local → Type 0
Passes id l =
    (answers : List StepAnswer) (target : Ior) (sub : Query) → next_of l answers ≡ Forward target sub → States id sub

module _ (id : List ℕ) (w : List View) (k : ℕ) (q : Query) where
  stated-as : States id q → IsTaken q → (parts_of q).stated.request_id ≡ Some id
  stated-as h taken = h (parts_of q).stated taken

  refused-goes : (p : ℕ) (o : Outcome) (u : List View) → BeginsVisit no_changes same_marks w k q (Refused p o) u
      → Goes (content id w) (item.Refused k p ∷ []) (content id u)
  refused-goes p o u b = record { right = (tt, tt); after_is = ap (content id) (refused-begun w k q p o u b) }

  repeat-goes : (p n : ℕ) (u : List View) → BeginsVisit no_changes same_marks w k q (Repeat p n) u → States id q
      → Goes (content id w) (item.Repeat k p n ∷ []) (content id u)
  repeat-goes p n u b h =
      let r = repeat-begun w k q p n u b in
      let named = stated-as h r.here.taken in
      let held : content id w k ≡ Some n =
      content-at id w k r.view r.is ∙ (sym (remembered-as-stated r.view.marks q id named) ∙ r.here.held) in
      record { right = (held, tt); after_is = ap (content id) r.world }

  -- a search begins at a trader that doesn't remember its identifier
  pub search-goes : (l : Local) (x : List View) (t : List TraceItem) (g : ℕ → Option ℕ) → (b : SearchBegun w k q l x)
      → (searched_under (store_seen b.view) b.view.marks q).identifier ≡ id → content id w k ≡ None
      → Goes (content id x) t g → Goes (content id w) (item.Search k l.point l.mark ∷ t ++ item.Leave ∷ []) g
  search-goes l x t g b named none rest =
      goes-first (content id w) (content id x) g (item.Search k l.point l.mark) (t ++ item.Leave ∷ []) none
      (content-searched id w k q l x b named none) (goes-left (content id x) g t rest)

  pub search-passes : (l : Local) (x : List View) → (b : SearchBegun w k q l x)
      → (searched_under (store_seen b.view) b.view.marks q).identifier ≡ id → Passes id l
  search-passes l x b named =
      search-states l id b.here.served.path
      (b.here.served.identified ∙ ap (λ (i : List ℕ). Some i) named)

  path-goes : (p : ℕ) (x : List View) (t : List TraceItem) (g : ℕ → Option ℕ)
      → x ≡ w → Goes (content id x) t g → Goes (content id w) (item.Path k p ∷ t ++ item.Leave ∷ []) g
  path-goes p x t g same rest =
      goes-first (content id w) (content id x) g (item.Path k p) (t ++ item.Leave ∷ []) tt (ap (content id) same)
      (goes-left (content id x) g t rest)

  opened-goes : (l : Local) (x : List View) (t : List TraceItem) (g : ℕ → Option ℕ) {start : Start} {head : TraceItem}
      → OpensWith k l start head → BeginsVisit no_changes same_marks w k q start x → States id q
      → (Passes id l → Goes (content id x) t g) → Goes (content id w) (head ∷ t ++ item.Leave ∷ []) g
  opened-goes l x t g searching b h steps =
      let s = search-begun w k q l x b in
      let named = stated-as h s.here.taken in
      let under = searched-as-stated (store_seen s.view) s.view.marks q id named in
      let none : content id w k ≡ None =
      content-at id w k s.view s.is ∙ (sym (remembered-as-stated s.view.marks q id named) ∙ s.here.new) in
      search-goes l x t g s under none (steps (search-passes l x s under))
  opened-goes l x t g passing b h steps =
      let p = path-begun w k q l x b in
      let named = stated-as h p.here.taken in
      path-goes l.point x t g p.world (steps (λ answers target sub e s is.
      (path-keeps (store_seen p.view) (length p.view.history) q l p.here answers target sub e).identifier s is ∙ named))

mutual
  pub walk-goes : (inside : Insides) (id : List ℕ) {s : WalkState (List View)} {k : ℕ} {q : Query} {t : List TraceItem}
      {v : Visit} {u : WalkState (List View)} → Walk (BeginsVisit no_changes same_marks) inside s k q t v u
      → States id q → Goes (content id s.world) t (content id u.world)
  walk-goes inside id (refused {s = s} {k = k} {q = q} {point = p} {o = o} {w = w} b) h =
      refused-goes id s.world k q p o w b
  walk-goes inside id (repeat {s = s} {k = k} {q = q} {point = p} {mark = n} {w = w} b) h =
      repeat-goes id s.world k q p n w b h
  walk-goes inside id (asking {s = s} {k = k} {q = q} {w = w} {l = l} {head = head} {t = t} {m = m} {u = u} b o
      steps en) h =
      subst (λ (x : List View). Goes (content id s.world) (head ∷ t ++ item.Leave ∷ []) (content id x)) (sym en.world)
      (opened-goes id s.world k q l w t (content id m.world) o b h (λ p. steps-go inside id steps p))

  pub steps-go : (inside : Insides) (id : List ℕ) {s : WalkState (List View)} {l : Local} {answers : List StepAnswer}
      {t : List TraceItem} {all : List StepAnswer} {u : WalkState (List View)}
      → Steps (BeginsVisit no_changes same_marks) inside s l answers t all u → Passes id l
      → Goes (content id s.world) t (content id u.world)
  steps-go inside id (done e) p = record { right = tt; after_is = refl }
  steps-go inside id (asked {s = s} {l = l} {answers = answers} {t = t} {m = m} {ts = ts} {u = u} step steps) p =
      goes-on (content id s.world) (content id m.world) (content id u.world) t ts
      (step-goes inside id step (λ target sub e. p answers target sub e)) (steps-go inside id steps p)

  step-goes : (inside : Insides) (id : List ℕ) {s : WalkState (List View)} {question : Next} {t : List TraceItem}
      {r : StepAnswer} {u : WalkState (List View)}
      → Step (BeginsVisit no_changes same_marks) inside s question t r u
      → ((target : Ior) (sub : Query) → question ≡ Forward target sub → States id sub)
      → Goes (content id s.world) t (content id u.world)
  step-goes inside id (visited {target = target} {q = q} i walk) p = walk-goes inside id walk (p target q refl)
  step-goes inside id (outside i small) p = record { right = (tt, tt); after_is = refl }
  step-goes inside id (no_memory_with i f) p = record { right = (tt, tt); after_is = refl }
  step-goes inside id (evaluated i) p = record { right = (tt, tt); after_is = refl }
  step-goes inside id (unevaluated i f) p = record { right = (tt, tt); after_is = refl }
  step-goes inside id (unreachable i) p = record { right = (tt, tt); after_is = refl }
