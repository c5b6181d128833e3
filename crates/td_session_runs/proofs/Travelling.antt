-- What a walk leaves: its items show the marks and the points, and what each call of a peer gave, in order; and the
-- words that it draws are the next ones.
use Rattle.std.proofs.Common.{◌≡◌, ℕ, List, [], ◌∷◌, ◌++◌, append_assoc, append-nil, refl, sym, ap, subst}
use Rattle.std.proofs.Common.{◌∙◌, length}
use Rattle.td_cdr.specs.Marks.{Marks}
use Rattle.td_fed.proofs.Members.{Beginnings, Insides}
use Rattle.td_fed.proofs.Moving.{draws-after, draws-none, has-drawn}
use Rattle.td_fed.proofs.Rising.{flat-append}
use Rattle.td_fed.proofs.Showing.{marks-append}
use Rattle.td_fed.specs.Entering.{begin_item}
use Rattle.td_targets.specs.Targets.{inside_group}
use Rattle.td_fed.specs.Trails.{DrawsOn, marks_of, point_of, points_of}
use Rattle.td_fed.specs.Visiting.{BeginsVisit, Walks, start_of}
use Rattle.td_ops.specs.declared.call.Query.{Query}
use Rattle.td_register.specs.declared.history.Accepted.{Accepted}
use Rattle.td_store.specs.declared.local.Local.{Local}
use Rattle.td_trader.specs.Worlds.{View, history_at}
use Rattle.td_trader.specs.declared.begin.Begin.TheVariants as begin
use Rattle.td_trader.specs.declared.begin.Begin.{Begin}
use Rattle.td_session_runs.proofs.Moving.{Moves, begun-moves, moves-as, moves-none, moves-on, none}
use Rattle.td_walk.specs.Peering.{Answered as Replied, Evaluated as Valued, Failed as Missed}
use Rattle.td_walk.specs.Peering.{Exchange, PeerAnswer, PeerCall, Querying, Evaluating}
use Rattle.td_walk.specs.declared.answer.Next.{Next}
use Rattle.td_walk.specs.declared.answer.StepAnswer.{StepAnswer}
use Rattle.td_walk.specs.declared.answer.SubAnswer.{SubAnswer}
use Rattle.td_walk.specs.declared.trace.Address.{Address}
use Rattle.td_walk.specs.declared.trace.TraceItem.TheVariants as item
use Rattle.td_walk.specs.declared.trace.TraceItem.{TraceItem}
use Rattle.td_walk.specs.declared.trace.Visit.{Visit}
use Rattle.td_query_walk.proofs.Walked.{given-append, shown-append}
use Rattle.td_query_walk.specs.Walks.{WalkState, EndsVisit, OpensWith, Path, Refused, Repeat, Search, Start, Step}
use Rattle.td_query_walk.specs.Walks.{Steps, Walk}
use Rattle.td_query_walk.specs.Walks.{asked, asking, done, evaluated, outside, passing, refused, repeat, searching}
use Rattle.td_query_walk.specs.Walks.{call_peer, given_in, peer_answers, with_world}
use Rattle.td_query_walk.specs.Walks.{no_memory_with, unevaluated, unreachable, visited}

-- ---- calls of peers

pub record Adds (before : List Exchange) (gave : List PeerAnswer) (after : List Exchange) : Type 0 where
  pub made : List Exchange
  pub calls : after ≡ before ++ made
  pub given : given_in made ≡ gave

pub adds-none : (calls : List Exchange) → Adds calls [] calls
adds-none calls = record { made = []; calls = sym (append-nil calls); given = refl }

pub adds-on : (a b c : List Exchange) (g h : List PeerAnswer) → Adds a g b → Adds b h c → Adds a (g ++ h) c
adds-on a b c g h p q = record {
  made = p.made ++ q.made;
  calls = q.calls ∙ (ap (λ (t : List Exchange). t ++ q.made) p.calls ∙ append_assoc a p.made q.made);
  given =
      given-append p.made q.made
      ∙ (ap (λ (t : List PeerAnswer). t ++ given_in q.made) p.given ∙ ap (λ (t : List PeerAnswer). g ++ t) q.given);
}

pub adds-one : (calls : List Exchange) (call : PeerCall) (gave : PeerAnswer)
    → Adds calls (gave ∷ []) (calls ++ record { call = call; gave = gave } ∷ [])
adds-one calls call gave = record { made = record { call = call; gave = gave } ∷ []; calls = refl; given = refl }

-- ---- a course

pub record Travels (s u : WalkState (List View)) (items : List TraceItem) : Type 0 where
  pub moves : Moves s.world u.world none (λ k. marks_of k items) (λ k. points_of k items)
  pub adds : Adds s.calls (peer_answers items) u.calls
  pub draws : DrawsOn s.words u.words

travels-none : (s : WalkState (List View)) → Travels s s []
travels-none s = record { moves = moves-none s.world; adds = adds-none s.calls; draws = draws-none s.words }

travels-on : (s m u : WalkState (List View)) (t ts : List TraceItem) → Travels s m t → Travels m u ts
    → Travels s u (t ++ ts)
travels-on s m u t ts p q = record {
  moves =
      moves-as s.world u.world (λ k. []) (λ k. marks_of k t ++ marks_of k ts) (λ k. points_of k t ++ points_of k ts)
      none (λ k. marks_of k (t ++ ts)) (λ k. points_of k (t ++ ts))
      (moves-on s.world m.world u.world none (λ k. marks_of k t) (λ k. points_of k t) none (λ k. marks_of k ts)
      (λ k. points_of k ts) p.moves q.moves) (λ k. refl) (λ k. sym (marks-append k t ts))
      (λ k. sym (flat-append (point_of k) t ts));
  adds =
      subst (λ (g : List PeerAnswer). Adds s.calls g u.calls) (sym (shown-append t ts))
      (adds-on s.calls m.calls u.calls (peer_answers t) (peer_answers ts) p.adds q.adds);
  draws = draws-after s.words m.words u.words p.draws q.draws;
}

-- ---- how a query begins

abbrev start_item : (k : ℕ) → Start → TraceItem
start_item k (Refused point o) = item.Refused k point
start_item k (Repeat point mark) = item.Repeat k point mark
start_item k (Search l) = item.Search k l.point l.mark
start_item k (Path l) = item.Path k l.point

start-shown : (k : ℕ) (start : Start) → peer_answers (start_item k start ∷ []) ≡ []
start-shown k (Refused point o) = refl
start-shown k (Repeat point mark) = refl
start-shown k (Search l) = refl
start-shown k (Path l) = refl

-- the first item of a visit shows what its beginning leaves
abbrev Starts : Beginnings → Type 0
Starts B =
    (w : List View) (k : ℕ) (q : Query) (start : Start) (u : List View) → B w k q start u
    → Moves w u none (λ j. marks_of j (start_item k start ∷ [])) (λ j. points_of j (start_item k start ∷ []))

started : (B : Beginnings) → Starts B → (s : WalkState (List View)) (k : ℕ) (q : Query) (start : Start) (w : List View)
    → B s.world k q start w → Travels s (with_world s w) (start_item k start ∷ [])
started B starts s k q start w b = record {
  moves = starts s.world k q start w b;
  adds = subst (λ (g : List PeerAnswer). Adds s.calls g s.calls) (sym (start-shown k start)) (adds-none s.calls);
  draws = draws-none s.words;
}

opened : (k : ℕ) (l : Local) (start : Start) (head : TraceItem) → OpensWith k l start head → start_item k start ≡ head
opened k l start head searching = refl
opened k l start head passing = refl

-- no item more than that the visit ends
left : (m u : WalkState (List View)) (l : Local) (answers : List StepAnswer) (a : SubAnswer) → EndsVisit m l answers a u
    → Travels m u (item.Leave ∷ [])
left m u l answers a en = record {
  moves =
      subst (λ (w : List View). Moves m.world w none (λ k. marks_of k (item.Leave ∷ []))
      (λ k. points_of k (item.Leave ∷ []))) (sym en.world) (moves-none m.world);
  adds = subst (λ (c : List Exchange). Adds m.calls [] c) (sym en.calls) (adds-none m.calls);
  draws = has-drawn l answers m.words u.words en.drawn;
}

-- ---- a walk

module _ (s : WalkState (List View)) where
  -- one call, and the item that shows it
  by-call : (call : PeerCall) (gave : PeerAnswer) (i : TraceItem) → ((k : ℕ) → marks_of k (i ∷ []) ≡ [])
      → ((k : ℕ) → points_of k (i ∷ []) ≡ []) → peer_answers (i ∷ []) ≡ gave ∷ [] → Travels s (call_peer s call gave) (i ∷ [])
  by-call call gave i unmarked unplaced seen = record {
    moves =
        moves-as s.world s.world none none none none (λ k. marks_of k (i ∷ [])) (λ k. points_of k (i ∷ []))
        (moves-none s.world) (λ k. refl) (λ k. sym (unmarked k)) (λ k. sym (unplaced k));
    adds =
        subst (λ (g : List PeerAnswer). Adds s.calls g (call_peer s call gave).calls) (sym seen)
        (adds-one s.calls call gave);
    draws = draws-none s.words;
  }

  -- an item that shows none of it
  by-none : Travels s s (item.Unreachable ∷ [])
  by-none = record { moves = moves-none s.world; adds = adds-none s.calls; draws = draws-none s.words }

mutual
  walk-travels : (B : Beginnings) (inside : Insides) (starts : Starts B) {s : WalkState (List View)} {k : ℕ} {q : Query}
      {t : List TraceItem} {v : Visit} {u : WalkState (List View)} → Walk B inside s k q t v u → Travels s u t
  walk-travels B inside starts (refused {s = s} {k = k} {q = q} {point = p} {o = o} {w = w} b) =
      started B starts s k q (Refused p o) w b
  walk-travels B inside starts (repeat {s = s} {k = k} {q = q} {point = p} {mark = n} {w = w} b) =
      started B starts s k q (Repeat p n) w b
  walk-travels B inside starts
      (asking {s = s} {k = k} {q = q} {start = start} {w = w} {l = l} {head = head} {t = t} {answers = answers}
      {m = m} {a = a} {u = u} b o steps en) =
      let first : Travels s (with_world s w) (head ∷ []) =
      subst (λ (i : TraceItem). Travels s (with_world s w) (i ∷ [])) (opened k l start head o)
      (started B starts s k q start w b) in
      travels-on s (with_world s w) u (head ∷ []) (t ++ item.Leave ∷ []) first
      (travels-on (with_world s w) m u t (item.Leave ∷ []) (steps-travel B inside starts steps)
      (left m u l answers a en))

  steps-travel : (B : Beginnings) (inside : Insides) (starts : Starts B) {s : WalkState (List View)} {l : Local}
      {answers : List StepAnswer} {t : List TraceItem} {all : List StepAnswer} {u : WalkState (List View)}
      → Steps B inside s l answers t all u → Travels s u t
  steps-travel B inside starts (done {s = s} e) = travels-none s
  steps-travel B inside starts (asked {s = s} {t = t} {m = m} {ts = ts} {u = u} step steps) =
      travels-on s m u t ts (step-travels B inside starts step) (steps-travel B inside starts steps)

  step-travels : (B : Beginnings) (inside : Insides) (starts : Starts B) {s : WalkState (List View)} {question : Next}
      {t : List TraceItem} {r : StepAnswer} {u : WalkState (List View)} → Step B inside s question t r u
      → Travels s u t
  step-travels B inside starts (visited i walk) = walk-travels B inside starts walk
  step-travels B inside starts (outside {s = s} {target = target} {q = q} {a = a} i small) =
      by-call s (Querying target q) (Replied a) (item.Outside a) (λ k. refl) (λ k. refl) refl
  step-travels B inside starts (no_memory_with {s = s} {target = target} {q = q} {f = f} i n) =
      by-call s (Querying target q) (Missed f) (item.Failed f) (λ k. refl) (λ k. refl) refl
  step-travels B inside starts
      (evaluated {s = s} {e = e} {name = name} {returned = returned} {extra = extra} {value = value} i) =
      by-call s (Evaluating e name returned extra) (Valued value) (item.Evaluated value) (λ k. refl) (λ k. refl) refl
  step-travels B inside starts
      (unevaluated {s = s} {e = e} {name = name} {returned = returned} {extra = extra} {f = f} i n) =
      by-call s (Evaluating e name returned extra) (Missed f) (item.Failed f) (λ k. refl) (λ k. refl) refl
  step-travels B inside starts (unreachable {s = s} i) = by-none s

-- ---- in a group

module _ (others : List Accepted → Type 0) (later : Marks → Marks → Type 0) where
  begins-start : (w : List View) (k : ℕ) (q : Query) (b : Begin) (u : List View) (point : ℕ)
      → Moves w u none (λ j. marks_of j (begin_item k point b ∷ [])) (λ j. points_of j (begin_item k point b ∷ []))
      → Moves w u none (λ j. marks_of j (start_item k (start_of point b) ∷ []))
      (λ j. points_of j (start_item k (start_of point b) ∷ []))
  begins-start w k q (begin.Refused o) u point m = m
  begins-start w k q (begin.Repeat number) u point m = m
  begins-start w k q (begin.Search l) u point m = m
  begins-start w k q (begin.Path l) u point m = m

  starts : Starts (BeginsVisit others later)
  starts w k q start u h =
      subst (λ (x : Start). Moves w u none (λ j. marks_of j (start_item k x ∷ []))
      (λ j. points_of j (start_item k x ∷ []))) (sym h.is)
      (begins-start w k q h.begin u (length (history_at u k))
      (begun-moves others later w k q h.begin u h.begun (length (history_at u k)) refl))

  -- a walk through the group
  pub walks-travel : (home : Address) (s : WalkState (List View)) (k : ℕ) (q : Query) (t : List TraceItem) (v : Visit)
      (u : WalkState (List View)) → Walks others later home s k q t v u → Travels s u t
  walks-travel home s k q t v u walk = walk-travels (BeginsVisit others later) (inside_group home) starts walk
