-- Which marks of one identifier each trader has behind the items of a walk, whatever others do meanwhile.
use Rattle.std.proofs.Common.{◌≡◌, ℕ, ◌+◌, ◌<◌, ◌≤◌, ◌⊎◌, inl, inr, Bool, true, false, nat_eq, List, [], ◌∷◌, ◌++◌}
use Rattle.std.proofs.Common.{append_assoc, append-nil, length, Option, Some, None, refl, sym, ap, subst, ◌∙◌, arith}
use Rattle.std.proofs.Common.{slice_get, slice_set, eqb-true}
use Rattle.std.proofs.lemmas.Bool.{cases_lt, eqb-false}
use Rattle.td_cdr.specs.Marks.{RemembersAs, In, Later, Marks, entry_of, add_mark, remembered}
use Rattle.td_cdr.proofs.Marking.{is_held, is_not_held, newest, no_other}
use Rattle.td_typecode.specs.declared.reference.Ior.{Ior}
use Rattle.td_fed.proofs.Members.{Insides, get-set_other, get-set_same, same-view}
use Rattle.td_fed.specs.Visiting.{BeginsVisit}
use Rattle.td_fed_laws.specs.Arrivals.{Arrival, arrival, arrivals, arrivals_by, arrivals_in, identifier_of, sent}
use Rattle.td_fed_laws.specs.Traces.{HasSearch, visited_by}
use Rattle.td_fed_laws.proofs.Alone.{known, path-is, refused-is, repeat-here, repeat-is, search-here, search-is}
use Rattle.td_fed_laws.proofs.Arriving.{in-append, in-left, in-right}
use Rattle.td_fed_laws.proofs.Carried.{States, path-keeps, search-states}
use Rattle.td_fed_laws.proofs.Recalling.{marks-searched, remembered-as-stated, searched-as-stated}
use Rattle.td_fed_laws.proofs.Searching.{Passes}
use Rattle.td_ops.specs.declared.call.Query.{Query}
use Rattle.td_ops.specs.declared.outcome.Outcome.{Outcome}
use Rattle.td_register.specs.declared.history.Accepted.{Accepted}
use Rattle.td_store.specs.declared.local.Local.{Local}
use Rattle.td_trader.specs.Beginning.{after_begin, is_search, searched_under}
use Rattle.td_trader.specs.Queries.{parts_of}
use Rattle.td_trader.specs.Worlds.{View, after_begin as seen_after, history_at, store_seen}
use Rattle.td_trader.proofs.Begun.{only_searches}
use Rattle.td_walk.specs.declared.answer.Next.{Next}
use Rattle.td_walk.specs.declared.answer.Next.TheVariants.{Forward}
use Rattle.td_walk.specs.declared.answer.StepAnswer.{StepAnswer}
use Rattle.td_walk.specs.declared.trace.TraceItem.{TraceItem}
use Rattle.td_walk.specs.declared.trace.TraceItem.TheVariants as item
use Rattle.td_walk.specs.declared.trace.Visit.{Visit}
use Rattle.td_query_walk.specs.Walks.{WalkState, OpensWith, Path, Refused, Repeat, Search, Start, Step, Steps, Walk}
use Rattle.td_query_walk.specs.Walks.{asked, asking, done, evaluated, outside, passing, refused, repeat, searching}
use Rattle.td_query_walk.specs.Walks.{no_memory_with, unevaluated, unreachable, visited}

-- ---- a mark

-- the trader remembers the mark, or made too many since
pub record IsOld (id : List ℕ) (m : Marks) (mark : ℕ) : Type 0 where
  pub most : mark ≤ m.count
  pub there : m.count < mark + m.ring → RemembersAs m id mark

old-later : (id : List ℕ) (a b : Marks) (mark : ℕ) → Later a b → IsOld id a mark → IsOld id b mark
old-later id a b mark later h =
    let up = later.count in
    let ring = later.ring in
    let most = h.most in
    record {
      most = omega (arith, up, most);
      there = λ near. later.keeps (entry_of id mark) (h.there (omega (arith, near, up, ring)))
          (omega (arith, near, ring));
    }

old-new : (id : List ℕ) (m : Marks) (counter : ℕ) → IsOld id (add_mark m id counter) (m.count + 1)
old-new id m counter = record { most = omega arith; there = λ near. newest m id counter }

-- a new one is far from one that isn't remembered
pub far-from : (id : List ℕ) (m : Marks) (mark : ℕ) → IsOld id m mark → remembered m id ≡ None
    → mark + m.ring < m.count + 1
far-from id m mark h none =
    elim (cases_lt m.count (mark + m.ring)) [
      | inl near ↦ absurd (is_not_held m id none mark (h.there near))
      | inr most ↦ omega (arith, most)
    ]

-- and of one that is far no more is said behind it
old-far : (id : List ℕ) (m : Marks) (counter mark : ℕ) → mark + m.ring < m.count + 1
    → IsOld id (add_mark m id counter) mark
old-far id m counter mark far = record {
  most = omega (arith, far);
  there = λ near. absurd (let less : m.count + 1 < mark + m.ring = near in omega (arith, less, far));
}

-- ---- a search among items

pub search-more : (p : List TraceItem) (i : TraceItem) (k mark : ℕ) → HasSearch p k mark
    → HasSearch (p ++ i ∷ []) k mark
search-more p i k mark s =
    record { point = s.point; there = in-left (item.Search k s.point mark) p (i ∷ []) s.there }

-- the item is no search of this trader
abbrev pub IsOther : TraceItem → ℕ → Type 0
IsOther i k = (point mark : ℕ) → item.Search k point mark ≡ i → ⊥

pub search-before : (p : List TraceItem) (i : TraceItem) (k mark : ℕ) → IsOther i k → HasSearch (p ++ i ∷ []) k mark
    → HasSearch p k mark
search-before p i k mark other s = by-part (in-append (item.Search k s.point mark) p (i ∷ []) s.there)
  where
    by-part : In (item.Search k s.point mark) p ⊎ In (item.Search k s.point mark) (i ∷ []) → HasSearch p k mark
    by-part (inl h) = record { point = s.point; there = h }
    by-part (inr (inl e)) = absurd (other s.point mark e)
    by-part (inr (inr h)) = elim h [ ]

module _ (id : List ℕ) (rings : ℕ → ℕ) (Quiet Still : Type 0) where
  -- ---- a trader

  -- the trader has these marks behind these items
  pub record Stands (p : List TraceItem) (k : ℕ) (m : Marks) : Type 0 where
    pub ring_is : m.ring ≡ rings k
    pub old : (mark : ℕ) → HasSearch p k mark → IsOld id m mark
    pub own : Quiet → (number : ℕ) → RemembersAs m id number → HasSearch p k number
    pub room : Still → 0 < m.ring
    pub last : Still → (mark : ℕ) → HasSearch p k mark → m.count ≡ mark

  stands-more : (p : List TraceItem) (i : TraceItem) (k : ℕ) (m : Marks) → IsOther i k → Stands p k m
      → Stands (p ++ i ∷ []) k m
  stands-more p i k m other h = record {
    ring_is = h.ring_is;
    old = λ mark s. h.old mark (search-before p i k mark other s);
    own = λ quiet n held. search-more p i k n (h.own quiet n held);
    room = h.room;
    last = λ still mark s. h.last still mark (search-before p i k mark other s);
  }

  stands-later : (p : List TraceItem) (k : ℕ) (a b : Marks) → Later a b → (Still → b.count ≡ a.count)
      → (Quiet → (number : ℕ) → RemembersAs b id number → RemembersAs a id number) → Stands p k a → Stands p k b
  stands-later p k a b on stays unmarked h = record {
    ring_is = on.ring ∙ h.ring_is;
    old = λ mark s. old-later id a b mark on (h.old mark s);
    own = λ quiet n held. h.own quiet n (unmarked quiet n held);
    room = λ still. subst (λ (n : ℕ). 0 < n) (sym on.ring) (h.room still);
    last = λ still mark s. stays still ∙ h.last still mark s;
  }

  -- a search of the trader that is far from each one before
  stands-searched : (p : List TraceItem) (k point : ℕ) (m : Marks) (counter : ℕ)
      → ((mark : ℕ) → HasSearch p k mark → mark + m.ring < m.count + 1) → Stands p k m
      → Stands (p ++ item.Search k point (m.count + 1) ∷ []) k (add_mark m id counter)
  stands-searched p k point m counter far h = record {
    ring_is = h.ring_is;
    old =
        λ mark s. old-by mark s.point
        (in-append (item.Search k s.point mark) p (item.Search k point (m.count + 1) ∷ []) s.there);
    own = λ quiet n held. own-by n quiet (no_other m id id counter n held);
    room = h.room;
    last =
        λ still mark s. last-by still mark s.point
        (in-append (item.Search k s.point mark) p (item.Search k point (m.count + 1) ∷ []) s.there);
  }
    where
      -- it was far, and the last of the trader's marks
      last-by : Still → (mark x : ℕ)
          → In (item.Search k x mark) p ⊎ In (item.Search k x mark) (item.Search k point (m.count + 1) ∷ [])
          → m.count + 1 ≡ mark
      last-by still mark x (inl s) =
          let there : HasSearch p k mark = record { point = x; there = s } in
          let less = far mark there in
          let same = h.last still mark there in
          let some = h.room still in absurd (omega (arith, less, same, some))
      last-by still mark x (inr (inl e)) = cc
      last-by still mark x (inr (inr s)) = elim s [ ]

      old-by : (mark x : ℕ)
          → In (item.Search k x mark) p ⊎ In (item.Search k x mark) (item.Search k point (m.count + 1) ∷ [])
          → IsOld id (add_mark m id counter) mark
      old-by mark x (inl s) = old-far id m counter mark (far mark (record { point = x; there = s }))
      old-by mark x (inr (inl e)) =
          let same : m.count + 1 ≡ mark = cc in
          subst (IsOld id (add_mark m id counter)) same (old-new id m counter)
      old-by mark x (inr (inr s)) = elim s [ ]

      own-by : (n : ℕ) → Quiet → RemembersAs m id n ⊎ ((id ≡ id) × (m.count + 1 ≡ n))
          → HasSearch (p ++ item.Search k point (m.count + 1) ∷ []) k n
      own-by n quiet (inl held) = search-more p (item.Search k point (m.count + 1)) k n (h.own quiet n held)
      own-by n quiet (inr new) = record {
        point = point;
        there =
            in-right (item.Search k point n) p (item.Search k point (m.count + 1) ∷ [])
            (inl (ap (λ (x : ℕ). item.Search k point x) (sym new.1)));
      }

  -- ---- a group

  abbrev pub Knows : List TraceItem → List View → Type 0
  Knows p w = (j : ℕ) (v : View) → slice_get w j ≡ Some v → Stands p j v.marks

  knows-more : (p : List TraceItem) (i : TraceItem) (w : List View) → ((j : ℕ) → IsOther i j) → Knows p w
      → Knows (p ++ i ∷ []) w
  knows-more p i w other h j v is = stands-more p i j v.marks (other j) (h j v is)

  -- the trader k is seen otherwise then, and the item is no search of another
  put-knows : (p : List TraceItem) (i : TraceItem) (w : List View) (k : ℕ) (v x : View) → slice_get w k ≡ Some v
      → Knows p w → Stands (p ++ i ∷ []) k x.marks → ((j : ℕ) → (k ≡ j → ⊥) → IsOther i j)
      → Knows (p ++ i ∷ []) (slice_set w k x)
  put-knows p i w k v x is h new other j z e = by-trader (nat_eq k j) refl
    where
      by-trader : (b : Bool) → nat_eq k j ≡ b → Stands (p ++ i ∷ []) j z.marks
      by-trader true same =
          let one = eqb-true k j same in
          let at : x ≡ z =
          same-view (slice_get (slice_set w k x) j) x z
          (subst (λ (n : ℕ). slice_get (slice_set w k x) n ≡ Some x) one (get-set_same w k v x is)) e in
          subst (λ (y : View). Stands (p ++ i ∷ []) j y.marks) at
          (subst (λ (n : ℕ). Stands (p ++ i ∷ []) n x.marks) one new)
      by-trader false apart =
          let not_one = eqb-false k j apart in
          stands-more p i j z.marks (other j not_one) (h j z (sym (get-set_other w k j x not_one) ∙ e))

  -- ---- an arrival

  pub record IsSearched (a : Arrival) (k mark : ℕ) : Type 0 where
    pub mark_is : mark ≡ a.seen.marks.count + 1
    pub ring_is : a.seen.marks.ring ≡ rings k
    pub far : (m : ℕ) → HasSearch a.before k m → m + a.seen.marks.ring < mark

  pub record HasContent (a : Arrival) : Type 0 where
    pub under : (k : ℕ) → visited_by a.item ≡ Some k → identifier_of a ≡ id
    pub searched : (k point mark : ℕ) → a.item ≡ item.Search k point mark → IsSearched a k mark
    pub named : Quiet → (k point mark : ℕ) → a.item ≡ item.Repeat k point mark → HasSearch a.before k mark
    pub lasts : Still → (k mark : ℕ) → visited_by a.item ≡ Some k → HasSearch a.before k mark
        → a.seen.marks.count < mark + a.seen.marks.ring

  -- others marked nothing under the identifier, where it is quiet
  abbrev pub AreUnmarked : List Arrival → Type 0
  AreUnmarked xs =
      (a : Arrival) → In a xs → Quiet → (number : ℕ) → RemembersAs a.seen.marks id number → RemembersAs a.last.marks id number

  -- one that is refused, or goes on along its path
  pub content-aside : (a : Arrival) → visited_by a.item ≡ None → HasContent a
  content-aside a none = record {
    under = λ k e. absurd (neither k (sym none ∙ e));
    searched = λ k point mark e. absurd (neither k (sym none ∙ ap visited_by e));
    named = λ quiet k point mark e. absurd (neither k (sym none ∙ ap visited_by e));
    lasts = λ still k mark e. absurd (neither k (sym none ∙ e));
  }
    where
      neither : (n : ℕ) → ◌≡◌ {A = Option ℕ} None (Some n) → ⊥
      neither n e = cc

  -- ---- what a walk leaves

  pub record Marked (p t : List TraceItem) (u : List View) (xs : List Arrival) : Type 0 where
    pub content : (a : Arrival) → In a xs → HasContent a
    pub knows : Knows (p ++ t) u

  marked-alone : (p : List TraceItem) (i : TraceItem) (u : List View) (a : Arrival) → HasContent a → Knows (p ++ i ∷ []) u
      → Marked p (i ∷ []) u (a ∷ [])
  marked-alone p i u a content h = record { content = λ x e. by-place x e; knows = h }
    where
      by-place : (x : Arrival) → In x (a ∷ []) → HasContent x
      by-place x (inl e) = subst HasContent (sym e) content
      by-place x (inr e) = elim e [ ]

  marked-first : (p : List TraceItem) (i : TraceItem) (t : List TraceItem) (u : List View) (a : Arrival)
      (xs : List Arrival) → HasContent a → Marked (p ++ i ∷ []) t u xs → Marked p (i ∷ t) u (a ∷ xs)
  marked-first p i t u a xs content more = record {
    content = λ x e. by-place x e;
    knows = subst (λ (x : List TraceItem). Knows x u) (append_assoc p (i ∷ []) t) more.knows;
  }
    where
      by-place : (x : Arrival) → In x (a ∷ xs) → HasContent x
      by-place x (inl e) = subst HasContent (sym e) content
      by-place x (inr e) = more.content x e

  marked-on : (p t ts : List TraceItem) (m u : List View) (xs ys : List Arrival) → Marked p t m xs
      → Marked (p ++ t) ts u ys → Marked p (t ++ ts) u (xs ++ ys)
  marked-on p t ts m u xs ys a b = record {
    content = λ x e. by-part x (in-append x xs ys e);
    knows = subst (λ (x : List TraceItem). Knows x u) (append_assoc p t ts) b.knows;
  }
    where
      by-part : (x : Arrival) → In x xs ⊎ In x ys → HasContent x
      by-part x (inl e) = a.content x e
      by-part x (inr e) = b.content x e

  -- the visit ends
  marked-left : (p t : List TraceItem) (u : List View) (xs : List Arrival) → Marked p t u xs
      → Marked p (t ++ item.Leave ∷ []) u xs
  marked-left p t u xs h = record {
    content = h.content;
    knows =
        subst (λ (x : List TraceItem). Knows x u) (append_assoc p t (item.Leave ∷ []))
        (knows-more (p ++ t) item.Leave u (λ j point mark e. absurd (let bad : ⊥ = cc in bad)) h.knows);
  }

-- ---- beginnings

module _ (others : List Accepted → Type 0) (later : Marks → Marks → Type 0)
    (grows : (a b : Marks) → later a b → Later a b) (id : List ℕ) (rings : ℕ → ℕ) (Quiet Still : Type 0)
    (stays : Still → (a b : Marks) → later a b → b.count ≡ a.count) where
  abbrev IsUnmarked : {w : List View} → {k : ℕ} → {q : Query} → {start : Start} → {u : List View}
      → BeginsVisit others later w k q start u → Type 0
  IsUnmarked b =
      Quiet → (number : ℕ) → RemembersAs b.begun.seen.marks id number → RemembersAs b.begun.meanwhile.view.marks id number

  seen-stands : (p : List TraceItem) (w : List View) (k : ℕ) (q : Query) (start : Start) (u : List View)
      → (b : BeginsVisit others later w k q start u) → IsUnmarked b → Knows id rings Quiet Still p w
      → Stands id rings Quiet Still p k b.begun.seen.marks
  seen-stands p w k q start u b unmarked h =
      let m = b.begun.meanwhile in
      let seen_so : m.marks ≡ b.begun.seen.marks = sym (ap (λ (y : View). y.marks) m.seen_is) in
      stands-later id rings Quiet Still p k m.view.marks b.begun.seen.marks
      (subst (Later m.view.marks) seen_so (grows m.view.marks m.marks m.may_mark))
      (λ still.
      ap (λ (y : Marks). y.count) (sym seen_so) ∙ stays still m.view.marks m.marks m.may_mark)
      unmarked (h k m.view m.is)

  lasts-so : (p : List TraceItem) (k j mark : ℕ) (m : Marks) → Stands id rings Quiet Still p k m → Still
      → ◌≡◌ {A = Option ℕ} (Some k) (Some j) → HasSearch p j mark → m.count < mark + m.ring
  lasts-so p k j mark m h still e s =
      let one : j ≡ k = cc in
      let there : HasSearch p k mark = subst (λ (y : ℕ). HasSearch p y mark) one s in
      let same = h.last still mark there in
      let some = h.room still in omega (arith, same, some)

  -- one that searches nothing
  pub other-knows : (p : List TraceItem) (i : TraceItem) (w : List View) (k : ℕ) (q : Query) (start : Start)
      (u : List View) → (b : BeginsVisit others later w k q start u) → is_search b.begin ≡ false
      → ((j : ℕ) → IsOther i j) → IsUnmarked b → Knows id rings Quiet Still p w
      → Knows id rings Quiet Still (p ++ i ∷ []) u
  other-knows p i w k q start u b quiet other unmarked h =
      let v = b.begun.seen in
      let x = seen_after v (after_begin (store_seen v) v.marks q b.begin) in
      let same : v.marks ≡ x.marks = sym (only_searches (store_seen v) v.marks q b.begin quiet) in
      subst (Knows id rings Quiet Still (p ++ i ∷ [])) (sym b.begun.world)
      (put-knows id rings Quiet Still p i w k b.begun.meanwhile.view x b.begun.meanwhile.is h
      (subst (Stands id rings Quiet Still (p ++ i ∷ []) k) same
      (stands-more id rings Quiet Still p i k v.marks (other k) (seen-stands p w k q start u b unmarked h)))
      (λ j apart. other j))

  pub refused-knows : (p : List TraceItem) (w : List View) (k : ℕ) (q : Query) (point : ℕ) (o : Outcome)
      (u : List View)
      → (b : BeginsVisit others later w k q (Refused point o) u) → IsUnmarked b → Knows id rings Quiet Still p w
      → Knows id rings Quiet Still (p ++ item.Refused k point ∷ []) u
  refused-knows p w k q point o u b =
      other-knows p (item.Refused k point) w k q (Refused point o) u b
      (refused-is (length (history_at u k)) point o b.begin b.is) (λ j x n e. absurd (let bad : ⊥ = cc in bad))

  pub path-knows : (p : List TraceItem) (w : List View) (k : ℕ) (q : Query) (l : Local) (u : List View)
      → (b : BeginsVisit others later w k q (Path l) u) → IsUnmarked b → Knows id rings Quiet Still p w
      → Knows id rings Quiet Still (p ++ item.Path k l.point ∷ []) u
  path-knows p w k q l u b =
      other-knows p (item.Path k l.point) w k q (Path l) u b
      (ap is_search (path-is (length (history_at u k)) l b.begin b.is))
      (λ j x n e. absurd (let bad : ⊥ = cc in bad))

  repeat-knows : (p : List TraceItem) (w : List View) (k : ℕ) (q : Query) (point n : ℕ) (u : List View)
      → (b : BeginsVisit others later w k q (Repeat point n) u) → IsUnmarked b → Knows id rings Quiet Still p w
      → Knows id rings Quiet Still (p ++ item.Repeat k point n ∷ []) u
  repeat-knows p w k q point n u b =
      other-knows p (item.Repeat k point n) w k q (Repeat point n) u b
      (ap is_search (repeat-is (length (history_at u k)) point n b.begin b.is))
      (λ j x m e. absurd (let bad : ⊥ = cc in bad))

  repeat-content : (p : List TraceItem) (gone : ℕ) (w : List View) (k : ℕ) (q : Query) (point n : ℕ) (u : List View)
      → (b : BeginsVisit others later w k q (Repeat point n) u) → IsUnmarked b → Knows id rings Quiet Still p w
      → States id q
      → HasContent id rings Quiet Still (arrival p gone (item.Repeat k point n) b)
  repeat-content p gone w k q point n u b unmarked h states =
      let v = b.begun.seen in
      let here = repeat-here others later w k q point n u b in
      let as_stated = states (parts_of q).stated here.taken in
      let held : RemembersAs v.marks id n =
      is_held v.marks id n (sym (remembered-as-stated v.marks q id as_stated) ∙ here.held) in
      let stands = seen-stands p w k q (Repeat point n) u b unmarked h in
      record {
        under = λ j e. searched-as-stated (store_seen v) v.marks q id as_stated;
        searched = λ j x m e. absurd (let bad : ⊥ = cc in bad);
        named = λ quiet j x m e. by-item j x m e (stands.own quiet n held);
        lasts = λ still j mark e s. lasts-so p k j mark v.marks stands still e s;
      }
    where
      by-item : (j x m : ℕ) → item.Repeat k point n ≡ item.Repeat j x m → HasSearch p k n → HasSearch p j m
      by-item j x m e s =
          let one : k ≡ j = cc in
          let two : n ≡ m = cc in
          subst (λ (y : ℕ). HasSearch p y m) one (subst (λ (y : ℕ). HasSearch p k y) two s)

  pub record SearchMarked (p : List TraceItem) (k : ℕ) (l : Local) (u : List View) (a : Arrival) : Type 0 where
    pub content : HasContent id rings Quiet Still a
    pub knows : Knows id rings Quiet Still (p ++ item.Search k l.point l.mark ∷ []) u

  -- a search, where the trader doesn't remember the identifier, or none of it is noted yet
  pub search-marked : (p : List TraceItem) (gone : ℕ) (w : List View) (k : ℕ) (q : Query) (l : Local) (u : List View)
      → (b : BeginsVisit others later w k q (Search l) u) → IsUnmarked b → Knows id rings Quiet Still p w
      → (searched_under (store_seen b.begun.seen) b.begun.seen.marks q).identifier ≡ id
      → ((m : ℕ) → HasSearch p k m → remembered b.begun.seen.marks id ≡ None)
      → SearchMarked p k l u (arrival p gone (item.Search k l.point l.mark) b)
  search-marked p gone w k q l u b unmarked h under new =
      let v = b.begun.seen in
      let stands = seen-stands p w k q (Search l) u b unmarked h in
      let mark : v.marks.count + 1 ≡ l.mark = sym (search-here others later w k q l u b).served.mark_is in
      let far = λ (m : ℕ) (s : HasSearch p k m). far-from id v.marks m (stands.old m s) (new m s) in
      let counter = (searched_under (store_seen v) v.marks q).counter in
      let x = seen_after v (after_begin (store_seen v) v.marks q b.begin) in
      let made : x.marks ≡ add_mark v.marks id counter =
      ap (after_begin (store_seen v) v.marks q) (search-is (length (history_at u k)) l b.begin b.is)
      ∙ (marks-searched (store_seen v) v.marks q l ∙ ap (λ (y : List ℕ). add_mark v.marks y counter) under) in
      record {
        content = record {
          under = λ j e. under;
          searched = λ j y m e. searched-so j y m e mark far stands.ring_is;
          named = λ quiet j y m e. absurd (let bad : ⊥ = cc in bad);
          lasts = λ still j m e s. lasts-so p k j m v.marks stands still e s;
        };
        knows =
            subst (Knows id rings Quiet Still (p ++ item.Search k l.point l.mark ∷ [])) (sym b.begun.world)
            (put-knows id rings Quiet Still p (item.Search k l.point l.mark) w k b.begun.meanwhile.view x
            b.begun.meanwhile.is h
            (subst (Stands id rings Quiet Still (p ++ item.Search k l.point l.mark ∷ []) k) (sym made)
            (subst
            (λ (n : ℕ). Stands id rings Quiet Still (p ++ item.Search k l.point n ∷ []) k (add_mark v.marks id counter))
            mark (stands-searched id rings Quiet Still p k l.point v.marks counter far stands)))
            (λ j apart y m e. apart (let same : k ≡ j = cc in same)));
      }
    where
      searched-so : (j y m : ℕ) → item.Search k l.point l.mark ≡ item.Search j y m
          → b.begun.seen.marks.count + 1 ≡ l.mark
          → ((n : ℕ) → HasSearch p k n → n + b.begun.seen.marks.ring < b.begun.seen.marks.count + 1)
          → b.begun.seen.marks.ring ≡ rings k
          → IsSearched id rings Quiet Still (arrival p gone (item.Search k l.point l.mark) b) j m
      searched-so j y m e mark far ring =
          let one : k ≡ j = cc in
          let two : l.mark ≡ m = cc in
          record {
            mark_is = sym (mark ∙ two);
            ring_is = ring ∙ ap rings one;
            far =
                λ n s. let before : HasSearch p k n = subst (λ (z : ℕ). HasSearch p z n) (sym one) s in
                let less = far n before in
                let all : b.begun.seen.marks.count + 1 ≡ m = mark ∙ two in omega (arith, less, all);
          }

-- ---- a walk whose query states the identifier

module _ (others : List Accepted → Type 0) (later : Marks → Marks → Type 0)
    (grows : (a b : Marks) → later a b → Later a b) (inside : Insides) (id : List ℕ) (rings : ℕ → ℕ)
    (Quiet Still : Type 0) (stays : Still → (a b : Marks) → later a b → b.count ≡ a.count) where
  opened-marked : (p : List TraceItem) (gone : ℕ) (w : List View) (k : ℕ) (q : Query) (l : Local) (x m : List View)
      (t : List TraceItem) (xs : List Arrival) {start : Start} {head : TraceItem} → OpensWith k l start head
      → (b : BeginsVisit others later w k q start x) → States id q
      → IsUnmarked others later grows id rings Quiet Still stays b
      → Knows id rings Quiet Still p w
      → (Passes id l → Knows id rings Quiet Still (p ++ head ∷ []) x
      → Marked id rings Quiet Still (p ++ head ∷ []) t m xs)
      → Marked id rings Quiet Still p (head ∷ t ++ item.Leave ∷ []) m (arrival p gone head b ∷ xs)
  opened-marked p gone w k q l x m t xs searching b states unmarked h steps =
      let v = b.begun.seen in
      let here = search-here others later w k q l x b in
      let as_stated = states (parts_of q).stated here.taken in
      let under = searched-as-stated (store_seen v) v.marks q id as_stated in
      let new : remembered v.marks id ≡ None = sym (remembered-as-stated v.marks q id as_stated) ∙ here.new in
      let s =
      search-marked others later grows id rings Quiet Still stays p gone w k q l x b unmarked h under (λ n o. new) in
      let passes : Passes id l =
      search-states l id here.served.path (here.served.identified ∙ ap (λ (y : List ℕ). Some y) under) in
      marked-first id rings Quiet Still p (item.Search k l.point l.mark) (t ++ item.Leave ∷ []) m
      (arrival p gone (item.Search k l.point l.mark) b) xs s.content
      (marked-left id rings Quiet Still (p ++ item.Search k l.point l.mark ∷ []) t m xs (steps passes s.knows))
  opened-marked p gone w k q l x m t xs passing b states unmarked h steps =
      let path = (known others later).paths w k q l x b in
      let passes : Passes id l =
      λ answers target sub e s is.
      (path-keeps (store_seen path.seen) (length path.seen.history) q l path.here answers target sub e).identifier s is
      ∙ states (parts_of q).stated path.here.taken in
      marked-first id rings Quiet Still p (item.Path k l.point) (t ++ item.Leave ∷ []) m
      (arrival p gone (item.Path k l.point) b) xs
      (content-aside id rings Quiet Still (arrival p gone (item.Path k l.point) b) refl)
      (marked-left id rings Quiet Still (p ++ item.Path k l.point ∷ []) t m xs
      (steps passes (path-knows others later grows id rings Quiet Still stays p w k q l x b unmarked h)))

  none-marked : (p : List TraceItem) (w : List View) → Knows id rings Quiet Still p w
      → Marked id rings Quiet Still p [] w []
  none-marked p w h = record {
    content = λ a i. elim i [ ];
    knows = subst (λ (x : List TraceItem). Knows id rings Quiet Still x w) (sym (append-nil p)) h;
  }

  -- a step that goes to no trader of the group
  aside-marked : (p : List TraceItem) (i : TraceItem) (w : List View) → ((j : ℕ) → IsOther i j)
      → Knows id rings Quiet Still p w → Marked id rings Quiet Still p (i ∷ []) w []
  aside-marked p i w other h = record {
    content = λ a e. elim e [ ];
    knows = knows-more id rings Quiet Still p i w other h;
  }

  mutual
    pub walk-marked : (p : List TraceItem) {s : WalkState (List View)} {k : ℕ} {q : Query} {t : List TraceItem}
        {v : Visit} {u : WalkState (List View)} → (walk : Walk (BeginsVisit others later) inside s k q t v u) → States id q
        → AreUnmarked id rings Quiet Still (arrivals p walk) → Knows id rings Quiet Still p s.world
        → Marked id rings Quiet Still p t u.world (arrivals p walk)
    walk-marked p (refused {s = s} {k = k} {q = q} {point = point} {o = o} {w = w} b) states unmarked h =
        marked-alone id rings Quiet Still p (item.Refused k point) w
        (arrival p (sent s.calls) (item.Refused k point) b)
        (content-aside id rings Quiet Still (arrival p (sent s.calls) (item.Refused k point) b) refl)
        (refused-knows others later grows id rings Quiet Still stays p s.world k q point o w b
        (unmarked _ (inl refl)) h)
    walk-marked p (repeat {s = s} {k = k} {q = q} {point = point} {mark = n} {w = w} b) states unmarked h =
        marked-alone id rings Quiet Still p (item.Repeat k point n) w
        (arrival p (sent s.calls) (item.Repeat k point n) b)
        (repeat-content others later grows id rings Quiet Still stays p (sent s.calls) s.world k q point n w b
        (unmarked _ (inl refl)) h states)
        (repeat-knows others later grows id rings Quiet Still stays p s.world k q point n w b
        (unmarked _ (inl refl)) h)
    walk-marked p (asking {s = s} {k = k} {q = q} {w = w} {l = l} {head = head} {t = t} {m = m} b o steps en) states
        unmarked h =
        subst
        (λ (x : List View). Marked id rings Quiet Still p (head ∷ t ++ item.Leave ∷ []) x
        (arrival p (sent s.calls) head b ∷ arrivals_in (p ++ head ∷ []) steps)) (sym en.world)
        (opened-marked p (sent s.calls) s.world k q l w m.world t (arrivals_in (p ++ head ∷ []) steps) o b states
        (unmarked _ (inl refl)) h
        (λ passes j. steps-marked (p ++ head ∷ []) steps passes (λ a i. unmarked a (inr i)) j))

    pub steps-marked : (p : List TraceItem) {s : WalkState (List View)} {l : Local} {answers : List StepAnswer}
        {t : List TraceItem} {all : List StepAnswer} {u : WalkState (List View)}
        → (steps : Steps (BeginsVisit others later) inside s l answers t all u) → Passes id l
        → AreUnmarked id rings Quiet Still (arrivals_in p steps) → Knows id rings Quiet Still p s.world
        → Marked id rings Quiet Still p t u.world (arrivals_in p steps)
    steps-marked p (done {s = s} e) passes unmarked h = none-marked p s.world h
    steps-marked p (asked {answers = answers} {t = t} {m = m} {ts = ts} {u = u} step steps) passes unmarked h =
        let a =
        step-marked p step (λ target sub e. passes answers target sub e)
        (λ x i. unmarked x (in-left x (arrivals_by p step) (arrivals_in (p ++ t) steps) i)) h in
        marked-on id rings Quiet Still p t ts m.world u.world (arrivals_by p step) (arrivals_in (p ++ t) steps) a
        (steps-marked (p ++ t) steps passes
        (λ x i. unmarked x (in-right x (arrivals_by p step) (arrivals_in (p ++ t) steps) i)) a.knows)

    step-marked : (p : List TraceItem) {s : WalkState (List View)} {question : Next} {t : List TraceItem}
        {r : StepAnswer} {u : WalkState (List View)} → (step : Step (BeginsVisit others later) inside s question t r u)
        → ((target : Ior) (sub : Query) → question ≡ Forward target sub → States id sub)
        → AreUnmarked id rings Quiet Still (arrivals_by p step) → Knows id rings Quiet Still p s.world
        → Marked id rings Quiet Still p t u.world (arrivals_by p step)
    step-marked p (visited {target = target} {q = q} i walk) passes unmarked h =
        walk-marked p walk (passes target q refl) unmarked h
    step-marked p (outside {s = s} {a = a} i small) passes unmarked h =
        aside-marked p (item.Outside a) s.world (λ j x n e. absurd (let bad : ⊥ = cc in bad)) h
    step-marked p (no_memory_with {s = s} {f = f} i n) passes unmarked h =
        aside-marked p (item.Failed f) s.world (λ j x n e. absurd (let bad : ⊥ = cc in bad)) h
    step-marked p (evaluated {s = s} {value = value} i) passes unmarked h =
        aside-marked p (item.Evaluated value) s.world (λ j x n e. absurd (let bad : ⊥ = cc in bad)) h
    step-marked p (unevaluated {s = s} {f = f} i n) passes unmarked h =
        aside-marked p (item.Failed f) s.world (λ j x n e. absurd (let bad : ⊥ = cc in bad)) h
    step-marked p (unreachable {s = s} i) passes unmarked h =
        aside-marked p item.Unreachable s.world (λ j x n e. absurd (let bad : ⊥ = cc in bad)) h
