-- What is noted of a visit that begins: its mark, if one is made, and how it began.
use Rattle.std.proofs.Common.{◌≡◌, ℕ, zero, suc, ◌+◌, Bool, true, false, cond, nat_eq, nat_lt, List, [], ◌∷◌, ◌++◌}
use Rattle.std.proofs.Common.{Some, length, slice_get, slice_set, refl, sym, ap, subst, ◌∙◌, arith}
use Rattle.std.proofs.Common.{append-nil, ltb-true, ltb-false, Result, Ok, Err, IfOk, OnErr}
use Rattle.std.proofs.lemmas.Bool.{eqb-true, eq-eqb}
use Rattle.td_cdr.specs.Marks.{Marks}
use Rattle.td_cdr.specs.declared.memory.Memory.{Memory as OutOfMemory}
use Rattle.td_typecode.specs.declared.reference.Ior.{Ior}
use Rattle.td_fed.proofs.Points.{begun-rise, watched-length}
use Rattle.td_fed.specs.Entering.{AsksQuestion, EntersTrader, IsAsked, IsEntered, IsEnteredSoFar, asking_of, begin_item}
use Rattle.td_fed.specs.Entering.{entry_of}
use Rattle.td_fed.specs.Entering.{entered, not_entered, only_watched}
use Rattle.td_fed.specs.Entering.{answered as has-answer, begun as has-begun, opens, refused, repeated}
use Rattle.td_targets.specs.Targets.{inside_group}
use Rattle.td_fed.specs.Trails.{IsShown, marks_of, own_marks_at}
use Rattle.td_fed.specs.Visiting.{BeginsVisit, course, start_of}
use Rattle.td_fed.specs.declared.entering.VisitStart.{VisitStart}
use Rattle.td_ops.specs.declared.call.Query.{Query}
use Rattle.td_register.specs.declared.history.Accepted.{Accepted}
use Rattle.td_register.specs.Stores.{Store}
use Rattle.td_changes.specs.declared.bounds.Bounds.{Bounds}
use Rattle.td_trader.proofs.Begun.{marks_once}
use Rattle.td_trader.specs.Beginning.{after_begin, begin_of}
use Rattle.td_trader.specs.Worlds.{BeginsQuery, View, Watches, history_at, number_between, store_seen}
use Rattle.td_trader.specs.Worlds.{after_begin as seen_after}
use Rattle.td_trader.specs.declared.begin.Begin.{Begin}
use Rattle.td_trader.specs.declared.begin.Begin.TheVariants.{Refused, Repeat, Search, Path}
use Rattle.td_walk.specs.Peering.{Exchange}
use Rattle.td_walk.specs.declared.answer.Next.TheVariants.{Forward}
use Rattle.td_walk.specs.declared.trace.Address.{Address}
use Rattle.td_walk.specs.declared.trace.TraceItem.{TraceItem}
use Rattle.td_query_walk.specs.Walks.{passing, searching, peer_answers, visited}
use Rattle.td_query_walk.specs.Walks.{refused as walk-refused, repeat as walk-repeat}

-- ---- one trader of a list

same-truth : (a b : Bool) → (a ≡ true → b ≡ true) → (b ≡ true → a ≡ true) → a ≡ b
same-truth true true p q = refl
same-truth true false p q = sym (p refl)
same-truth false true p q = q refl
same-truth false false p q = refl

untrue : (a : Bool) → (a ≡ true → ⊥) → a ≡ false
untrue true h = absurd (h refl)
untrue false h = refl

next-eq : (k j : ℕ) → nat_eq (suc k) (suc j) ≡ nat_eq k j
next-eq k j =
    same-truth (nat_eq (suc k) (suc j)) (nat_eq k j)
    (λ h. let e = eqb-true (suc k) (suc j) h in eq-eqb k j (omega (arith, e)))
    (λ h. let e = eqb-true k j h in eq-eqb (suc k) (suc j) (omega (arith, e)))

first-eq : (j : ℕ) → nat_eq 0 (suc j) ≡ false
first-eq j = untrue (nat_eq 0 (suc j)) (λ h. let e = eqb-true 0 (suc j) h in omega (arith, e))

eq-first : (k : ℕ) → nat_eq (suc k) 0 ≡ false
eq-first k = untrue (nat_eq (suc k) 0) (λ h. let e = eqb-true (suc k) 0 h in omega (arith, e))

own-at : (w : List View) (k : ℕ) (v u : View) (ms : List ℕ) → slice_get w k ≡ Some v
    → u.own_marks ≡ v.own_marks ++ ms → (j : ℕ)
    → own_marks_at (slice_set w k u) j ≡ own_marks_at w j ++ cond (nat_eq k j) ms []
own-at [] k v u ms is e j = absurd (let bad : ⊥ = cc in bad)
own-at (x ∷ w) zero v u ms is e zero =
    let same : x ≡ v = cc in e ∙ ap (λ (y : View). y.own_marks ++ ms) (sym same)
own-at (x ∷ w) zero v u ms is e (suc j) =
    sym (append-nil (own_marks_at w j)) ∙ ap (λ b. own_marks_at w j ++ cond b ms []) (sym (first-eq j))
own-at (x ∷ w) (suc k) v u ms is e zero =
    sym (append-nil x.own_marks) ∙ ap (λ b. x.own_marks ++ cond b ms []) (sym (eq-first k))
own-at (x ∷ w) (suc k) v u ms is e (suc j) =
    own-at w k v u ms is e j ∙ ap (λ b. own_marks_at w j ++ cond b ms []) (sym (next-eq k j))

-- ---- the mark that a beginning makes

abbrev new_mark : Begin → List ℕ
new_mark (Refused o) = []
new_mark (Repeat number) = []
new_mark (Search l) = l.mark ∷ []
new_mark (Path l) = []

unnumbered : (m : Marks) → number_between m m ≡ []
unnumbered m = from (nat_lt m.count m.count) refl
  where
    from : (b : Bool) → nat_lt m.count m.count ≡ b → cond b (m.count ∷ []) [] ≡ []
    from true h = absurd (let less = ltb-true m.count m.count h in omega (arith, less))
    from false h = refl

numbered : (m c : Marks) (n : ℕ) → c.count ≡ n → n ≡ m.count + 1 → number_between m c ≡ n ∷ []
numbered m c n is next = from (nat_lt m.count c.count) refl
  where
    from : (b : Bool) → nat_lt m.count c.count ≡ b → cond b (c.count ∷ []) [] ≡ n ∷ []
    from true h = ap (λ x. x ∷ []) is
    from false h = absurd (let most = ltb-false m.count c.count h in omega (arith, most, is, next))

makes : (bounds : Bounds) (s : Store) (point : ℕ) (m : Marks) (q : Query) (b : Begin) → b ≡ begin_of bounds s point m q
    → number_between m (after_begin s m q b) ≡ new_mark b
unfolding after_begin
makes bounds s point m q (Refused o) h = unnumbered m
makes bounds s point m q (Repeat number) h = unnumbered m
makes bounds s point m q (Path l) h = unnumbered m
makes bounds s point m q (Search l) h =
    let once = marks_once bounds s point m q l (sym h) in
    numbered m (after_begin s m q (Search l)) l.mark once.count once.mark

same-cond : (b : Bool) → ◌≡◌ {A = List ℕ} (cond b [] []) []
same-cond true = refl
same-cond false = refl

item-marks : (k point : ℕ) (b : Begin) (j : ℕ)
    → marks_of j (begin_item k point b ∷ []) ≡ cond (nat_eq k j) (new_mark b) []
item-marks k point (Refused o) j = sym (same-cond (nat_eq k j))
item-marks k point (Repeat number) j = sym (same-cond (nat_eq k j))
item-marks k point (Search l) j = append-nil (cond (nat_eq k j) (l.mark ∷ []) [])
item-marks k point (Path l) j = sym (same-cond (nat_eq k j))

no-calls : (k point : ℕ) (b : Begin) → peer_answers (begin_item k point b ∷ []) ≡ []
no-calls k point (Refused o) = refl
no-calls k point (Repeat number) = refl
no-calls k point (Search l) = refl
no-calls k point (Path l) = refl

module _ (others : List Accepted → Type 0) (later : Marks → Marks → Type 0) where
  -- a query that begins
  pub shown-begun : (w u : List View) (k point : ℕ) (q : Query) (b : Begin) (x z y : List TraceItem)
      → BeginsQuery others later w k q b u → point ≡ length (history_at u k) → z ≡ x
      → y ≡ z ++ begin_item k point b ∷ [] → IsShown w [] x y u []
  shown-begun w u k point q b x z y h seen_at kept noted =
      let m = h.meanwhile in
      let after = seen_after h.seen (after_begin (store_seen h.seen) h.seen.marks q b) in
      let made = makes h.seen.bounds (store_seen h.seen) (length h.seen.history) h.seen.marks q b h.begin in
      let own : after.own_marks ≡ m.view.own_marks ++ new_mark b =
      ap (λ (t : List ℕ). h.seen.own_marks ++ t) made
      ∙ ap (λ (t : List ℕ). t ++ new_mark b) (ap (λ (v : View). v.own_marks) m.seen_is) in
      record {
        items = begin_item k point b ∷ [];
        notes = noted ∙ ap (λ t. t ++ begin_item k point b ∷ []) kept;
        marks = λ j.
            ap (λ (t : List View). own_marks_at t j) h.world
            ∙ (own-at w k m.view after (new_mark b) m.is own j
            ∙ ap (λ (t : List ℕ). own_marks_at w j ++ t) (sym (item-marks k point b j)));
        points = begun-rise others later w k q b u h point seen_at;
        made = [];
        calls_are = refl;
        asked = sym (no-calls k point b);
      }

  -- nothing was done but by others
  pub shown-watched : (w u : List View) (k : ℕ) (x y : List TraceItem) → Watches others later w k u → y ≡ x
      → IsShown w [] x y u []
  shown-watched w u k x y h kept =
      let m = h.meanwhile in
      let own : h.seen.own_marks ≡ m.view.own_marks ++ [] =
      ap (λ (v : View). v.own_marks) m.seen_is ∙ sym (append-nil m.view.own_marks) in
      record {
        items = [];
        notes = kept ∙ sym (append-nil x);
        marks = λ j.
            ap (λ (t : List View). own_marks_at t j) h.world
            ∙ (own-at w k m.view h.seen [] m.is own j
            ∙ ap (λ (t : List ℕ). own_marks_at w j ++ t) (same-cond (nat_eq k j)));
        points = watched-length others later w k u h;
        made = [];
        calls_are = refl;
        asked = refl;
      }

  -- ---- how it began

  enters : (w u : List View) (k point : ℕ) (q : Query) (b : Begin) → BeginsQuery others later w k q b u
      → point ≡ length (history_at u k)
      → EntersTrader (BeginsVisit others later) w k q (entry_of b) (begin_item k point b) u
  enters w u k point q (Refused o) h seen_at =
      refused (record { begin = Refused o; begun = h; is = ap (λ p. start_of p (Refused o)) seen_at })
  enters w u k point q (Repeat number) h seen_at =
      repeated (record { begin = Repeat number; begun = h; is = ap (λ p. start_of p (Repeat number)) seen_at })
  enters w u k point q (Search l) h seen_at =
      opens (record { begin = Search l; begun = h; is = refl }) searching
  enters w u k point q (Path l) h seen_at =
      opens (record { begin = Path l; begun = h; is = refl }) passing

  pub is-entered : (w u : List View) (k point : ℕ) (q : Query) (b : Begin) (e : VisitStart) (x z y : List TraceItem)
      → BeginsQuery others later w k q b u → point ≡ length (history_at u k) → e ≡ entry_of b → z ≡ x
      → y ≡ z ++ begin_item k point b ∷ [] → IsEntered (BeginsVisit others later) w k q e x y u
  is-entered w u k point q b e x z y h seen_at is kept noted = record {
    head = begin_item k point b;
    notes = noted ∙ ap (λ t. t ++ begin_item k point b ∷ []) kept;
    enters = subst (λ (f : VisitStart). EntersTrader (BeginsVisit others later) w k q f (begin_item k point b) u) (sym is)
        (enters w u k point q b h seen_at);
  }

  pub entered-if : (w u : List View) (k point : ℕ) (q : Query) (b : Begin) (r : Result VisitStart OutOfMemory)
      (x z y : List TraceItem) → BeginsQuery others later w k q b u → point ≡ length (history_at u k)
      → IfOk r (λ e. e ≡ entry_of b) → z ≡ x → y ≡ z ++ begin_item k point b ∷ []
      → IfOk r (λ e. IsEntered (BeginsVisit others later) w k q e x y u)
  entered-if w u k point q b (Ok e) x z y h seen_at is kept noted =
      is-entered w u k point q b e x z y h seen_at is kept noted
  entered-if w u k point q b (Err m) x z y h seen_at is kept noted = tt

  -- ---- when memory ran out

  -- nothing was noted
  pub entered-nothing : (w : List View) (k : ℕ) (q : Query) (x y : List TraceItem) → y ≡ x
      → IsEnteredSoFar (BeginsVisit others later) (Watches others later) w k q x y w
  entered-nothing w k q x y kept = record { items = []; notes = kept ∙ sym (append-nil x); enters = not_entered }

  pub entered-watched : (w u : List View) (k : ℕ) (q : Query) (x y : List TraceItem) → Watches others later w k u
      → y ≡ x → IsEnteredSoFar (BeginsVisit others later) (Watches others later) w k q x y u
  entered-watched w u k q x y h kept = record {
    items = [];
    notes = kept ∙ sym (append-nil x);
    enters = only_watched h;
  }

  pub entered-unless : (w u : List View) (k point : ℕ) (q : Query) (b : Begin) (r : Result VisitStart OutOfMemory)
      (x z y : List TraceItem) → BeginsQuery others later w k q b u → point ≡ length (history_at u k) → z ≡ x
      → y ≡ z ++ begin_item k point b ∷ []
      → OnErr r (IsEnteredSoFar (BeginsVisit others later) (Watches others later) w k q x y u)
  entered-unless w u k point q b (Ok e) x z y h seen_at kept noted = tt
  entered-unless w u k point q b (Err m) x z y h seen_at kept noted = record {
    items = begin_item k point b ∷ [];
    notes = noted ∙ ap (λ t. t ++ begin_item k point b ∷ []) kept;
    enters = entered (enters w u k point q b h seen_at);
  }

  -- ---- as the answer to a question

  module _ (home : Address) (w : List View) (words : ℕ → ℕ) (calls : List Exchange) (k : ℕ) (target : Ior) (q : Query)
      (inside : inside_group home w target ≡ Some k) where
    comes-to : (e : VisitStart) (head : TraceItem) (u : List View) → EntersTrader (BeginsVisit others later) w k q e head u
        → AsksQuestion (BeginsVisit others later) (inside_group home) (course w words calls) (Forward target q) (asking_of e)
        (head ∷ []) (course u words calls)
    comes-to e head u (refused b) = has-answer (visited inside (walk-refused b))
    comes-to e head u (repeated b) = has-answer (visited inside (walk-repeat b))
    comes-to e head u (opens b o) = has-begun refl inside b o

    pub entered-asked : (e : VisitStart) (u : List View) (x y : List TraceItem)
        → IsEntered (BeginsVisit others later) w k q e x y u
        → IsAsked (BeginsVisit others later) (inside_group home) (course w words calls) (Forward target q) (asking_of e) x y
        (course u words calls)
    entered-asked e u x y h = record {
      items = h.head ∷ [];
      notes = h.notes;
      asks = comes-to e h.head u h.enters;
    }
