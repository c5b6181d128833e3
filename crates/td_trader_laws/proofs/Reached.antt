-- Traders as they are reached.
use Rattle.std.proofs.Common.{◌≡◌, ℕ, ◌+◌, ◌-◌, ◌^◌, ◌<◌, ◌≤◌, Bool, true, false, cond, nat_lt, List, [], ◌∷◌}
use Rattle.std.proofs.Common.{◌++◌, length, Option, Some, None, refl, sym, ap, subst, ◌∙◌, arith, inl, inr}
use Rattle.std.proofs.Common.{bytes_eq}
use Rattle.std.specs.Cmp.Lexicographic.{nat_list_eq_equiv}
use Rattle.std.specs.List.{IsDistinct, list_any}
use Rattle.std.proofs.lemmas.Bool.{cases_Bool, cases_lt}
use Rattle.std.proofs.lemmas.List.{map-append}
use Rattle.std.proofs.lemmas.Map.Keys.{IsDistinct-tail, IsDistinct-push}
use Rattle.std.proofs.lemmas.Slice.Eq.{bytes_eq-Decides}
use Rattle.td_cdr.specs.Marks.{Marks, RememberedMark, In, RemembersAs, Later, AreNumbered, entry_of, kept_beside}
use Rattle.td_cdr.specs.Marks.{made_identifier}
use Rattle.td_cdr.specs.Marks.{add_mark, without_first}
use Rattle.td_cdr.proofs.Marking.{follows, made_apart, newest}
use Rattle.td_marks.specs.Keeping.{AreRingMarks, identifiers, most_kept, no_marks}
use Rattle.td_marks.specs.Making.{made_from, next_value}
use Rattle.td_marks.specs.declared.made.Made.{Made}
use Rattle.td_marks.proofs.Free.{is_next}
use Rattle.td_ops.specs.declared.call.Change.{Change}
use Rattle.td_ops.specs.declared.call.Query.{Query}
use Rattle.td_ops.specs.declared.outcome.Outcome.{Outcome}
use Rattle.td_ops.specs.declared.outcome.Outcome.TheVariants.{Done, User, System}
use Rattle.td_store.specs.declared.local.Local.{Local}
use Rattle.td_changes.specs.Histories.{Legal}
use Rattle.td_changes.specs.declared.bounds.Bounds.{Bounds}
use Rattle.td_changes.proofs.Extending.{legal-empty}
use Rattle.td_register.specs.Causes.{Cause}
use Rattle.td_register.specs.Stores.{Store}
use Rattle.td_register.specs.declared.refusal.Refusal.{Refusal}
use Rattle.td_trader.specs.BeginLaws.{AreKept, IsSearchOfStore}
use Rattle.td_trader.specs.Beginning.{Begins, IsSearch, after_begin, begin_of, begin_unless, query_identifier}
use Rattle.td_trader.specs.Beginning.{searched_under}
use Rattle.td_trader.specs.Following.{Follows}
use Rattle.td_trader.specs.PlainTraders.{AreBounds, PlainTrader, after_begin as trader_after}
use Rattle.td_trader.specs.PlainTraders.{after_outcome, begin_at, outcome_of, store_of}
use Rattle.td_trader.specs.Queries.{parts_of, refusal}
use Rattle.td_trader_laws.specs.Reaching.{IsLegalView, IsReached, IsSearchAt, ReachedMarksGrowLater}
use Rattle.td_trader_laws.specs.Reaching.{ReachedTradersBegin}
use Rattle.td_trader_laws.specs.Reaching.{ReachedTradersSearch, SearchesAreMadeApart, SearchesOfOneIdentifierAreFar}
use Rattle.td_trader_laws.specs.Reaching.{just_opened, by_change, by_reserving, by_query}
use Rattle.td_trader.specs.declared.begin.Begin.{Begin}
use Rattle.td_trader.specs.declared.begin.Begin.TheVariants.{Refused, Repeat, Search, Path}
use Rattle.td_trader.proofs.Begun.{are_served, counter_rises, unless_is}
use Rattle.td_trader.proofs.Counted.{has-room}
use Rattle.td_trader.proofs.Growing.{legal-there}
use Rattle.td_trader.proofs.MarkedOnce.{later-once, left-over, marked-once}

-- ---- one mark more

numbered-length : (k : ℕ) (es : List RememberedMark) (n : ℕ) → AreNumbered k es n → k + length es ≡ n
numbered-length k [] n h = omega (arith, h)
numbered-length k (e ∷ es) n h = let rest = numbered-length (k + 1) es n h.1 in omega (arith, rest)

none-alike : (i : List ℕ) (es : List RememberedMark) → ((n : ℕ) → In (entry_of i n) es → ⊥)
    → list_any (bytes_eq i) (identifiers es) ≡ false
none-alike i [] fresh = refl
none-alike i (e ∷ es) fresh =
    elim (cases_Bool (bytes_eq i e.identifier)) [
      | inl same ↦
          absurd (fresh e.number (inl (ap (λ (j : List ℕ). entry_of j e.number)
          ((bytes_eq-Decides i e.identifier).0 same))))
      | inr other ↦ rw other (none-alike i es (λ n h. fresh n (inr h)))
    ]

distinct-rest : (es : List RememberedMark) → IsDistinct bytes_eq (identifiers es)
    → IsDistinct bytes_eq (identifiers (without_first es))
distinct-rest [] d = d
distinct-rest (e ∷ es) d = IsDistinct-tail bytes_eq e.identifier (identifiers es) d

distinct-beside : (b : Bool) (es : List RememberedMark) → IsDistinct bytes_eq (identifiers es)
    → IsDistinct bytes_eq (identifiers (cond b es (without_first es)))
distinct-beside true es d = d
distinct-beside false es d = distinct-rest es d

fresh-beside : (b : Bool) (es : List RememberedMark) (i : List ℕ) → ((n : ℕ) → In (entry_of i n) es → ⊥) → (n : ℕ)
    → In (entry_of i n) (cond b es (without_first es)) → ⊥
fresh-beside true es i fresh n h = fresh n h
fresh-beside false [] i fresh n h = fresh n h
fresh-beside false (e ∷ es) i fresh n h = fresh n (inr h)

distinct-marked : (m : Marks) (i : List ℕ) → IsDistinct bytes_eq (identifiers m.kept)
    → ((n : ℕ) → RemembersAs m i n → ⊥)
    → IsDistinct bytes_eq (identifiers (kept_beside m ++ entry_of i (m.count + 1) ∷ []))
distinct-marked m i d fresh =
    let b = nat_lt m.count m.ring in
    let beside = kept_beside m in
    subst (IsDistinct bytes_eq)
    (sym (map-append (λ (e : RememberedMark). e.identifier) beside (entry_of i (m.count + 1) ∷ [])))
    (IsDistinct-push nat_list_eq_equiv (identifiers beside) i (distinct-beside b m.kept d)
    (none-alike i beside (fresh-beside b m.kept i fresh)))

kept-marked : (m : Marks) (i : List ℕ) (c : ℕ) → AreRingMarks m → ((n : ℕ) → RemembersAs m i n → ⊥) → m.counter ≤ c
    → c ≤ m.counter + most_kept + 1 → AreRingMarks (add_mark m i c)
kept-marked m i c k fresh up near =
    let f = follows m i c k.orderly up fresh in
    let all = numbered-length (m.count + 1 - m.ring) (add_mark m i c).kept (m.count + 1) f.orderly.numbers in
    let steps = k.steps in
    record {
      orderly = f.orderly;
      most = k.most;
      within = omega (arith, all);
      steps = omega (arith, steps, near);
      distinct = distinct-marked m i k.distinct fresh;
    }

none-kept : (size : ℕ) → 1 ≤ size → size ≤ most_kept → AreRingMarks (no_marks size)
unfolding IsDistinct
none-kept size some most = record {
  orderly = record { room = omega (arith, some); numbers = omega arith };
  most = most;
  within = omega arith;
  steps = omega arith;
  distinct = tt;
}

-- the counter rises by no more than there may be identifiers, and one
counter-near : (m : Marks) (stem : List ℕ) (stated : Option (List ℕ)) → AreRingMarks m → AreKept m
    → (query_identifier m stem stated).counter ≤ m.counter + most_kept + 1
counter-near m stem None k left =
    let soon = (is_next m stem left.orderly left.left).soon in
    let within = k.within in
    let most = k.most in
    omega (arith, soon, within, most)
counter-near m stem (Some i) k left = omega arith

-- ---- a query that begins

module _ (bounds : Bounds) (s : Store) (point : ℕ) (m : Marks) (q : Query) where
  begins-unless : bounds.begins ≤ 2 ^ 40 → AreRingMarks m → (cause : Cause) → refusal bounds m.count s q ≡ cause
      → Begins bounds s point m q (begin_unless cause s point m q)
  begins-unless most k (Some f) h = record { cause = f; first = h; content = refl }
  begins-unless most k None h =
      unless_is bounds s point m q (left-over m k (has-room bounds m.count s q h most)) None h

  begins : bounds.begins ≤ 2 ^ 40 → AreRingMarks m → Begins bounds s point m q (begin_of bounds s point m q)
  unfolding begin_of
  begins most k = begins-unless most k (refusal bounds m.count s q) refl

  kept-taken : AreRingMarks m → AreKept m → (b : Begin) → Begins bounds s point m q b → AreRingMarks (after_begin s m q b)
  unfolding after_begin
  kept-taken k left (Refused o) h = k
  kept-taken k left (Repeat number) h = k
  kept-taken k left (Path l) h = k
  kept-taken k left (Search l) h =
      kept-marked m (searched_under s m q).identifier (searched_under s m q).counter k h.fresh
      (counter_rises m s.attributes.request_id_stem (parts_of q).stated.request_id left)
      (counter-near m s.attributes.request_id_stem (parts_of q).stated.request_id k left)

  kept-refused : (f : Refusal) → AreRingMarks m → AreRingMarks (after_begin s m q (begin_unless (Some f) s point m q))
  unfolding after_begin
  kept-refused f k = k

  kept-unless : bounds.begins ≤ 2 ^ 40 → AreRingMarks m → (cause : Cause) → refusal bounds m.count s q ≡ cause
      → AreRingMarks (after_begin s m q (begin_unless cause s point m q))
  kept-unless most k (Some f) h = kept-refused f k
  kept-unless most k None h =
      let left = left-over m k (has-room bounds m.count s q h most) in
      kept-taken k left (begin_unless None s point m q) (unless_is bounds s point m q left None h)

  kept-begun : bounds.begins ≤ 2 ^ 40 → AreRingMarks m → AreRingMarks (after_begin s m q (begin_of bounds s point m q))
  unfolding begin_of
  kept-begun most k = kept-unless most k (refusal bounds m.count s q) refl

ring-begun : (s : Store) (m : Marks) (q : Query) (b : Begin) → (after_begin s m q b).ring ≡ m.ring
unfolding after_begin
ring-begun s m q (Refused o) = refl
ring-begun s m q (Repeat number) = refl
ring-begun s m q (Search l) = refl
ring-begun s m q (Path l) = refl

newest-begun : (s : Store) (m : Marks) (q : Query) (l : Local)
    → RemembersAs (after_begin s m q (Search l)) (searched_under s m q).identifier (m.count + 1)
unfolding after_begin
newest-begun s m q l = newest m (searched_under s m q).identifier (searched_under s m q).counter

counter-begun : (s : Store) (m : Marks) (q : Query) (l : Local)
    → (after_begin s m q (Search l)).counter ≡ (searched_under s m q).counter
unfolding after_begin
counter-begun s m q l = refl

-- ---- what holds of each

changed-order : (t : PlainTrader) (c : Change) (o : Outcome) → IsLegalView t
    → Legal t.bounds t.opening (after_outcome t c o).history → IsLegalView (after_outcome t c o)
changed-order t c (Done content) k l = record { bounds = k.bounds; marks = k.marks; ring = k.ring; legal = l }
changed-order t c (User e) k l = k
changed-order t c (System kind minor completion) k l = k

pub in-order : {t : PlainTrader} → IsReached t → IsLegalView t
in-order (just_opened name opening bounds b) = record {
  bounds = b;
  marks = none-kept bounds.ring b.remembers b.ring;
  ring = refl;
  legal = legal-empty bounds opening;
}
in-order (by_change t c r) =
    let k = in-order r in changed-order t c (outcome_of t c) k (legal-there t c k.legal)
in-order (by_reserving t r) =
    let k = in-order r in record { bounds = k.bounds; marks = k.marks; ring = k.ring; legal = k.legal }
in-order (by_query t q r) =
    let k = in-order r in
    record {
      bounds = k.bounds;
      marks = kept-begun t.bounds (store_of t) (length t.history) t.marks q k.bounds.begins k.marks;
      ring = ring-begun (store_of t) t.marks q (begin_at t q) ∙ k.ring;
      legal = k.legal;
    }

pub reached-begin : ReachedTradersBegin
reached-begin t q r =
    let k = in-order r in begins t.bounds (store_of t) (length t.history) t.marks q k.bounds.begins k.marks

pub reached-later : ReachedMarksGrowLater
reached-later t q r =
    let k = in-order r in
    later-once t.marks (trader_after t q (begin_at t q)).marks
    (marked-once t.bounds (store_of t) (length t.history) t.marks q k.bounds.begins k.marks)

module _ (t : PlainTrader) (q : Query) (l : Local) (b : AreBounds t.bounds) (m : AreRingMarks t.marks)
    (e : begin_at t q ≡ Search l) where
  is-search : IsSearch t.bounds (store_of t) (length t.history) t.marks q l
  is-search =
      subst (Begins t.bounds (store_of t) (length t.history) t.marks q) e
      (begins t.bounds (store_of t) (length t.history) t.marks q b.begins m)

  search-at : IsSearchAt t q l
  search-at =
      let h = is-search in
      let i = (searched_under (store_of t) t.marks q).identifier in
      let served : IsSearchOfStore (store_of t) (length t.history) (t.marks.count + 1) i q l =
      subst (IsSearchOfStore (store_of t) (length t.history) (t.marks.count + 1) i q) (sym h.served)
      (are_served (store_of t) (length t.history) (t.marks.count + 1) i q) in
      record {
        identifier = i;
        fresh = h.fresh;
        searched = served;
        held =
            subst (RemembersAs (trader_after t q (Search l)).marks i) (sym served.mark_is)
            (newest-begun (store_of t) t.marks q l);
      }

pub reached-search : ReachedTradersSearch
reached-search t q l r e = let k = in-order r in search-at t q l k.bounds k.marks e

-- ---- two searches

same_some : (a b : List ℕ) → ◌≡◌ {A = Option (List ℕ)} (Some a) (Some b) → a ≡ b
same_some a b h = cc

apart-by : (a u : Marks) (i : List ℕ) (n ring : ℕ) → RemembersAs a i n → Later a u → ((k : ℕ) → RemembersAs u i k → ⊥)
    → u.ring ≡ ring → n + ring < u.count + 1
apart-by a u i n ring held later fresh is =
    elim (cases_lt u.count (n + a.ring)) [
      | inl near ↦ absurd (fresh n (later.keeps (entry_of i n) held near))
      | inr most ↦ let same = later.ring in omega arith
    ]

-- no query changes the bounds
bounds-then : (t u : PlainTrader) (p : Query) (k : Local) → AreBounds t.bounds
    → Follows (trader_after t p (Search k)) u → AreBounds u.bounds
bounds-then t u p k b after = subst AreBounds (sym after.bounds) b

pub far-apart : SearchesOfOneIdentifierAreFar
far-apart t u p q k l i bounds kept kept_then e after f named also =
    let a = search-at t p k bounds kept e in
    let b = search-at u q l (bounds-then t u p k bounds after) kept_then f in
    let one : a.identifier ≡ i = same_some a.identifier i (sym a.searched.identified ∙ named) in
    let two : i ≡ b.identifier = same_some i b.identifier (sym also ∙ b.searched.identified) in
    let m : Marks = (trader_after t p (Search k)).marks in
    let ring : u.marks.ring ≡ t.marks.ring = after.marks.ring ∙ ring-begun (store_of t) t.marks p (Search k) in
    subst (λ (n : ℕ). k.mark + t.marks.ring < n) (sym b.searched.mark_is)
    (apart-by m u.marks i k.mark t.marks.ring (subst (λ (j : List ℕ). RemembersAs m j k.mark) one a.held) after.marks
    (λ n h. b.fresh n (subst (λ (j : List ℕ). RemembersAs u.marks j n) two h)) ring)

-- the identifier is made of a value from the counter on, which is one above it afterwards
record IsMadeOf (t : PlainTrader) (q : Query) (l : Local) : Type 0 where
  stem : List ℕ
  value : ℕ
  is : l.identifier ≡ Some (made_identifier stem value)
  from : t.marks.counter ≤ value
  below : value < 256 ^ 8
  counter : (trader_after t q (Search l)).marks.counter ≡ value + 1

made-of : (t : PlainTrader) (q : Query) (l : Local) → AreBounds t.bounds → AreRingMarks t.marks → begin_at t q ≡ Search l
    → (parts_of q).stated.request_id ≡ None → IsMadeOf t q l
made-of t q l b m e none =
    let h = is-search t q l b m e in
    let kept = left-over t.marks m (has-room t.bounds t.marks.count (store_of t) q h.taken b.begins) in
    let stem = (store_of t).attributes.request_id_stem in
    let i = (searched_under (store_of t) t.marks q).identifier in
    let next = is_next t.marks stem kept.orderly kept.left in
    let soon = next.soon in
    let left = kept.left in
    let made : searched_under (store_of t) t.marks q ≡ made_from stem (next_value t.marks stem) =
    ap (query_identifier t.marks stem) none in
    record {
      stem = stem;
      value = next_value t.marks stem;
      is =
          ap (λ (z : Local). z.identifier) h.served
          ∙ ((are_served (store_of t) (length t.history) (t.marks.count + 1) i q).identified
          ∙ ap (λ (z : Made). Some z.identifier) made);
      from = next.from;
      below = omega (arith, soon, left);
      counter = counter-begun (store_of t) t.marks q l ∙ ap (λ (z : Made). z.counter) made;
    }

pub made-apart : SearchesAreMadeApart
made-apart t u p q k l bounds kept kept_then e after f none nil same =
    let a = made-of t p k bounds kept e none in
    let b = made-of u q l (bounds-then t u p k bounds after) kept_then f nil in
    let alike : made_identifier a.stem a.value ≡ made_identifier b.stem b.value =
    same_some (made_identifier a.stem a.value) (made_identifier b.stem b.value) (sym a.is ∙ (same ∙ b.is)) in
    let one = made_apart a.stem b.stem a.value b.value a.below b.below alike in
    let up = after.marks.counter in
    let risen = a.counter in
    let from = b.from in
    omega (arith, one, up, risen, from)
