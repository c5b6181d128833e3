-- Each step under the turn keeps the rule of a cell's table.
use Rattle.std.proofs.Common.{◌≡◌, ◌≢◌, ◌==◌, ℕ, ◌+◌, ◌-◌, ◌<◌, ◌≤◌, ◌⊎◌, inl, inr, List, [], ◌∷◌, ◌++◌, length, Bool}
use Rattle.std.proofs.Common.{true, false, cond, nat_lt, ltb-true, ltb-false, refl, sym, ◌∙◌, ap, subst, arith}
use Rattle.std.proofs.Common.{slice_set, slice_index, slice_get, Some, None}
use Rattle.std.specs.Prelude.{Option as Maybe}
use mathlib.Core.Option.{none, some, some-injective}
use mathlib.Core.Logic.{dite}
use native.Mathlib.Decide.{ℕ_discrete}
use lib.ListN.{get_elem?}
use prog.Atomic.{either}
use Rattle.atomic_table.specs.Table.{State, Me, Step, step, Act, keeps, takes, gives, Allows, stepped, homes_after}
use Rattle.atomic_table.proofs.Lists.{at_set, set_again, set_else}
use Rattle.td_cdr.specs.Marks.{Later, Marks}
use Rattle.td_cell.specs.declared.pass.View.{View}
use Rattle.td_cell.specs.Lists.{itself}
use Rattle.td_cell.specs.OwnMarks.{AddsMark, marks_between, number_of}
use Rattle.td_cell.specs.Rules.{KeepsRule, HoldsBook, Free, HoldsTurn, NumbersDiffer, OwnPlacesDiffer, OwnPlacesCover}
use Rattle.td_cell.specs.Rules.{Before, BothBefore, TakesTurn, CountsChanges}
use Rattle.td_cell.specs.Rules.{Marks_counted, LearnsMet, GivesView, with_turn, with_changes, with_marks, without_turn}
use Rattle.td_cell.specs.Rules.{learnt, places_of}
use Rattle.td_cell.specs.Rules.{marks_of, Marking_kept, count_met}
use Rattle.td_cell.proofs.Owns.{set_at, owned_same, owned_more}
use Rattle.td_cell.proofs.Marking.{marking_same, marks_step, spaced_of}
use Rattle.td_cell.proofs.Chains.{just, word_else, word_else2, placed_same, placed_more, known_before, chain_set}

module _ {B : Type 0} where
  -- a pass that does a turn keeps its number and its list
  pub numbered_set : (views : List (View B)) (id : ℕ) (v w : View B) → get_elem? views id ≡ some v → v.spent ≡ false
      → w.spent ≡ false → w.number ≡ v.number → w.met ≡ v.met → w.meetings ≡ v.meetings → NumbersDiffer views
      → NumbersDiffer (slice_set views id w)
  numbered_set views id v w here live live2 number met meetings n = record {
    seats = n.seats;
    chief = found.0;
    here = found.1;
    first = found.2;
    live = found.3;
    meetings = found.5 ∙ (n.meetings ∙ sym (ap count_met found.4));
    each =
        λ i u got unspent. elim (at_set views id i w u
        got) as (λ _. (i ≡ n.seats u.number) × (u.number ≤ length found.0.met)
        × (0 < u.number → slice_get found.0.met (u.number - 1) ≡ Some false)) [
          | inl p ↦
              let old = n.each id v here live in
              let same : u.number ≡ v.number = ap (λ (x : View B). x.number) (sym p.1) ∙ number in
              rw (same, found.4) (p.0 ∙ old.0, old.1, old.2)
          | inr p ↦ rw found.4 (n.each i u p.1 unspent)
        ];
    idle = λ i u got spent. elim (at_set views id i w u got) as (λ _. u.holds ≡ false) [
      | inl p ↦ absurd (let a : u.spent ≡ false = ap (λ (x : View B). x.spent) (sym p.1) ∙ live2 in cc)
      | inr p ↦ n.idle i u p.1 spent
    ];
  }
    where
      found : (x : View B) × (get_elem? (slice_set views id w) (n.seats 0) ≡ some x) × (x.number ≡ 0)
          × (x.spent ≡ false) × (x.met ≡ n.chief.met) × (x.meetings ≡ n.chief.meetings)
      found = dite (ℕ_discrete (n.seats 0) id)
          (λ e.
          let same : v ≡ n.chief = some-injective v n.chief (sym here ∙ (ap (get_elem? views) (sym e) ∙ n.here)) in (
            w,
            ap (get_elem? (slice_set views id w)) e ∙ set_at views id w v here,
            number ∙ (ap (λ (x : View B). x.number) same ∙ n.first),
            live2,
            met ∙ ap (λ (x : View B). x.met) same,
            meetings ∙ ap (λ (x : View B). x.meetings) same,
          ))
          (λ ne. (n.chief, set_else views id (n.seats 0) w ne ∙ n.here, n.first, n.live, refl, refl))

  module _ (later : B → B → Type 0) (size : B → ℕ) (kept : B → Marks) (alone : (b : B) → later b b)
      (on : (b c d : B) → later b c → later c d → later b d) (opened : B) where
    abbrev Rule : State B (View B) → Type 0
    Rule = KeepsRule later size kept opened

    before_on : (o : Maybe B) (b c : B) → Before later o b → later b c → Before later o c
    before_on None b c p q = tt
    before_on (Some a) b c p q = on a b c p q

    take_free : (n : ℕ) (v : View B) (id : ℕ) → v.spent ≡ false → (s : State B (View B)) → (k : Rule s)
        → Free later size kept s k.book → get_elem? s.views id ≡ some v
        → (w : View B) × (a : Act B) × Rattle.atomic_table.specs.Table.Valid s.homes [] a
        × Rule (stepped s 0 (either (slice_index s.words 0 == 0) 1 (slice_index s.words 0)) id [] w a)
        × TakesTurn later size kept (step n 0 0 1 none) (v, []) (slice_index s.words 0)
        (w, Rattle.atomic_table.specs.Table.carried_after [] a)
    take_free n v id live s k f here =
        let b = k.book in
        let w = with_turn v b (size b) (kept b).count in (
          w,
          takes 0 b,
          rw f.home refl,
          record {
            book = b;
            since = k.since;
            stands = inr (
              id,
              w,
              record {
                word = rw f.word refl;
                home = rw f.home refl;
                seat = set_at s.views id w v here;
                holds = refl;
                took = refl;
                views =
                    λ j u got. elim (at_set s.views id j w u
                    got) as (λ _. ((j ≡ id) ⊎ (u.holds ≡ false)) × BothBefore later u b) [
                      | inl p ↦ (
                        inl p.0,
                        subst (λ (x : View B). BothBefore later x b) p.1
                            (alone b, (f.views id v here).1.1),
                      )
                      | inr p ↦ (inr (f.views j u p.1).0, (f.views j u p.1).1)
                    ];
              },
            );
            numbers = numbered_set s.views id v w here live live refl refl refl k.numbers;
            chain =
                chain_set s.views later id v w here b (known_before s.views later b (λ i u g. (f.views i u g).1)) alone
                sees k.chain;
            places = owned_same places_of s.views id v w here live live itself k.places refl;
            placed =
                rw word_else (placed_same s.views id v w here live live (size opened) (slice_index s.words 1) k.placed
                refl);
            marks = owned_same marks_of s.views id v w here live live number_of k.marks refl;
            marking = marking_same s.views id v w here live live (kept b) refl k.marking;
          },
          ((λ z. (b, refl, (f.views id v here).1)), (λ ne. absurd (ne (rw f.word refl)))),
        )
      where
        sees : (a : B) → (Some k.book ≡ Some a) ⊎ (v.content ≡ Some a)
            → ((v.seen ≡ Some a) ⊎ (v.content ≡ Some a)) ⊎ (a ≡ k.book)
        sees a (inl e) = inr (sym (just k.book a e))
        sees a (inr e) = inl (inr e)

    take_held : (n : ℕ) (v : View B) (id : ℕ) (s : State B (View B)) → (k : Rule s) → (i : ℕ) (h : View B)
        → HoldsTurn later size kept s i h k.book → get_elem? s.views id ≡ some v
        → (w : View B) × (a : Act B) × Rattle.atomic_table.specs.Table.Valid s.homes [] a
        × Rule (stepped s 0 (either (slice_index s.words 0 == 0) 1 (slice_index s.words 0)) id [] w a)
        × TakesTurn later size kept (step n 0 0 1 none) (v, []) (slice_index s.words 0)
        (w, Rattle.atomic_table.specs.Table.carried_after [] a)
    take_held n v id s k i h t here = (
      v,
      keeps,
      tt,
      rw (set_again s.views id v here) (record {
        book = k.book;
        since = k.since;
        stands =
            inr (
              i,
              h,
              record {
                word = rw t.word refl;
                home = t.home;
                seat = t.seat;
                holds = t.holds;
                took = t.took;
                views = t.views;
              },
            );
        numbers = k.numbers;
        chain = k.chain;
        places = k.places;
        placed = rw word_else k.placed;
        marks = k.marks;
        marking = k.marking;
      }),
      ((λ z. absurd (let w : ◌≡◌ {A = ℕ} 1 0 = rw t.word at z in omega arith)), (λ ne. refl)),
    )

    pub take_allows : (n : ℕ) (v : View B) (id : ℕ) → v.spent ≡ false
        → Allows Rule n id (v, []) 0 (λ n. either (n == 0) 1 n) (TakesTurn later size kept (step n 0 0 1 none) (v, []))
    take_allows n v id live s k count here fits =
        elim k.stands as (λ _. (w : View B) × (a : Act B) × Rattle.atomic_table.specs.Table.Valid s.homes [] a
        × Rule (stepped s 0 (either (slice_index s.words 0 == 0) 1 (slice_index s.words 0)) id [] w a)
        × TakesTurn later size kept (step n 0 0 1 none) (v, []) (slice_index s.words 0)
        (w, Rattle.atomic_table.specs.Table.carried_after [] a)) [
          | inl f ↦ take_free n v id live s k f here
          | inr (i, h, t) ↦ take_held n v id s k i h t here
        ]

    -- the seat that holds is the one that the rule tells of
    record Mine (s : State B (View B)) (k : Rule s) (id : ℕ) (v : View B) : Type 0 where
      taken : HoldsTurn later size kept s id v k.book
      others : (j : ℕ) (u : View B) → j ≢ id → get_elem? s.views j ≡ some u → u.holds ≡ false

    mine : (s : State B (View B)) (k : Rule s) (id : ℕ) (v : View B) → get_elem? s.views id ≡ some v → v.holds ≡ true
        → Mine s k id v
    mine s k id v here holds = elim k.stands as (λ _. Mine s k id v) [
      | inl f ↦ absurd (let no = (f.views id v here).0 in cc)
      | inr (i, h, t) ↦
          let at : id ≡ i = elim (t.views id v here).0 as (λ _. id ≡ i) [ inl e ↦ e | inr e ↦ absurd (cc) ] in
          let same : h ≡ v = some-injective h v (sym t.seat ∙ (ap (get_elem? s.views) (sym at) ∙ here)) in
          record {
            taken =
                subst (λ j. HoldsTurn later size kept s j v k.book) (sym at)
                (subst (λ (x : View B). HoldsTurn later size kept s i x k.book) same t);
            others =
                λ j u ne got. elim (t.views j u got).0 as (λ _. u.holds ≡ false)
                [ inl e ↦ absurd (ne (e ∙ sym at)) | inr e ↦ e ];
          }
    ]

    pub count_allows : (n : ℕ) (v : View B) (id m : ℕ) (c : B) → v.spent ≡ false → v.holds ≡ true → v.changes ≤ m
        → m ≤ v.changes + 1
        → Allows Rule n id (v, (0, c) ∷ []) 1 (λ _. m) (λ _. CountsChanges (step n 1 m 0 none) (v, (0, c) ∷ []) m)
    count_allows n v id m c live holds up once s k count here fits =
        let my = mine s k id v here holds in
        let t = my.taken in
        let w = with_changes v m in
        let word : slice_index s.words 1 ≡ v.changes = rw t.word refl in
        let own = owns (nat_lt v.changes m) refl word in (
          w,
          keeps,
          tt,
          record {
            book = k.book;
            since = k.since;
            stands = inr (
              id,
              w,
              record {
                word = rw t.word refl;
                home = t.home;
                seat = set_at s.views id w v here;
                holds = holds;
                took = t.took;
                views =
                    λ j u got. elim (at_set s.views id j w u
                    got) as (λ _. ((j ≡ id) ⊎ (u.holds ≡ false)) × BothBefore later u k.book) [
                      | inl p ↦ (inl p.0, subst (λ (x : View B). BothBefore later x k.book) p.1 (t.views id v here).1)
                      | inr p ↦ t.views j u p.1
                    ];
              },
            );
            numbers = numbered_set s.views id v w here live live refl refl refl k.numbers;
            chain =
                chain_set s.views later id v w here k.book
                (known_before s.views later k.book (λ i u g. (t.views i u g).1)) alone (λ a q. inl q) k.chain;
            places = own.0;
            placed = rw t.word own.1;
            marks = owned_same marks_of s.views id v w here live live number_of k.marks refl;
            marking = marking_same s.views id v w here live live (kept k.book) refl k.marking;
          },
          refl,
        )
      where
        owns : (b : Bool) → nat_lt v.changes m ≡ b → slice_index s.words 1 ≡ v.changes
            → OwnPlacesDiffer places_of itself (slice_set s.views id
            (record v { changes = m; own = cond b (v.own ++ v.changes ∷ []) v.own }))
            × OwnPlacesCover (size opened) m (slice_set s.views id
            (record v { changes = m; own = cond b (v.own ++ v.changes ∷ []) v.own }))
        owns true e word =
            let less : v.changes < m = ltb-true v.changes m e in
            let p : OwnPlacesCover (size opened) v.changes s.views =
            subst (λ x. OwnPlacesCover (size opened) x s.views) word k.placed in
            let w = record v { changes = m; own = v.own ++ v.changes ∷ [] } in
            let is : m ≡ v.changes + 1 = omega arith in (
              owned_more places_of s.views id v w here live live itself k.places v.changes refl
                  (λ i a h. (p.within i a h).1),
              subst (λ x. OwnPlacesCover (size opened) x (slice_set s.views id w)) (sym is)
                  (placed_more s.views id v w here live live (size opened) v.changes p refl),
            )
        owns false e word =
            let most : m ≤ v.changes = ltb-false v.changes m e in
            let p : OwnPlacesCover (size opened) v.changes s.views =
            subst (λ x. OwnPlacesCover (size opened) x s.views) word k.placed in
            let w = record v { changes = m } in
            let is : m ≡ v.changes = omega arith in (
              owned_same places_of s.views id v w here live live itself k.places refl,
              subst (λ x. OwnPlacesCover (size opened) x (slice_set s.views id w)) (sym is)
                  (placed_same s.views id v w here live live (size opened) v.changes p refl),
            )

    pub marks_allows : (n : ℕ) (v : View B) (id m : ℕ) (b c : B) → v.spent ≡ false → v.holds ≡ true → v.seen ≡ Some b
        → later b c → Later (kept b) (kept c) → AddsMark (kept b) (kept c)
        → Allows Rule n id (v, (0, c) ∷ []) 2 (λ _. m) (λ _. Marks_counted kept (step n 2 m 0 none) (v, (0, c) ∷ []) m)
    marks_allows n v id m b c live holds seen grew late law s k count here fits =
        let my = mine s k id v here holds in
        let t = my.taken in
        let found : b ≡ k.book = just b k.book (sym seen ∙ t.took) in
        let up : later k.book c = subst (λ y. later y c) found grew in
        let w = with_marks v c (marks_between (kept b) (kept c)) m in
        let both =
        marks_step s.views id v w here live live (kept b) (kept c) late
        (subst (λ x. Marking_kept (kept x) s.views) (sym found) k.marking) k.marks law
        (nat_lt (kept b).count (kept c).count) refl refl in (
          w,
          keeps,
          tt,
          record {
            book = c;
            since = on opened k.book c k.since up;
            stands = inr (
              id,
              w,
              record {
                word = rw t.word refl;
                home = t.home;
                seat = set_at s.views id w v here;
                holds = holds;
                took = refl;
                views =
                    λ j u got. elim (at_set s.views id j w u
                    got) as (λ _. ((j ≡ id) ⊎ (u.holds ≡ false)) × BothBefore later u c) [
                      | inl p ↦ (
                        inl p.0,
                        subst (λ (x : View B). BothBefore later x c) p.1
                            (alone c, before_on v.content k.book c (t.views id v here).1.1 up),
                      )
                      | inr p ↦ (
                        (t.views j u p.1).0,
                        (
                          before_on u.seen k.book c (t.views j u p.1).1.0 up,
                          before_on u.content k.book c (t.views j u p.1).1.1 up,
                        ),
                      )
                    ];
              },
            );
            numbers = numbered_set s.views id v w here live live refl refl refl k.numbers;
            chain =
                chain_set s.views later id v w here c
                (λ a q. on a k.book c (known_before s.views later k.book (λ i u g. (t.views i u g).1) a q) up) alone
                sees k.chain;
            places = owned_same places_of s.views id v w here live live itself k.places refl;
            placed =
                rw word_else2 (placed_same s.views id v w here live live (size opened) (slice_index s.words 1) k.placed
                refl);
            marks = both.0;
            marking = both.1;
          },
          subst (λ o. Rattle.td_cell.specs.Rules.MarksBook kept o v ((0, c) ∷ []) m (w, (0, c) ∷ [])) (sym seen) refl,
        )
      where
        sees : (a : B) → (Some c ≡ Some a) ⊎ (v.content ≡ Some a) → ((v.seen ≡ Some a) ⊎ (v.content ≡ Some a)) ⊎ (a ≡ c)
        sees a (inl e) = inr (sym (just c a e))
        sees a (inr e) = inl (inr e)

    pub give_allows : (n : ℕ) (v : View B) (id : ℕ) (c : B) → v.spent ≡ false → v.holds ≡ true → v.seen ≡ Some c
        → v.changes ≡ size c → v.marks ≡ (kept c).count
        → Allows Rule n id (v, (0, c) ∷ []) 0 (λ _. 0) (λ _. GivesView kept (step n 0 0 0 none) (v, (0, c) ∷ []) 0)
    give_allows n v id c live holds seen sized counts s k count here fits =
        let my = mine s k id v here holds in
        let t = my.taken in
        let found : c ≡ k.book = just c k.book (sym seen ∙ t.took) in (
          without_turn v,
          gives,
          tt,
          record {
            book = c;
            since = subst (λ x. later opened x) (sym found) k.since;
            stands = inl (record {
              word = rw (t.word, sized, counts) refl;
              home = rw t.home refl;
              views =
                  λ j u got. elim (at_set s.views id j (without_turn v) u
                  got) as (λ _. (u.holds ≡ false) × BothBefore later u c) [
                    | inl p ↦ (
                      sym (ap (λ (y : View B). y.holds) p.1),
                      subst (λ (y : View B). BothBefore later y c) p.1
                          (subst (λ x. BothBefore later v x) (sym found) (t.views id v here).1),
                    )
                    | inr p ↦ (my.others j u p.0 p.1, subst (λ x. BothBefore later u x) (sym found) (t.views j u p.1).1)
                  ];
            });
            numbers = numbered_set s.views id v (without_turn v) here live live refl refl refl k.numbers;
            chain =
                chain_set s.views later id v (without_turn v) here k.book
                (known_before s.views later k.book (λ i u g. (t.views i u g).1)) alone (λ a q. inl q) k.chain;
            places = owned_same places_of s.views id v (without_turn v) here live live itself k.places refl;
            placed =
                rw word_else (placed_same s.views id v (without_turn v) here live live (size opened) (slice_index s.words 1)
                k.placed refl);
            marks = owned_same marks_of s.views id v (without_turn v) here live live number_of k.marks refl;
            marking =
                marking_same s.views id v (without_turn v) here live live (kept c) refl
                (subst (λ x. Marking_kept (kept x) s.views) (sym found) k.marking);
          },
          (
            refl,
            k.marks.rises id v here live,
            spaced_of s.views id v v here live live (kept c)
                (subst (λ x. Marking_kept (kept x) s.views) (sym found) k.marking),
          ),
        )

pub first_same : {B : Type 0} (x y : B) (xs ys zs : List (ℕ × B)) → zs ≡ (0, x) ∷ xs → zs ≡ (0, y) ∷ ys → x ≡ y
first_same {B} x y xs ys zs p q = let e : ◌≡◌ {A = ℕ × B} (0, x) (0, y) = cc in ap (λ (z : ℕ × B). z.1) e
