-- Taking a pass in keeps the rule.
use Rattle.std.proofs.Common.{◌≡◌, ◌≢◌, ℕ, zero, suc, ◌+◌, ◌-◌, ◌<◌, ◌≤◌, ◌⊎◌, inl, inr, List, [], ◌∷◌, length, true, false}
use Rattle.std.proofs.Common.{refl, sym, ◌∙◌, ap, subst, arith, slice_set, slice_get, slice_index, Some}
use Rattle.std.proofs.lemmas.List.{length-set}
use mathlib.Core.Option.{none, some, some-injective}
use lib.ListN.{get_elem?}
use Rattle.atomic_table.specs.Table.{State, Joins, Allows, Act, Valid, keeps, step, stepped, carried_after}
use Rattle.atomic_table.proofs.Lists.{at_set, set_else}
use Rattle.td_cdr.specs.Marks.{Marks}
use Rattle.td_cell.specs.declared.pass.View.{View}
use Rattle.td_cell.specs.Lists.{itself}
use Rattle.td_cell.specs.OwnMarks.{number_of, AreSpaced}
use Rattle.td_cell.specs.Rules.{KeepsRule, HoldsBook, NumbersDiffer, KnowsMet, Sees, Before, BothBefore, LearnsMet}
use Rattle.td_cell.specs.Rules.{met_view, gone, learnt}
use Rattle.td_cell.specs.Rules.{places_of, marks_of, Holds}
use Rattle.td_cell.proofs.Owns.{set_at, owned_met, owned_same, met_back}
use Rattle.td_cell.proofs.Marking.{marking_of, marking_same, spaced_of}
use Rattle.td_cell.proofs.Counts.{count-set, meetings_of}
use Rattle.td_cell.proofs.Keeps.{numbered_set}
use Rattle.td_cell.proofs.Chains.{just, chain_of, known_met, placed_met, placed_same, word_same, before_sees}

get-set_other : {A : Type 0} (xs : List A) (i j : ℕ) (w : A) → j ≢ i → slice_get (slice_set xs i w) j ≡ slice_get xs j
get-set_other [] i j w h = refl
get-set_other (x ∷ xs) zero zero w h = absurd (h refl)
get-set_other (x ∷ xs) zero (suc j) w h = refl
get-set_other (x ∷ xs) (suc i) zero w h = refl
get-set_other (x ∷ xs) (suc i) (suc j) w h = get-set_other xs i j w (λ e. h (ap suc e))

module _ {B : Type 0} (views : List (View B)) (id other : ℕ) (v w : View B) where
  abbrev after : List (View B)
  after = slice_set (slice_set views id (met_view v w)) other gone

  abbrev Which : ℕ → View B → Type 0
  Which j u =
      ((j ≡ other) × (gone ≡ u))
      ⊎ ((j ≢ other) × (((j ≡ id) × (met_view v w ≡ u)) ⊎ ((j ≢ id) × (get_elem? views j ≡ some u))))

  which : (j : ℕ) (u : View B) → get_elem? after j ≡ some u → Which j u
  which j u got = elim (at_set (slice_set views id (met_view v w)) other j gone u got) as (λ _. Which j u) [
    | inl p ↦ inl p
    | inr p ↦ inr (p.0, at_set views id j (met_view v w) u p.1)
  ]

  numbered_meet : get_elem? views id ≡ some v → get_elem? views other ≡ some w → other ≢ id → v.number ≡ 0
      → v.spent ≡ false → v.holds ≡ false → 0 < w.number → w.spent ≡ false → NumbersDiffer views → NumbersDiffer after
  numbered_meet here there apart first live rests pos live2 n = record {
    seats = n.seats;
    chief = met_view v w;
    here =
        subst (λ k. get_elem? after k ≡ some (met_view v w)) mine
        (set_else (slice_set views id (met_view v w)) other id gone (λ e. apart (sym e))
        ∙ set_at views id (met_view v w) v here);
    first = first;
    live = live;
    meetings =
        let out : slice_get v.met (w.number - 1) ≡ Some false =
        ap (λ (x : View B). slice_get x.met (w.number - 1)) same ∙ (n.each other w there live2).2 pos in
        ap (λ k. k + 1) (meetings_of views id v here first live n) ∙ sym (count-set v.met (w.number - 1) out);
    each =
        λ i u got unspent. elim (which i u
        got) as (λ _. (i ≡ n.seats u.number) × (u.number ≤ length (met_view v w).met)
        × (0 < u.number → slice_get (met_view v w).met (u.number - 1) ≡ Some false)) [
          | inl p ↦ absurd (let a : true ≡ false = ap (λ (x : View B). x.spent) p.1 ∙ unspent in cc)
          | inr (_, inl p) ↦ let zero_is : u.number ≡ 0 = ap (λ (x : View B). x.number) (sym p.1) ∙ first in
              rw zero_is (p.0 ∙ mine, omega arith, λ h. absurd (omega arith))
          | inr (ne, inr p) ↦
              let o = n.each i u p.1 unspent in
              let within : u.number ≤ length v.met = rw (ap (λ (x : View B). x.met) same) o.1 in
              let still : 0 < u.number → slice_get v.met (u.number - 1) ≡ Some false =
              rw (ap (λ (x : View B). x.met) same) o.2 in
              let its = (n.each other w there live2).0 in
              let differs : u.number ≢ w.number = λ e. ne (o.0 ∙ (ap n.seats e ∙ sym its)) in (
                o.0,
                rw length-set within,
                λ h. get-set_other v.met (w.number - 1) (u.number - 1) true (λ e. differs (omega arith)) ∙ still h,
              )
        ];
    idle = λ i u got spent. elim (which i u got) as (λ _. u.holds ≡ false) [
      | inl p ↦ ap (λ (x : View B). x.holds) (sym p.1)
      | inr (_, inl p) ↦ ap (λ (x : View B). x.holds) (sym p.1) ∙ rests
      | inr (_, inr p) ↦ n.idle i u p.1 spent
    ];
  }
    where
      mine : id ≡ n.seats 0
      mine = rw first at (n.each id v here live).0

      same : v ≡ n.chief
      same = some-injective v n.chief (sym here ∙ (ap (get_elem? views) mine ∙ n.here))

  facts_meet : (later : B → B → Type 0) (P : View B → Type 0)
      → ((j : ℕ) (u : View B) → get_elem? views j ≡ some u → P u) → P gone → P (met_view v w) → (j : ℕ) (u : View B)
      → get_elem? after j ≡ some u → P u
  facts_meet later P all a b j u got = elim (which j u got) as (λ _. P u) [
    | inl p ↦ subst P p.1 a
    | inr (_, inl p) ↦ subst P p.1 b
    | inr (_, inr p) ↦ all j u p.1
  ]

module _ {B : Type 0} (later : B → B → Type 0) (size : B → ℕ) (kept : B → Marks) (opened : B) where
  stands_met : (id other : ℕ) (v w : View B) → v.holds ≡ false → w.holds ≡ false → (s : State B (View B))
      → get_elem? s.views id ≡ some v → get_elem? s.views other ≡ some w → (b : B) → HoldsBook later size kept s b
      → HoldsBook later size kept (record
      { words = s.words; homes = s.homes; views = slice_set (slice_set s.views id (met_view v w)) other gone })
      b
  stands_met id other v w rests rests2 s here there b (inl f) = inl (record {
    word = f.word;
    home = f.home;
    views =
        facts_meet s.views id other v w later (λ u. (u.holds ≡ false) × BothBefore later u b) f.views (refl, (tt, tt))
        (rests, ((f.views id v here).1.0, (f.views other w there).1.0));
  })
  stands_met id other v w rests rests2 s here there b (inr (i, h, t)) =
      let not_at : (k : ℕ) (x : View B) → get_elem? s.views k ≡ some x → x.holds ≡ false → i ≢ k =
      λ k x at_k idle e. let same : h ≡ x = some-injective h x (sym t.seat ∙ (ap (get_elem? s.views) e ∙ at_k)) in
      let no : h.holds ≡ false = ap (λ (y : View B). y.holds) same ∙ idle in
      let yes = t.holds in
      absurd (cc) in
      inr (
        i,
        h,
        record {
          word = t.word;
          home = t.home;
          seat =
              set_else (slice_set s.views id (met_view v w)) other i gone (not_at other w there rests2)
              ∙ (set_else s.views id i (met_view v w) (not_at id v here rests) ∙ t.seat);
          holds = t.holds;
          took = t.took;
          views =
              λ j u g. elim (which s.views id other v w j u
              g) as (λ _. ((j ≡ i) ⊎ (u.holds ≡ false)) × BothBefore later u b) [
                | inl p ↦ subst (λ (x : View B). ((j ≡ i) ⊎ (x.holds ≡ false)) × BothBefore later x b) p.1
                    (inr refl, (tt, tt))
                | inr (_, inl p) ↦ subst (λ (x : View B). ((j ≡ i) ⊎ (x.holds ≡ false)) × BothBefore later x b) p.1
                    (inr rests, ((t.views id v here).1.0, (t.views other w there).1.0))
                | inr (_, inr p) ↦ t.views j u p.1
              ];
        },
      )

  pub meet_allowed : (id other : ℕ) (v w : View B) → v.number ≡ 0 → v.spent ≡ false → v.holds ≡ false → 0 < w.number
      → w.spent ≡ false → w.holds ≡ false → Joins (KeepsRule later size kept opened) id v other w (met_view v w) gone
  meet_allowed id other v w first live rests pos live2 rests2 s k here apart got =
      let there = sym (set_else s.views id other (met_view v w) apart) ∙ got in
      record {
        book = k.book;
        since = k.since;
        stands = stands_met id other v w rests rests2 s here there k.book k.stands;
        numbers = numbered_meet s.views id other v w here there apart first live rests pos live2 k.numbers;
        chain = chain_of s.views later _ (known_met s.views later id other v w (met_view v w) here there sees) k.chain;
        places =
            owned_met places_of s.views id other v w (met_view v w) gone here there apart live live2 live refl itself
            refl k.places;
        placed =
            placed_met s.views id other v w here there apart live live2 (size opened) (slice_index s.words 1) k.placed;
        marks =
            owned_met marks_of s.views id other v w (met_view v w) gone here there apart live live2 live refl number_of
            refl k.marks;
        marking =
            marking_of s.views _ (kept k.book)
            (λ i a h. elim (met_back marks_of s.views id other v w (met_view v w) gone here there apart live live2
            live refl number_of refl i a h) as (λ _. (j : ℕ) × Holds marks_of s.views j a)
            [ inl q ↦ (i, q) | inr q ↦ (other, q.1) ])
            k.marking;
      }
    where
      sees : (a : B) → Sees (met_view v w) a → Sees v a ⊎ Sees w a
      sees a (inl e) = inl (inl e)
      sees a (inr e) = inr (inl e)

  -- the later of the two is what is seen
  module _ (alone : (b : B) → later b b) (rings : (b c : B) → later b c → (kept c).ring ≡ (kept b).ring) (n : ℕ)
      (v : View B) (id : ℕ) (first : v.number ≡ 0) (live : v.spent ≡ false) (rests : v.holds ≡ false) where
    abbrev Rule : State B (View B) → Type 0
    Rule = KeepsRule later size kept opened

    abbrev Goes : State B (View B) → Type 0
    Goes s =
        (w : View B) × (a : Act B) × Valid s.homes [] a × Rule (stepped s 1 (slice_index s.words 1) id [] w a)
        × LearnsMet later size kept (step n 1 0 0 none) (v, []) (slice_index s.words 1) (w, carried_after [] a)

    stands_learnt : (s : State B (View B)) → get_elem? s.views id ≡ some v → (x : B) → Sees v x → (b : B)
        → HoldsBook later size kept s b
        → HoldsBook later size kept (stepped s 1 (slice_index s.words 1) id [] (learnt v x (size x) (kept x).count) keeps)
        b
    stands_learnt s here x one b (inl f) = inl (record {
      word = rw f.word refl;
      home = f.home;
      views =
          λ j u got. elim (at_set s.views id j (learnt v x (size x) (kept x).count) u
          got) as (λ _. (u.holds ≡ false) × BothBefore later u b) [
            | inl p ↦ subst (λ (y : View B). (y.holds ≡ false) × BothBefore later y b) p.1
                (rests, (before_sees s.views later v x b (f.views id v here).1 one, tt))
            | inr p ↦ f.views j u p.1
          ];
    })
    stands_learnt s here x one b (inr (i, h, t)) =
        let apart : i ≢ id =
        λ e. let same : h ≡ v = some-injective h v (sym t.seat ∙ (ap (get_elem? s.views) e ∙ here)) in
        let no : h.holds ≡ false = ap (λ (y : View B). y.holds) same ∙ rests in
        let yes = t.holds in
        absurd (cc) in
        inr (
          i,
          h,
          record {
            word = rw t.word refl;
            home = t.home;
            seat = set_else s.views id i (learnt v x (size x) (kept x).count) apart ∙ t.seat;
            holds = t.holds;
            took = t.took;
            views =
                λ j u got. elim (at_set s.views id j (learnt v x (size x) (kept x).count) u
                got) as (λ _. ((j ≡ i) ⊎ (u.holds ≡ false)) × BothBefore later u b) [
                  | inl p ↦ subst (λ (y : View B). ((j ≡ i) ⊎ (y.holds ≡ false)) × BothBefore later y b) p.1
                      (inr rests, (before_sees s.views later v x b (t.views id v here).1 one, tt))
                  | inr p ↦ t.views j u p.1
                ];
          },
        )

    -- the rings of all are of one size
    upto : (s : State B (View B)) (k : Rule s) → get_elem? s.views id ≡ some v → (x : B) → Sees v x → later x k.book
    upto s k here x one = elim k.stands as (λ _. later x k.book) [
      | inl f ↦ before_sees s.views later v x k.book (f.views id v here).1 one
      | inr (i, h, t) ↦ before_sees s.views later v x k.book (t.views id v here).1 one
    ]

    learn_with : (s : State B (View B)) → Rule s → get_elem? s.views id ≡ some v → (x : B) → Sees v x
        → BothBefore later v x → Goes s
    learn_with s k here x one before = (
      learnt v x (size x) (kept x).count,
      keeps,
      tt,
      record {
        book = k.book;
        since = k.since;
        stands = stands_learnt s here x one k.book k.stands;
        numbers = numbered_set s.views id v (learnt v x (size x) (kept x).count) here live live refl refl refl k.numbers;
        chain = chain_of s.views later _ known k.chain;
        places =
            owned_same places_of s.views id v (learnt v x (size x) (kept x).count) here live live itself k.places refl;
        placed =
            rw word_same (placed_same s.views id v (learnt v x (size x) (kept x).count) here live live (size opened)
            (slice_index s.words 1) k.placed refl);
        marks =
            owned_same marks_of s.views id v (learnt v x (size x) (kept x).count) here live live number_of k.marks refl;
        marking =
            marking_same s.views id v (learnt v x (size x) (kept x).count) here live live (kept k.book) refl k.marking;
      },
      (
        record {
          book = x;
          one = one;
          before = before;
          is = refl;
          meetings = meetings_of s.views id v here first live k.numbers;
          places = k.places.rises id v here live;
          marks = k.marks.rises id v here live;
          spaced =
              subst (λ r. AreSpaced r v.own_marks) (rings x k.book (upto s k here x one))
              (spaced_of s.views id v v here live live (kept k.book) k.marking);
        },
        refl,
      ),
    )
      where
        sees : (a : B) → Sees (learnt v x (size x) (kept x).count) a → Sees v a
        sees a (inl e) = subst (λ y. Sees v y) (just x a e) one
        sees a (inr e) = absurd (cc)

        known : (a : B) → KnowsMet (slice_set s.views id (learnt v x (size x) (kept x).count)) a → KnowsMet s.views a
        known a q =
            elim (at_set s.views id q.seat (learnt v x (size x) (kept x).count) q.view q.at) as (λ _. KnowsMet s.views a) [
              | inl p ↦ record {
                seat = id;
                view = v;
                at = here;
                sees = sees a (subst (λ (y : View B). Sees y a) (sym p.1) q.sees);
              }
              | inr p ↦ record { seat = q.seat; view = q.view; at = p.1; sees = q.sees }
            ]

    pub learn_allows : (a b : B) → v.seen ≡ Some a → v.content ≡ Some b
        → Allows Rule n id (v, []) 1 (λ n. n) (LearnsMet later size kept (step n 1 0 0 none) (v, []))
    learn_allows a b seen content s k count here fits =
        elim (k.chain a b (record { seat = id; view = v; at = here; sees = inl seen })
        (record { seat = id; view = v; at = here; sees = inr content })) as (λ _. Goes s) [
          | inl l ↦ learn_with s k here b (inr content)
              (subst (λ o. Before later o b) (sym seen) l, subst (λ o. Before later o b) (sym content) (alone b))
          | inr l ↦ learn_with s k here a (inl seen)
              (subst (λ o. Before later o a) (sym seen) (alone a), subst (λ o. Before later o a) (sym content) l)
        ]
