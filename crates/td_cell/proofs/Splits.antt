-- Splitting a pass off keeps the rule.
use Rattle.std.proofs.Common.{◌≡◌, ◌≢◌, ℕ, zero, suc, ◌+◌, ◌-◌, ◌<◌, ◌≤◌, ◌⊎◌, inl, inr, List, [], ◌∷◌, ◌++◌, length}
use Rattle.std.proofs.Common.{false, cond, eqb, eq-eqb, ne_eqb, refl, sym, ◌∙◌, ap, subst, arith, slice_set, slice_get}
use Rattle.std.proofs.Common.{slice_index, Some, length-append, le_refl}
use Rattle.std.proofs.lemmas.List.{length-set}
use mathlib.Core.Option.{some, some-injective, some-ne-none}
use lib.ListN.{get_elem?}
use Rattle.atomic_table.specs.Table.{State, Splits, opening}
use Rattle.atomic_table.proofs.Lists.{at_set, set_else, at_longer}
use Rattle.td_cdr.specs.Marks.{In, Marks}
use Rattle.td_cell.specs.declared.pass.View.{View}
use Rattle.td_cell.specs.Lists.{Rises, itself}
use Rattle.td_cell.specs.declared.pass.Mark.{Mark}
use Rattle.td_cell.specs.OwnMarks.{number_of}
use Rattle.td_cell.specs.Rules.{KeepsRule, HoldsBook, NumbersDiffer, KnowsMet, Sees, BothBefore, first_view, opener}
use Rattle.td_cell.specs.Rules.{split_off}
use Rattle.td_cell.specs.Rules.{places_of, marks_of, Holds}
use Rattle.td_cell.proofs.Owns.{set_at, at_snoc2, owned_split, split_back}
use Rattle.td_cell.proofs.Marking.{marking_of}
use Rattle.td_cell.proofs.Chains.{just, chain_of, known_split, placed_split}
use Rattle.td_cell.proofs.Counts.{count-more, meetings_of}

get-more : {A : Type 0} (xs ys : List A) (p : ℕ) (x : A) → slice_get xs p ≡ Some x → slice_get (xs ++ ys) p ≡ Some x
get-more [] ys p x h = absurd (cc)
get-more (y ∷ xs) ys zero x h = h
get-more (y ∷ xs) ys (suc p) x h = get-more xs ys p x h

get-end : {A : Type 0} (xs : List A) (x : A) → slice_get (xs ++ x ∷ []) (length xs) ≡ Some x
get-end [] x = refl
get-end (y ∷ xs) x = get-end xs x

-- one that stands in the list after a split: the opening pass, an old one, or the new one
module _ {B : Type 0} (views : List (View B)) (id : ℕ) (v : View B) where
  abbrev after : List (View B)
  after = slice_set views id (opener v) ++ split_off v ∷ []

  which : (j : ℕ) (u : View B) → get_elem? after j ≡ some u
      → (((j ≡ id) × (opener v ≡ u)) ⊎ ((j ≢ id) × (get_elem? views j ≡ some u)))
      ⊎ ((j ≡ length views) × (split_off v ≡ u))
  which j u got =
      elim (at_snoc2 (slice_set views id (opener v)) (split_off v) u j
      got) as (λ _. (((j ≡ id) × (opener v ≡ u)) ⊎ ((j ≢ id) × (get_elem? views j ≡ some u)))
      ⊎ ((j ≡ length views) × (split_off v ≡ u))) [
        | inl p ↦ inl (at_set views id j (opener v) u p)
        | inr p ↦ inr (p.0 ∙ length-set views id (opener v), p.1)
      ]

  numbered_split : get_elem? views id ≡ some v → v.number ≡ 0 → v.spent ≡ false → v.holds ≡ false → NumbersDiffer views
      → NumbersDiffer after
  numbered_split here first live rests n = record {
    seats = seats;
    chief = opener v;
    here =
        subst (λ k. get_elem? after k ≡ some (opener v)) (mine ∙ sym (old_seat 0 (omega arith)))
        (at_longer (slice_set views id (opener v)) (split_off v ∷ []) id (opener v)
        (set_at views id (opener v) v here));
    first = first;
    live = live;
    meetings = meetings_of views id v here first live n ∙ sym (count-more v.met);
    each =
        λ i u got unspent. elim (which i u
        got) as (λ _. (i ≡ seats u.number) × (u.number ≤ length (v.met ++ false ∷ []))
        × (0 < u.number → slice_get (v.met ++ false ∷ []) (u.number - 1) ≡ Some false)) [
          | inl (inl p) ↦ let zero_is : u.number ≡ 0 = ap (λ (x : View B). x.number) (sym p.1) ∙ first in
              rw zero_is (p.0 ∙ (mine ∙ sym (old_seat 0 (omega arith))), omega arith, λ pos. absurd (omega arith))
          | inl (inr p) ↦
              let o = n.each i u p.1 unspent in
              let within : u.number ≤ length v.met = rw (ap (λ (x : View B). x.met) same) o.1 in
              let there : 0 < u.number → slice_get v.met (u.number - 1) ≡ Some false =
              rw (ap (λ (x : View B). x.met) same) o.2 in (
                o.0 ∙ sym (old_seat u.number within),
                rw length-append (omega arith),
                λ pos. get-more v.met (false ∷ []) (u.number - 1) false (there pos),
              )
          | inr p ↦
              let number : u.number ≡ length v.met + 1 = ap (λ (x : View B). x.number) (sym p.1) in
              let back : (length v.met + 1) - 1 ≡ length v.met = omega arith in
              rw number (p.0 ∙ sym new_seat, rw length-append (omega arith), λ pos. rw back (get-end v.met false))
        ];
    idle = λ i u got spent. elim (which i u got) as (λ _. u.holds ≡ false) [
      | inl (inl p) ↦ ap (λ (x : View B). x.holds) (sym p.1) ∙ rests
      | inl (inr p) ↦ n.idle i u p.1 spent
      | inr p ↦ ap (λ (x : View B). x.holds) (sym p.1)
    ];
  }
    where
      mine : id ≡ n.seats 0
      mine = rw first at (n.each id v here live).0

      same : v ≡ n.chief
      same = some-injective v n.chief (sym here ∙ (ap (get_elem? views) mine ∙ n.here))

      seats : ℕ → ℕ
      seats k = cond (eqb k (length v.met + 1)) (length views) (n.seats k)

      old_seat : (k : ℕ) → k ≤ length v.met → seats k ≡ n.seats k
      old_seat k h = ap (λ b. cond b (length views) (n.seats k)) (ne_eqb k (length v.met + 1) (λ e. omega arith))

      new_seat : seats (length v.met + 1) ≡ length views
      new_seat =
          ap (λ b. cond b (length views) (n.seats (length v.met + 1)))
          (eq-eqb (length v.met + 1) (length v.met + 1) refl)

  module _ (later : B → B → Type 0) where
    before_split : (P : B → Type 0) (b : B) → ((j : ℕ) (u : View B) → get_elem? views j ≡ some u → BothBefore later u b)
        → get_elem? views id ≡ some v → (j : ℕ) (u : View B) → get_elem? after j ≡ some u → BothBefore later u b
    before_split P b all here j u got = elim (which j u got) as (λ _. BothBefore later u b) [
      | inl (inl p) ↦ subst (λ (x : View B). BothBefore later x b) p.1 (all id v here)
      | inl (inr p) ↦ all j u p.1
      | inr p ↦ subst (λ (x : View B). BothBefore later x b) p.1 ((all id v here).0, tt)
    ]

-- the same of the views but one
module _ {B : Type 0} (later : B → B → Type 0) (size : B → ℕ) (kept : B → Marks) (s : State B (View B)) (id : ℕ)
    (v : View B) (live : v.spent ≡ false) (rests : v.holds ≡ false) (here : get_elem? s.views id ≡ some v) where
  stands_split : (b : B) → HoldsBook later size kept s b
      → HoldsBook later size kept (record
      { words = s.words; homes = s.homes; views = slice_set s.views id (opener v) ++ split_off v ∷ [] })
      b
  stands_split b (inl f) = inl (record {
    word = f.word;
    home = f.home;
    views = λ j u got. (
      elim (which s.views id v j u got) as (λ _. u.holds ≡ false) [
        | inl (inl p) ↦ ap (λ (x : View B). x.holds) (sym p.1) ∙ rests
        | inl (inr p) ↦ (f.views j u p.1).0
        | inr p ↦ ap (λ (x : View B). x.holds) (sym p.1)
      ],
      before_split s.views id v later (λ _. Unit {0}) b (λ i w g. (f.views i w g).1) here j u got,
    );
  })
  stands_split b (inr (i, h, t)) =
      let apart : i ≢ id =
      λ e. let same : h ≡ v = some-injective h v (sym t.seat ∙ (ap (get_elem? s.views) e ∙ here)) in
      let no : h.holds ≡ false = ap (λ (x : View B). x.holds) same ∙ rests in
      let yes = t.holds in
      absurd (cc) in
      inr (
        i,
        h,
        record {
          word = t.word;
          home = t.home;
          seat =
              at_longer (slice_set s.views id (opener v)) (split_off v ∷ []) i h
              (set_else s.views id i (opener v) apart ∙ t.seat);
          holds = t.holds;
          took = t.took;
          views = λ j u got. (
            elim (which s.views id v j u got) as (λ _. (j ≡ i) ⊎ (u.holds ≡ false)) [
              | inl (inl p) ↦ inr (ap (λ (x : View B). x.holds) (sym p.1) ∙ rests)
              | inl (inr p) ↦ (t.views j u p.1).0
              | inr p ↦ inr (ap (λ (x : View B). x.holds) (sym p.1))
            ],
            before_split s.views id v later (λ _. Unit {0}) b (λ k w g. (t.views k w g).1) here j u got,
          );
        },
      )

pub split_allowed : {B : Type 0} (later : B → B → Type 0) (size : B → ℕ) (kept : B → Marks) (opened : B) (id : ℕ)
    (v : View B)
    → v.number ≡ 0 → v.spent ≡ false → v.holds ≡ false
    → Splits (KeepsRule later size kept opened) id v (opener v) (split_off v)
split_allowed {B} later size kept opened id v first live rests s k here = record {
  book = k.book;
  since = k.since;
  stands = stands_split later size kept s id v live rests here k.book k.stands;
  numbers = numbered_split s.views id v here first live rests k.numbers;
  chain =
      chain_of s.views later _ (known_split s.views later id v (opener v) (split_off v) here (λ a q. q) seen) k.chain;
  places = owned_split places_of s.views id v (opener v) here live live (split_off v) refl refl itself k.places;
  placed =
      placed_split s.views id v (opener v) here live live (size opened) (slice_index s.words 1) k.placed (split_off v)
      refl refl;
  marks = owned_split marks_of s.views id v (opener v) here live live (split_off v) refl refl number_of k.marks;
  marking =
      marking_of s.views _ (kept k.book)
      (λ i a h. (i, split_back marks_of s.views id v (opener v) here live live (split_off v) refl refl i a h))
      k.marking;
}
  where
    seen : (a : B) → Sees (split_off v) a → Sees v a
    seen a (inl e) = inl e
    seen a (inr e) = absurd (cc)

-- the table begins with the rule
pub begins : {B : Type 0} (later : B → B → Type 0) (size : B → ℕ) (kept : B → Marks) → ((b : B) → later b b) → (b : B)
    → KeepsRule later size kept b (opening (0 ∷ size b ∷ (kept b).count ∷ []) (b ∷ [])
    (first_view b (size b) (kept b).count))
begins {B} later size kept alone b = record {
  book = b;
  since = alone b;
  stands =
      inl (record {
        word = refl;
        home = refl;
        views =
            λ i v got. subst (λ (x : View B). (x.holds ≡ false) × BothBefore later x b) (only i v got).1
            (refl, (alone b, tt));
      });
  numbers = record {
    seats = λ _. 0;
    chief = one;
    here = refl;
    first = refl;
    live = refl;
    meetings = refl;
    each =
        λ i v got unspent. let o = only i v got in
        subst (λ (x : View B). (i ≡ 0) × (x.number ≤ 0) × (0 < x.number → slice_get [] (x.number - 1) ≡ Some false))
        o.1 (o.0, omega arith, λ pos. absurd (omega arith));
    idle = λ i v got spent. ap (λ (x : View B). x.holds) (sym (only i v got).1);
  };
  chain = λ x y p q. inl (subst (λ z. later x z) (is x p ∙ sym (is y q)) (alone x));
  places = record {
    owner = λ k. 0;
    each = λ i a h. (only i h.view h.at).0;
    rises = λ i v got live. subst (λ (x : View B). Rises itself x.own) (only i v got).1 tt;
  };
  placed = record {
    reaches = le_refl (size b);
    within = λ i k h. absurd (subst (λ (x : View B). In k x.own) (sym (only i h.view h.at).1) h.has);
    held = λ k p q. absurd (omega arith);
  };
  marks = record {
    owner = λ k. 0;
    each = λ i a h. (only i h.view h.at).0;
    rises = λ i v got live. subst (λ (x : View B). Rises number_of x.own_marks) (only i v got).1 tt;
  };
  marking = record {
    within = λ i a h. absurd (none_own i a h);
    kept = λ i a h n. absurd (none_own i a h);
    below = λ i a h k e. absurd (none_own i a h);
    made = λ i a h k e. absurd (none_own i a h);
    apart = λ i j a d h g less. absurd (none_own i a h);
  };
}
  where
    one : View B
    one = first_view b (size b) (kept b).count

    only : (i : ℕ) (v : View B) → get_elem? (first_view b (size b) (kept b).count ∷ []) i ≡ some v
        → (i ≡ 0) × (first_view b (size b) (kept b).count ≡ v)
    only zero v got = (refl, some-injective (first_view b (size b) (kept b).count) v got)
    only (suc i) v got = absurd (some-ne-none v (sym got))

    none_own : (i : ℕ) (a : Mark) → Holds marks_of (first_view b (size b) (kept b).count ∷ []) i a → ⊥
    none_own i a h = subst (λ (x : View B). In a x.own_marks) (sym (only i h.view h.at).1) h.has

    sees : (x : B) → Sees (first_view b (size b) (kept b).count) x → x ≡ b
    sees x (inl e) = sym (just b x e)
    sees x (inr e) = absurd (cc)

    is : (x : B) → KnowsMet (first_view b (size b) (kept b).count ∷ []) x → x ≡ b
    is x p = sees x (subst (λ (y : View B). Sees y x) (sym (only p.seat p.view p.at).1) p.sees)
