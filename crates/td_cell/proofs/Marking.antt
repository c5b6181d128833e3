-- Own marks, over the steps.
use Rattle.std.proofs.Common.{◌≡◌, ℕ, ◌+◌, ◌-◌, ◌<◌, ◌≤◌, ◌⊎◌, inl, inr, List, [], ◌∷◌, ◌++◌, append-nil, Bool, true}
use Rattle.std.proofs.Common.{false, cond, nat_lt, ltb-true, ltb-false, refl, sym, ◌∙◌, ap, subst, arith, slice_set}
use Rattle.std.proofs.Common.{Some, None, ◌≢◌}
use mathlib.Core.Option.{some}
use lib.ListN.{get_elem?}
use Rattle.td_cdr.proofs.Marking.{made_apart}
use Rattle.td_cdr.specs.Marks.{In, Later, Marks, NewMark, last_identifier, made_identifier}
use Rattle.td_cell.specs.declared.pass.View.{View}
use Rattle.td_cell.specs.declared.pass.Mark.{Mark}
use Rattle.td_cell.specs.OwnMarks.{AddsMark, Gap, IsMadeOf, LastIsMade, AreSpaced, mark_between, number_of}
use Rattle.td_cell.specs.Rules.{Holds, OwnPlacesDiffer, Marking_kept, marks_of}
use Rattle.td_cell.proofs.Lists.{in-snoc}
use Rattle.td_cell.proofs.Owns.{set_back, owned_same, owned_more}
use Rattle.td_cell.proofs.Chains.{just}

lt_by : (x y : ℕ) (o : Bool) → nat_lt x y ≡ o → (x < y) ⊎ (y ≤ x)
lt_by x y true e = inl (ltb-true x y e)
lt_by x y false e = inr (ltb-false x y e)

lt_or : (x y : ℕ) → (x < y) ⊎ (y ≤ x)
lt_or x y = lt_by x y (nat_lt x y) refl

-- ---- made identifiers

-- of two values two identifiers are made
made_differ : (i j : List ℕ) (k l : ℕ) → IsMadeOf i k → IsMadeOf j l → k < l → i ≢ j
made_differ i j k l a b less same =
    let e : made_identifier a.stem k ≡ made_identifier b.stem l = sym a.is ∙ (same ∙ b.is) in
    let values = made_apart a.stem b.stem k l a.below b.below e in
    absurd (omega (arith, values))

module _ {B : Type 0} where
  -- where nothing is held that was not held, the facts stay
  pub marking_of : (views after : List (View B)) (m : Marks)
      → ((i : ℕ) (a : Mark) → Holds marks_of after i a → (j : ℕ) × Holds marks_of views j a) → Marking_kept m views
      → Marking_kept m after
  marking_of views after m back k = record {
    within = λ i a h. let p = back i a h in k.within p.0 a p.1;
    kept = λ i a h. let p = back i a h in k.kept p.0 a p.1;
    below = λ i a h. let p = back i a h in k.below p.0 a p.1;
    made = λ i a h. let p = back i a h in k.made p.0 a p.1;
    apart = λ i j a b h g. let p = back i a h in let q = back j b g in k.apart p.0 q.0 a b p.1 q.1;
  }

  module _ (views : List (View B)) (id : ℕ) (v w : View B) (here : get_elem? views id ≡ some v) (live : v.spent ≡ false)
      (live2 : w.spent ≡ false) where
    mine : (a : Mark) → In a v.own_marks → Holds marks_of views id a
    mine a has = record { view = v; at = here; live = live; has = has }

    pub marking_same : (m : Marks) → w.own_marks ≡ v.own_marks → Marking_kept m views
        → Marking_kept m (slice_set views id w)
    marking_same m same =
        marking_of views (slice_set views id w) m
        (λ i a h. elim (set_back marks_of views id v w here live live2 i a
        h) as (λ _. (j : ℕ) × Holds marks_of views j a) [
          | inl p ↦ (id, mine a (subst (In a) same p.1))
          | inr p ↦ (i, p.1)
        ])

    module _ (b c : Marks) (late : Later b c) (k : Marking_kept b views) where
      -- one more
      marking_new : (new : NewMark b c) (makes : LastIsMade b c) → b.count < c.count → w.own_marks ≡ v.own_marks ++ mark_between b c ∷ []
          → Marking_kept c (slice_set views id w)
      marking_new new makes less more = record {
        within =
            λ i a h. elim (class i a h) as (λ _. a.number ≤ c.count) [
              | inl p ↦ let z = k.within p.0 a p.1 in omega arith
              | inr e ↦ let z : a.number ≡ c.count = ap number_of e in omega arith
            ];
        kept =
            λ i a h n.
            elim (class i a h) as (λ _. In (record { identifier = a.identifier; number = a.number }) c.kept) [
              | inl p ↦ let r = late.ring in
                  late.keeps (record { identifier = a.identifier; number = a.number }) (k.kept p.0 a p.1 (omega arith))
                  (omega arith)
              | inr e ↦ subst (λ (x : Mark). In (record { identifier = x.identifier; number = x.number }) c.kept)
                  (sym e) new.kept
            ];
        below = λ i a h x made. elim (class i a h) as (λ _. x < c.counter) [
          | inl p ↦ let z = k.below p.0 a p.1 x made in let y = late.counter in omega arith
          | inr e ↦ (value (nat_lt b.counter c.counter) refl x (sym (ap (λ (y : Mark). y.made) e) ∙ made)).1
        ];
        made = λ i a h x made. elim (class i a h) as (λ _. IsMadeOf a.identifier x) [
          | inl p ↦ k.made p.0 a p.1 x made
          | inr e ↦ subst (λ (y : Mark). IsMadeOf y.identifier x) (sym e)
              (made_now (nat_lt b.counter c.counter) refl x (sym (ap (λ (y : Mark). y.made) e) ∙ made))
        ];
        apart = λ i j a d h g less2. elim (class i a h) as (λ _. Gap c.ring a d) [
          | inl p ↦ elim (class j d g) as (λ _. Gap c.ring a d) [
            | inl q ↦ subst (λ r. Gap r a d) (sym late.ring) (k.apart p.0 q.0 a d p.1 q.1 less2)
            | inr e ↦ subst (λ (x : Mark). Gap c.ring a x) (sym e) (record {
              numbers = λ same. dite_gap a p same;
              values =
                  λ x y one two. let z = k.below p.0 a p.1 x one in
                  let o = (value (nat_lt b.counter c.counter) refl y two).0 in
                  omega arith;
              identifiers =
                  λ x y one two. let z = k.below p.0 a p.1 x one in
                  let o = (value (nat_lt b.counter c.counter) refl y two).0 in
                  made_differ a.identifier (last_identifier c.kept) x y (k.made p.0 a p.1 x one)
                  (made_now (nat_lt b.counter c.counter) refl y two) (omega arith);
            })
          ]
          | inr e ↦ elim (class j d g) as (λ _. Gap c.ring a d) [
            | inl q ↦ let z = k.within q.0 d q.1 in let y : a.number ≡ c.count = ap number_of e in absurd (omega arith)
            | inr f ↦ let z : d.number ≡ c.count = ap number_of f in
                let y : a.number ≡ c.count = ap number_of e in
                absurd (omega arith)
          ]
        ];
      }
        where
          class : (i : ℕ) (a : Mark) → Holds marks_of (slice_set views id w) i a
              → ((j : ℕ) × Holds marks_of views j a) ⊎ (a ≡ mark_between b c)
          class i a h =
              elim (set_back marks_of views id v w here live live2 i a
              h) as (λ _. ((j : ℕ) × Holds marks_of views j a) ⊎ (a ≡ mark_between b c)) [
                | inl p ↦ elim (in-snoc a (mark_between b c) v.own_marks
                    (subst (In a) more p.1)) as (λ _. ((j : ℕ) × Holds marks_of views j a) ⊎ (a ≡ mark_between b c)) [
                      | inl q ↦ inl (id, mine a q)
                      | inr e ↦ inr e
                    ]
                | inr p ↦ inl (i, p.1)
              ]

          value : (o : Bool) → nat_lt b.counter c.counter ≡ o → (x : ℕ) → cond o (Some (c.counter - 1)) None ≡ Some x
              → (b.counter ≤ x) × (x < c.counter)
          value true is x e =
              let less = ltb-true b.counter c.counter is in
              let y : c.counter - 1 ≡ x = just (c.counter - 1) x e in
              (omega arith, omega arith)
          value false is x e = absurd (cc)

          made_now : (o : Bool) → nat_lt b.counter c.counter ≡ o → (x : ℕ)
              → cond o (Some (c.counter - 1)) None ≡ Some x → IsMadeOf (last_identifier c.kept) x
          made_now true is x e =
              subst (IsMadeOf (last_identifier c.kept)) (just (c.counter - 1) x e)
              (makes (ltb-true b.counter c.counter is))
          made_now false is x e = absurd (cc)

          dite_gap : (a : Mark) → ((j : ℕ) × Holds marks_of views j a) → a.identifier ≡ last_identifier c.kept
              → a.number + c.ring < c.count
          dite_gap a p same = elim (lt_or b.count (a.number + b.ring)) as (λ _. a.number + c.ring < c.count) [
            | inl h ↦ absurd (new.fresh (record { identifier = a.identifier; number = a.number }) (k.kept p.0 a p.1 h)
                same)
            | inr h ↦ let r = late.ring in omega arith
          ]

      not_new : b.count < c.count → AddsMark b c → NewMark b c × LastIsMade b c
      not_new less (inl e) = let z : c.count ≡ b.count = ap (λ (x : Marks). x.count) e in absurd (omega arith)
      not_new less (inr n) = n

      -- what a turn's marks do
      pub marks_step : (o : OwnPlacesDiffer marks_of number_of views) → AddsMark b c → (t : Bool) → nat_lt b.count c.count ≡ t
          → w.own_marks ≡ v.own_marks ++ cond t (mark_between b c ∷ []) []
          → OwnPlacesDiffer marks_of number_of (slice_set views id w) × Marking_kept c (slice_set views id w)
      marks_step o law true is more =
          let less = ltb-true b.count c.count is in (
            owned_more marks_of views id v w here live live2 number_of o (mark_between b c) more
                (λ i a h. let z = k.within i a h in omega arith),
            marking_new (not_new less law).0 (not_new less law).1 less more,
          )
      marks_step o law false is more =
          let most = ltb-false b.count c.count is in
          let up = late.count in
          let same : w.own_marks ≡ v.own_marks = more ∙ append-nil v.own_marks in (
            owned_same marks_of views id v w here live live2 number_of o same,
            marking_same c same (subst (λ m. Marking_kept m views) (sym (late.same (omega arith))) k),
          )

    -- what is own is spaced
    pub spaced_of : (m : Marks) → Marking_kept m views → AreSpaced m.ring v.own_marks
    spaced_of m k a b p q less = k.apart id id a b (mine a p) (mine b q) less
