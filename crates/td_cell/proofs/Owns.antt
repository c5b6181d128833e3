-- What is own, over the steps.
use Rattle.std.proofs.Common.{◌≡◌, ◌≢◌, ℕ, ◌<◌, ◌⊎◌, inl, inr, List, [], ◌∷◌, ◌++◌, length, true, false, cond, eqb}
use Rattle.std.proofs.Common.{eq-eqb, ne_eqb, refl, sym, ◌∙◌, ap, subst, arith, slice_set, zero, suc}
use mathlib.Core.Option.{some, some-injective, some-ne-none}
use mathlib.Core.Logic.{dite}
use native.Mathlib.Decide.{ℕ_discrete}
use lib.ListN.{get_elem?}
use Rattle.atomic_table.proofs.Lists.{at_set, set_else, at_longer}
use Rattle.td_cdr.specs.Marks.{In}
use Rattle.td_cell.specs.declared.pass.View.{View}
use Rattle.td_cell.specs.Lists.{Rises, merge}
use Rattle.td_cell.specs.Rules.{Holds, OwnPlacesDiffer}
use Rattle.td_cell.proofs.Lists.{in-snoc, rises-snoc, in-merge, has-merge, rises-merge}

pub set_at : {A : Type 0} (l : List A) (i : ℕ) (a b : A) → get_elem? l i ≡ some b
    → get_elem? (slice_set l i a) i ≡ some a
set_at [] i a b e = absurd (some-ne-none b (sym e))
set_at (x ∷ xs) zero a b e = refl
set_at (x ∷ xs) (suc i) a b e = set_at xs i a b e

pub at_snoc2 : {A : Type 0} (l : List A) (a b : A) (j : ℕ) → get_elem? (l ++ a ∷ []) j ≡ some b
    → (get_elem? l j ≡ some b) ⊎ ((j ≡ length l) × (a ≡ b))
at_snoc2 [] a b zero e = inr (refl, some-injective a b e)
at_snoc2 [] a b (suc j) e = absurd (some-ne-none b (sym e))
at_snoc2 (x ∷ xs) a b zero e = inl e
at_snoc2 (x ∷ xs) a b (suc j) e =
    elim (at_snoc2 xs a b j e) as (λ _. (get_elem? xs j ≡ some b) ⊎ ((suc j ≡ length (x ∷ xs)) × (a ≡ b)))
    [ inl p ↦ inl p | inr p ↦ inr (ap suc p.0, p.1) ]

module _ {B X : Type 0} (own : View B → List X) (views : List (View B)) where
  -- the view at id is set
  module _ (id : ℕ) (v w : View B) (here : get_elem? views id ≡ some v) (live : v.spent ≡ false)
      (live2 : w.spent ≡ false) where
    pub set_back : (i : ℕ) (a : X) → Holds own (slice_set views id w) i a
        → ((i ≡ id) × In a (own w)) ⊎ ((i ≢ id) × Holds own views i a)
    set_back i a h =
        elim (at_set views id i w h.view h.at) as (λ _. ((i ≡ id) × In a (own w)) ⊎ ((i ≢ id) × Holds own views i a)) [
          | inl p ↦ inl (p.0, subst (λ (x : View B). In a (own x)) (sym p.1) h.has)
          | inr p ↦ inr (p.0, record { view = h.view; at = p.1; live = h.live; has = h.has })
        ]

    pub set_mine : (a : X) → In a (own w) → Holds own (slice_set views id w) id a
    set_mine a has = record { view = w; at = set_at views id w v here; live = live2; has = has }

    pub set_forth : ((a : X) → In a (own v) → In a (own w)) → (i : ℕ) (a : X) → Holds own views i a
        → Holds own (slice_set views id w) i a
    set_forth more i a h = dite (ℕ_discrete i id)
        (λ e.
        let same : v ≡ h.view = some-injective v h.view (sym here ∙ (ap (get_elem? views) (sym e) ∙ h.at)) in
        subst (λ j. Holds own (slice_set views id w) j a) (sym e)
        (set_mine a (more a (subst (λ (x : View B). In a (own x)) (sym same) h.has))))
        (λ ne. record { view = h.view; at = set_else views id i w ne ∙ h.at; live = h.live; has = h.has })

    mine : (a : X) → In a (own v) → Holds own views id a
    mine a has = record { view = v; at = here; live = live; has = has }

    module _ (number : X → ℕ) (o : OwnPlacesDiffer own number views) where
      rises_set : Rises number (own w) → (i : ℕ) (u : View B) → get_elem? (slice_set views id w) i ≡ some u
          → u.spent ≡ false → Rises number (own u)
      rises_set r i u at unspent = elim (at_set views id i w u at) as (λ _. Rises number (own u)) [
        | inl p ↦ subst (λ (x : View B). Rises number (own x)) p.1 r
        | inr p ↦ o.rises i u p.1 unspent
      ]

      pub owned_same : own w ≡ own v → OwnPlacesDiffer own number (slice_set views id w)
      owned_same same = record {
        owner = o.owner;
        each = λ i a h. elim (set_back i a h) as (λ _. i ≡ o.owner (number a)) [
          | inl p ↦ p.0 ∙ o.each id a (mine a (subst (In a) same p.1))
          | inr p ↦ o.each i a p.1
        ];
        rises = rises_set (subst (Rises number) (sym same) (o.rises id v here live));
      }

      -- one more, whose number is above all
      pub owned_more : (x : X) → own w ≡ own v ++ x ∷ [] → ((i : ℕ) (a : X) → Holds own views i a → number a < number x)
          → OwnPlacesDiffer own number (slice_set views id w)
      owned_more x more above = record {
        owner = owner;
        each = λ i a h. elim (set_back i a h) as (λ _. i ≡ owner (number a)) [
          | inl p ↦ elim (in-snoc a x (own v) (subst (In a) more p.1)) as (λ _. i ≡ owner (number a)) [
            | inl q ↦ p.0 ∙ (o.each id a (mine a q) ∙ sym (old a (above id a (mine a q))))
            | inr e ↦ p.0 ∙ sym (new a e)
          ]
          | inr p ↦ o.each i a p.1 ∙ sym (old a (above i a p.1))
        ];
        rises =
            rises_set (subst (Rises number) (sym more)
            (rises-snoc number x (own v) (o.rises id v here live) (λ y q. above id y (mine y q))));
      }
        where
          owner : ℕ → ℕ
          owner k = cond (eqb k (number x)) id (o.owner k)

          old : (a : X) → number a < number x → owner (number a) ≡ o.owner (number a)
          old a h = ap (λ b. cond b id (o.owner (number a))) (ne_eqb (number a) (number x) (λ e. omega arith))

          new : (a : X) → a ≡ x → owner (number a) ≡ id
          new a e = ap (λ b. cond b id (o.owner (number a))) (eq-eqb (number a) (number x) (ap number e))

    -- one more view, which has nothing
    module _ (z : View B) (nothing : own z ≡ []) (same : own w ≡ own v) where
      pub split_back : (i : ℕ) (a : X) → Holds own (slice_set views id w ++ z ∷ []) i a → Holds own views i a
      split_back i a h = elim (at_snoc2 (slice_set views id w) z h.view i h.at) as (λ _. Holds own views i a) [
        | inl p ↦ elim (set_back i a
            (record { view = h.view; at = p; live = h.live; has = h.has })) as (λ _. Holds own views i a) [
              | inl q ↦ subst (λ j. Holds own views j a) (sym q.0) (mine a (subst (In a) same q.1))
              | inr q ↦ q.1
            ]
        | inr p ↦ absurd (subst (In a) nothing (subst (λ (x : View B). In a (own x)) (sym p.1) h.has))
      ]

      pub split_forth : (i : ℕ) (a : X) → Holds own views i a → Holds own (slice_set views id w ++ z ∷ []) i a
      split_forth i a h =
          let m = set_forth (λ b. subst (In b) (sym same)) i a h in
          record {
            view = m.view;
            at = at_longer (slice_set views id w) (z ∷ []) i m.view m.at;
            live = m.live;
            has = m.has;
          }

      pub owned_split : (number : X → ℕ) → OwnPlacesDiffer own number views → OwnPlacesDiffer own number (slice_set views id w ++ z ∷ [])
      owned_split number o = record {
        owner = o.owner;
        each = λ i a h. o.each i a (split_back i a h);
        rises = λ i u at unspent. elim (at_snoc2 (slice_set views id w) z u i at) as (λ _. Rises number (own u)) [
          | inl p ↦ rises_set number o (subst (Rises number) (sym same) (o.rises id v here live)) i u p unspent
          | inr p ↦ subst (λ (x : View B). Rises number (own x)) p.1 (subst (Rises number) (sym nothing) tt)
        ];
      }

  -- the view at id takes in what that at other has
  module _ (id other : ℕ) (v w u gone : View B) (here : get_elem? views id ≡ some v)
      (there : get_elem? views other ≡ some w) (apart : other ≢ id) (live : v.spent ≡ false) (live2 : w.spent ≡ false)
      (live3 : u.spent ≡ false) (dead : gone.spent ≡ true) (number : X → ℕ)
      (both : own u ≡ merge number (own v) (own w)) where
    after : List (View B)
    after = slice_set (slice_set views id u) other gone

    abbrev Was : ℕ → X → Type 0
    Was i a = Holds own views i a ⊎ ((i ≡ id) × Holds own views other a)

    pub met_back : (i : ℕ) (a : X) → Holds own (slice_set (slice_set views id u) other gone) i a → Was i a
    met_back i a h = elim (at_set (slice_set views id u) other i gone h.view h.at) as (λ _. Was i a) [
      | inl p ↦ absurd (let z : true ≡ false = sym dead ∙ (ap (λ (x : View B). x.spent) p.1 ∙ h.live) in cc)
      | inr p ↦ elim (set_back id v u here live live3 i a
          (record { view = h.view; at = p.1; live = h.live; has = h.has })) as (λ _. Was i a) [
            | inl q ↦ elim (in-merge number a (own v) (own w) (subst (In a) both q.1)) as (λ _. Was i a) [
              | inl m ↦ inl (subst (λ j. Holds own views j a) (sym q.0)
                  (record { view = v; at = here; live = live; has = m }))
              | inr m ↦ inr (q.0, record { view = w; at = there; live = live2; has = m })
            ]
            | inr q ↦ inl q.1
          ]
    ]

    pub met_forth : (i : ℕ) (a : X) → Holds own views i a
        → (j : ℕ) × Holds own (slice_set (slice_set views id u) other gone) j a
    met_forth i a h = dite (ℕ_discrete i other)
        (λ e.
        let same : w ≡ h.view = some-injective w h.view (sym there ∙ (ap (get_elem? views) (sym e) ∙ h.at)) in
        (id, mine a (inr (subst (λ (x : View B). In a (own x)) (sym same) h.has))))
        (λ ne.
        let m =
        set_forth id v u here live live3
        (λ b q. subst (In b) (sym both) (has-merge number b (own v) (own w) (inl q))) i a h in (
          i,
          record {
            view = m.view;
            at = set_else (slice_set views id u) other i gone ne ∙ m.at;
            live = m.live;
            has = m.has;
          },
        ))
      where
        mine : (a : X) → In a (own v) ⊎ In a (own w) → Holds own (slice_set (slice_set views id u) other gone) id a
        mine a q = record {
          view = u;
          at = set_else (slice_set views id u) other id gone (λ e. apart (sym e)) ∙ set_at views id u v here;
          live = live3;
          has = subst (In a) (sym both) (has-merge number a (own v) (own w) q);
        }

    pub owned_met : OwnPlacesDiffer own number views → OwnPlacesDiffer own number (slice_set (slice_set views id u) other gone)
    owned_met o = record {
      owner = owner;
      each = λ i a h. elim (met_back i a h) as (λ _. i ≡ owner (number a)) [
        | inl p ↦
            let o_is : i ≡ o.owner (number a) = o.each i a p in
            dite (ℕ_discrete i other)
            (λ e. absurd (gone_has a (subst (λ j. Holds own (slice_set (slice_set views id u) other gone) j a) e h)))
            (λ ne. o_is ∙ sym (else_is a (λ e. ne (o_is ∙ e))))
        | inr p ↦ p.0 ∙ sym (moved a (sym (o.each other a p.1)))
      ];
      rises = λ i x at unspent. elim (at_set (slice_set views id u) other i gone x at) as (λ _. Rises number (own x)) [
        | inl p ↦ absurd (let z : true ≡ false = sym dead ∙ (ap (λ (y : View B). y.spent) p.1 ∙ unspent) in cc)
        | inr p ↦ elim (at_set views id i u x p.1) as (λ _. Rises number (own x)) [
          | inl q ↦ subst (λ (y : View B). Rises number (own y)) q.1
              (subst (Rises number) (sym both)
              (rises-merge number (own v) (own w) (o.rises id v here live) (o.rises other w there live2) no_both))
          | inr q ↦ o.rises i x q.1 unspent
        ]
      ];
    }
      where
        owner : ℕ → ℕ
        owner k = cond (eqb (o.owner k) other) id (o.owner k)

        else_is : (a : X) → o.owner (number a) ≢ other → owner (number a) ≡ o.owner (number a)
        else_is a ne = ap (λ b. cond b id (o.owner (number a))) (ne_eqb (o.owner (number a)) other ne)

        moved : (a : X) → o.owner (number a) ≡ other → owner (number a) ≡ id
        moved a e = ap (λ b. cond b id (o.owner (number a))) (eq-eqb (o.owner (number a)) other e)

        gone_has : (a : X) → Holds own (slice_set (slice_set views id u) other gone) other a → ⊥
        gone_has a h = elim (at_set (slice_set views id u) other other gone h.view h.at) as (λ _. ⊥) [
          | inl p ↦ let z : true ≡ false = sym dead ∙ (ap (λ (x : View B). x.spent) p.1 ∙ h.live) in absurd (cc)
          | inr p ↦ absurd (p.0 refl)
        ]

        no_both : (x y : X) → In x (own v) → In y (own w) → number x ≢ number y
        no_both x y p q e =
            apart (o.each other y (record { view = w; at = there; live = live2; has = q })
            ∙ (ap o.owner (sym e) ∙ sym (o.each id x (record { view = v; at = here; live = live; has = p }))))
