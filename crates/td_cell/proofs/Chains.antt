-- What was seen, and what is counted, over the steps.
use Rattle.std.proofs.Common.{◌≡◌, ◌≢◌, ℕ, ◌+◌, ◌<◌, ◌≤◌, ◌⊎◌, inl, inr, List, [], ◌∷◌, ◌++◌, false, refl, sym, ◌∙◌}
use Rattle.std.proofs.Common.{subst, arith, slice_set, slice_index, Some, None}
use Rattle.std.specs.Prelude.{Option as Maybe, IsSome}
use mathlib.Core.Option.{some}
use mathlib.Core.Logic.{dite}
use native.Mathlib.Decide.{ℕ_discrete}
use lib.ListN.{get_elem?}
use Rattle.atomic_table.proofs.Lists.{at_set}
use Rattle.td_cdr.specs.Marks.{In}
use Rattle.td_cell.specs.declared.pass.View.{View}
use Rattle.td_cell.specs.Lists.{itself}
use Rattle.td_cell.specs.Rules.{Holds, OwnPlacesCover, KnowsMet, AreChain, Sees, Before, BothBefore, places_of}
use Rattle.td_cell.specs.Rules.{met_view, gone}
use Rattle.td_cell.proofs.Lists.{in-snoc, in-last, in-before}
use Rattle.td_cell.proofs.Owns.{at_snoc2, set_back, set_mine, set_forth, split_back, split_forth, met_back, met_forth}

pub just : {A : Type 0} (x y : A) → Some x ≡ Some y → x ≡ y
just x y e = cc

pub word_else : (ws : List ℕ) (x : ℕ) → slice_index (slice_set ws 0 x) 1 ≡ slice_index ws 1
word_else [] x = refl
word_else (w ∷ ws) x = refl

pub word_else2 : (ws : List ℕ) (x : ℕ) → slice_index (slice_set ws 2 x) 1 ≡ slice_index ws 1
word_else2 [] x = refl
word_else2 (w ∷ []) x = refl
word_else2 (w ∷ y ∷ ws) x = refl

pub word_same : (ws : List ℕ) → slice_index (slice_set ws 1 (slice_index ws 1)) 1 ≡ slice_index ws 1
word_same [] = refl
word_same (w ∷ []) = refl
word_same (w ∷ y ∷ ws) = refl

module _ {B : Type 0} (views : List (View B)) where
  module _ (id : ℕ) (v w : View B) (here : get_elem? views id ≡ some v) (live : v.spent ≡ false)
      (live2 : w.spent ≡ false) (o n : ℕ) (p : OwnPlacesCover o n views) where
    mine : (k : ℕ) → In k v.own → Holds places_of views id k
    mine k has = record { view = v; at = here; live = live; has = has }

    pub placed_same : w.own ≡ v.own → OwnPlacesCover o n (slice_set views id w)
    placed_same same = record {
      reaches = p.reaches;
      within = λ i k h. elim (set_back places_of views id v w here live live2 i k h) as (λ _. (o ≤ k) × (k < n)) [
        | inl q ↦ p.within id k (mine k (subst (In k) same q.1))
        | inr q ↦ p.within i k q.1
      ];
      held =
          λ k a b. let h = p.held k a b in
          (h.0, set_forth places_of views id v w here live live2 (λ x. subst (In x) (sym same)) h.0 k h.1);
    }

    pub placed_more : w.own ≡ v.own ++ n ∷ [] → OwnPlacesCover o (n + 1) (slice_set views id w)
    placed_more more = record {
      reaches = let r = p.reaches in omega arith;
      within = λ i k h. elim (set_back places_of views id v w here live live2 i k h) as (λ _. (o ≤ k) × (k < n + 1)) [
        | inl q ↦ elim (in-snoc k n v.own (subst (In k) more q.1)) as (λ _. (o ≤ k) × (k < n + 1)) [
          | inl m ↦ let z = p.within id k (mine k m) in (z.0, omega (arith, z.1))
          | inr e ↦ let r = p.reaches in (omega arith, omega arith)
        ]
        | inr q ↦ let z = p.within i k q.1 in (z.0, omega (arith, z.1))
      ];
      held = λ k a b. dite (ℕ_discrete k n)
          (λ e. (
            id,
            set_mine places_of views id v w here live live2 k
                (subst (In k) (sym more) (subst (λ j. In j (v.own ++ n ∷ [])) (sym e) (in-last n v.own))),
          ))
          (λ ne. let h = p.held k a (omega arith) in (
            h.0,
            set_forth places_of views id v w here live live2
                (λ x m. subst (In x) (sym more) (in-before x n v.own m)) h.0 k h.1,
          ));
    }

    pub placed_split : (z : View B) → z.own ≡ [] → w.own ≡ v.own → OwnPlacesCover o n (slice_set views id w ++ z ∷ [])
    placed_split z nothing same = record {
      reaches = p.reaches;
      within = λ i k h. p.within i k (split_back places_of views id v w here live live2 z nothing same i k h);
      held =
          λ k a b. let h = p.held k a b in
          (h.0, split_forth places_of views id v w here live live2 z nothing same h.0 k h.1);
    }

  module _ (later : B → B → Type 0) where
    pub before_sees : (v : View B) (a b : B) → BothBefore later v b → Sees v a → later a b
    before_sees v a b p (inl e) = subst (λ o. Before later o b) e p.0
    before_sees v a b p (inr e) = subst (λ o. Before later o b) e p.1

    pub known_before : (b : B) → ((i : ℕ) (v : View B) → get_elem? views i ≡ some v → BothBefore later v b) → (a : B)
        → KnowsMet views a → later a b
    known_before b all a k = before_sees k.view a b (all k.seat k.view k.at) k.sees

    pub chain_of : (after : List (View B)) → ((a : B) → KnowsMet after a → KnowsMet views a) → AreChain later views
        → AreChain later after
    chain_of after back c a b p q = c a b (back a p) (back b q)

    module _ (id : ℕ) (v w : View B) (here : get_elem? views id ≡ some v) (c : B)
        (all : (a : B) → KnowsMet views a → later a c) (itself : (b : B) → later b b) where
      pub chain_set : ((a : B) → Sees w a → Sees v a ⊎ (a ≡ c)) → AreChain later views
          → AreChain later (slice_set views id w)
      chain_set sees chain a b p q = join (class a p) (class b q)
        where
          class : (x : B) → KnowsMet (slice_set views id w) x → KnowsMet views x ⊎ (x ≡ c)
          class x k = elim (at_set views id k.seat w k.view k.at) as (λ _. KnowsMet views x ⊎ (x ≡ c)) [
            | inl r ↦ elim (sees x (subst (λ (y : View B). Sees y x) (sym r.1) k.sees)) as (λ _.
                KnowsMet views x ⊎ (x ≡ c)) [
                  | inl s ↦ inl (record { seat = id; view = v; at = here; sees = s })
                  | inr e ↦ inr e
                ]
            | inr r ↦ inl (record { seat = k.seat; view = k.view; at = r.1; sees = k.sees })
          ]

          join : KnowsMet views a ⊎ (a ≡ c) → KnowsMet views b ⊎ (b ≡ c) → later a b ⊎ later b a
          join (inl x) (inl y) = chain a b x y
          join (inl x) (inr e) = inl (subst (λ z. later a z) (sym e) (all a x))
          join (inr e) (inl y) = inr (subst (λ z. later b z) (sym e) (all b y))
          join (inr e) (inr f) = inl (subst (λ z. later z b) (f ∙ sym e) (itself b))

    -- the views after a split, and after a meeting, know no more
    pub known_split : (id : ℕ) (v w z : View B) → get_elem? views id ≡ some v → ((a : B) → Sees w a → Sees v a)
        → ((a : B) → Sees z a → Sees v a) → (a : B) → KnowsMet (slice_set views id w ++ z ∷ []) a → KnowsMet views a
    known_split id v w z here one two a k =
        elim (at_snoc2 (slice_set views id w) z k.view k.seat k.at) as (λ _. KnowsMet views a) [
          | inl p ↦ elim (at_set views id k.seat w k.view p) as (λ _. KnowsMet views a) [
            | inl q ↦ record {
              seat = id;
              view = v;
              at = here;
              sees = one a (subst (λ (y : View B). Sees y a) (sym q.1) k.sees);
            }
            | inr q ↦ record { seat = k.seat; view = k.view; at = q.1; sees = k.sees }
          ]
          | inr p ↦ record {
            seat = id;
            view = v;
            at = here;
            sees = two a (subst (λ (y : View B). Sees y a) (sym p.1) k.sees);
          }
        ]

    pub known_met : (id other : ℕ) (v w u : View B) → get_elem? views id ≡ some v → get_elem? views other ≡ some w
        → ((a : B) → Sees u a → Sees v a ⊎ Sees w a) → (a : B) → KnowsMet (slice_set (slice_set views id u) other gone) a
        → KnowsMet views a
    known_met id other v w u here there both a k =
        elim (at_set (slice_set views id u) other k.seat gone k.view k.at) as (λ _. KnowsMet views a) [
          | inl p ↦ absurd (nobody a (subst (λ (y : View B). Sees y a) (sym p.1) k.sees))
          | inr p ↦ elim (at_set views id k.seat u k.view p.1) as (λ _. KnowsMet views a) [
            | inl q ↦ elim (both a (subst (λ (y : View B). Sees y a) (sym q.1) k.sees)) as (λ _. KnowsMet views a) [
              | inl s ↦ record { seat = id; view = v; at = here; sees = s }
              | inr s ↦ record { seat = other; view = w; at = there; sees = s }
            ]
            | inr q ↦ record { seat = k.seat; view = k.view; at = q.1; sees = k.sees }
          ]
        ]
      where
        nobody : (a : B) → Sees gone a → ⊥
        nobody a (inl e) = absurd (cc)
        nobody a (inr e) = absurd (cc)

  pub placed_met : (id other : ℕ) (v w : View B) → get_elem? views id ≡ some v → get_elem? views other ≡ some w
      → other ≢ id → v.spent ≡ false → w.spent ≡ false → (o n : ℕ) → OwnPlacesCover o n views
      → OwnPlacesCover o n (slice_set (slice_set views id (met_view v w)) other gone)
  placed_met id other v w here there apart live live2 o n p = record {
    reaches = p.reaches;
    within =
        λ i k h. elim (met_back places_of views id other v w (met_view v w) gone here there apart live live2 live refl
        itself refl i k h) as (λ _. (o ≤ k) × (k < n)) [
          | inl q ↦ p.within i k q
          | inr q ↦ p.within other k q.1
        ];
    held =
        λ k a b. let h = p.held k a b in
        met_forth places_of views id other v w (met_view v w) gone here there apart live live2 live refl itself refl
        h.0 k h.1;
  }

pub one_seen : {A : Type 0} (o : Maybe A) → IsSome o → (a : A) × (o ≡ Some a)
one_seen None h = absurd (cc)
one_seen (Some a) h = (a, refl)
