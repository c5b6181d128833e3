-- The worked examples of arrivals.
use Rattle.std.proofs.Common.{◌≡◌, ℕ, zero, suc, ◌+◌, ◌<◌, inl, inr, List, [], ◌∷◌, codes, take, drop}
use Rattle.std.proofs.Common.{Option, Some, None, refl, sym, ap, subst, arith}
use Rattle.td_cdr.specs.Marks.{RemembersAs, In, RememberedMark, entry_of}
use Rattle.td_fed_laws.specs.ArrivalExamples.{comes, foreign, forgotten_search, in_foreign, in_forgotten, in_group}
use Rattle.td_fed_laws.specs.ArrivalExamples.{in_ring}
use Rattle.td_fed_laws.specs.ArrivalExamples.{marked_q, marked_qa, marked_qab, ring, empty_marks, with_marks}
use Rattle.td_fed_laws.specs.Arrivals.{Arrival}
use Rattle.td_fed_laws.specs.Fresh.{Remembers}
use Rattle.td_fed_laws.specs.SharedLaws.{IsFreshUnder, IsRemembered}
use Rattle.td_fed_laws.specs.Traces.{HasSearch, visited_by}
use Rattle.td_fed_laws.specs.WalkLaws.{FarApart, NamesSearches, SearchesOnce}
use Rattle.td_fed_laws.proofs.Noting.{IsRightFromNone, named-search, searched-once}
use Rattle.td_ops.specs.declared.call.Query.{Query}
use Rattle.td_trader.specs.Worlds.{View}
use Rattle.td_walk.specs.declared.trace.TraceItem.TheVariants as item

abbrev first-of : List ℕ → ℕ
first-of [] = 0
first-of (n ∷ ns) = n

module _ (v : View) (q : Query) where
  -- ---- no trader remembers it at first

  none-held : (id : List ℕ) (x : View) (n : ℕ) → with_marks v empty_marks ≡ x → RemembersAs x.marks id n → ⊥
  none-held id x n e held = subst (λ (y : View). RemembersAs y.marks id n) (sym e) held

  pub none-remember : (trader n : ℕ) → Remembers (in_group v) trader (codes "q") n → ⊥
  none-remember zero n r = none-held (codes "q") r.view n (let is = r.is in cc) r.held
  none-remember (suc zero) n r = none-held (codes "q") r.view n (let is = r.is in cc) r.held
  none-remember (suc (suc k)) n r = let is = r.is in absurd (let bad : ⊥ = cc in bad)

  -- ---- remembered

  abbrev IsNear : Arrival → Type 0
  IsNear a =
      (trader mark : ℕ) → visited_by a.item ≡ Some trader → HasSearch a.before trader mark
      → a.seen.marks.count < mark + a.seen.marks.ring

  near-first : (gone : ℕ) → IsNear (comes v q (item.Search 0 0 1) [] gone empty_marks empty_marks)
  near-first gone trader mark visits h = elim h.there [ ]

  -- a visit of 1, where 0 alone was searched
  other-trader : (trader mark : ℕ) → ◌≡◌ {A = Option ℕ} (Some 1) (Some trader)
      → HasSearch (item.Search 0 0 1 ∷ []) trader mark → ⊥
  other-trader trader mark visits h = by-place h.there
    where
      by-place : In (item.Search trader h.point mark) (item.Search 0 0 1 ∷ []) → ⊥
      by-place (inl e) =
          let one : 1 ≡ trader = cc in
          let zero_is : trader ≡ 0 = cc in omega (arith, one, zero_is)
      by-place (inr i) = elim i [ ]

  -- a visit of 0, which was searched with the mark 1
  first-mark : (trader mark : ℕ) → ◌≡◌ {A = Option ℕ} (Some 0) (Some trader)
      → HasSearch (item.Search 0 0 1 ∷ item.Search 1 0 1 ∷ []) trader mark → mark ≡ 1
  first-mark trader mark visits h = by-place h.there
    where
      by-place : In (item.Search trader h.point mark) (item.Search 0 0 1 ∷ item.Search 1 0 1 ∷ []) → mark ≡ 1
      by-place (inl e) = cc
      by-place (inr (inl e)) =
          let zero_is : 0 ≡ trader = cc in
          let one : trader ≡ 1 = cc in absurd (omega (arith, one, zero_is))
      by-place (inr (inr i)) = elim i [ ]

  pub ring-remembered : IsRemembered (in_ring v q)
  ring-remembered a trader mark visits = by-place visits.is_in trader mark visits.visits
    where
      by-place : In a (in_ring v q) → IsNear a
      by-place (inl e) = subst IsNear (sym e) (near-first 0)
      by-place (inr (inl e)) = subst IsNear (sym e) (λ k m s h. absurd (other-trader k m s h))
      by-place (inr (inr (inl e))) =
          subst IsNear (sym e) (λ k m s h. let same = first-mark k m s h in omega (arith, same))
      by-place (inr (inr (inr i))) = elim i [ ]

  pub foreign-remembered : IsRemembered (in_foreign v q 0)
  foreign-remembered a trader mark visits = by-place visits.is_in trader mark visits.visits
    where
      by-place : In a (in_foreign v q 0) → IsNear a
      by-place (inl e) = subst IsNear (sym e) (near-first 0)
      by-place (inr (inl e)) = subst IsNear (sym e) (λ k m s h. absurd (other-trader k m s h))
      by-place (inr (inr i)) = elim i [ ]

  -- three marks are too many since the first
  pub not-remembered : IsRemembered (in_forgotten v q) → ⊥
  not-remembered h =
      let near : 3 < 1 + 2 =
      h
      (comes v q (item.Search 0 0 4) (item.Search 0 0 1 ∷ item.Search 1 0 1 ∷ []) 0 marked_q marked_qab)
      0 1 (record { is_in = inr (inr (inl refl)); visits = refl }) (record { point = 0; there = inl refl }) in
      omega (arith, near)

  -- ---- fresh

  abbrev IsUnmarked : (gone : ℕ) → Arrival → Type 0
  IsUnmarked gone a = (n : ℕ) → a.sent ≡ gone → RemembersAs a.seen.marks (codes "q") n → RemembersAs a.last.marks (codes "q") n

  not-same : {n m : ℕ} → entry_of (codes "q") n ≡ entry_of (codes "a") m → ⊥
  not-same e = let first : 113 ≡ 97 = ap (λ (x : RememberedMark). first-of x.identifier) e in omega (arith, first)

  q-is-first : (n : ℕ) → RemembersAs marked_qa (codes "q") n → RemembersAs marked_q (codes "q") n
  q-is-first n (inl e) = inl e
  q-is-first n (inr (inl e)) = absurd (not-same e)
  q-is-first n (inr (inr i)) = elim i [ ]

  q-is-gone : (n : ℕ) → RemembersAs marked_qab (codes "q") n → ⊥
  q-is-gone n (inl e) = not-same e
  q-is-gone n (inr (inl e)) =
      let first : 113 ≡ 98 = ap (λ (x : RememberedMark). first-of x.identifier) e in omega (arith, first)
  q-is-gone n (inr (inr i)) = elim i [ ]

  pub ring-fresh : IsFreshUnder (in_group v) 0 (in_ring v q) (codes "q")
  ring-fresh = record { forgotten = none-remember; unmarked = λ a n i. by-place a i n }
    where
      by-place : (a : Arrival) → In a (in_ring v q) → IsUnmarked 0 a
      by-place a (inl e) = subst (IsUnmarked 0) (sym e) (λ n s held. held)
      by-place a (inr (inl e)) = subst (IsUnmarked 0) (sym e) (λ n s held. held)
      by-place a (inr (inr (inl e))) = subst (IsUnmarked 0) (sym e) (λ n s held. q-is-first n held)
      by-place a (inr (inr (inr i))) = elim i [ ]

  pub forgotten-fresh : IsFreshUnder (in_group v) 0 (in_forgotten v q) (codes "q")
  forgotten-fresh = record { forgotten = none-remember; unmarked = λ a n i. by-place a i n }
    where
      by-place : (a : Arrival) → In a (in_forgotten v q) → IsUnmarked 0 a
      by-place a (inl e) = subst (IsUnmarked 0) (sym e) (λ n s held. held)
      by-place a (inr (inl e)) = subst (IsUnmarked 0) (sym e) (λ n s held. held)
      by-place a (inr (inr (inl e))) = subst (IsUnmarked 0) (sym e) (λ n s held. absurd (q-is-gone n held))
      by-place a (inr (inr (inr i))) = elim i [ ]

  pub not-fresh : IsFreshUnder (in_group v) 0 (in_foreign v q 0) (codes "q") → ⊥
  not-fresh h =
      h.unmarked (comes v q (item.Repeat 1 0 1) (item.Search 0 0 1 ∷ []) 0 empty_marks marked_q) 1 (inr (inl refl)) refl
      (inl refl)

  pub outside-fresh : IsFreshUnder (in_group v) 0 (in_foreign v q 1) (codes "q")
  outside-fresh = record { forgotten = none-remember; unmarked = λ a n i. by-place a i n }
    where
      by-place : (a : Arrival) → In a (in_foreign v q 1) → IsUnmarked 0 a
      by-place a (inl e) = subst (IsUnmarked 0) (sym e) (λ n s held. held)
      by-place a (inr (inl e)) =
          subst (IsUnmarked 0) (sym e) (λ n s held. absurd (let gone : 1 ≡ 0 = s in omega (arith, gone)))
      by-place a (inr (inr i)) = elim i [ ]

-- ---- traces

ring-right : IsRightFromNone ring
ring-right = record {
  notes = λ k. None;
  none = λ k. refl;
  right = (refl, (refl, (refl, (tt, (tt, tt)))));
}

pub ring-once : SearchesOnce ring
ring-once = searched-once ring ring-right

pub ring-named : NamesSearches ring
ring-named = named-search ring ring-right

pub not-once : SearchesOnce forgotten_search → ⊥
not-once h =
    h (take 2 forgotten_search) (drop 3 forgotten_search) 0 0 4 refl
    (record { mark = 1; search = record { point = 0; there = inl refl } })

pub not-farther : FarApart (λ k. 3) forgotten_search → ⊥
not-farther h =
    let far : 1 + 3 < 4 = h [] (item.Search 1 0 1 ∷ []) (drop 3 forgotten_search) 0 0 1 0 4 refl in omega (arith, far)

pub not-named : NamesSearches foreign → ⊥
not-named h = by-place (h (item.Search 0 0 1 ∷ []) (item.Leave ∷ []) 1 0 1 refl)
  where
    by-place : HasSearch (item.Search 0 0 1 ∷ []) 1 1 → ⊥
    by-place s = by-item s.there
      where
        by-item : In (item.Search 1 s.point 1) (item.Search 0 0 1 ∷ []) → ⊥
        by-item (inl e) = cc
        by-item (inr i) = elim i [ ]
