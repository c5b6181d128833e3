-- That a walk ends: each top visit weighs a power of its reach for each answer that it can still take.
use Rattle.std.proofs.Common.{◌≡◌, ℕ, zero, suc, ◌+◌, ◌-◌, ◌*◌, ◌<◌, ◌≤◌, List, [], ◌∷◌, ◌++◌, length-append, refl, sym}
use Rattle.std.proofs.Common.{ap, subst, arith, ◌⊎◌, inl, inr}
use Rattle.std.proofs.lemmas.Bool.{cases_lt}
use Rattle.std.specs.Prelude.{length}
use Rattle.td_fed.specs.Entering.{new_frame}
use Rattle.td_store.specs.declared.local.Local.{Local}
use Rattle.td_walk.specs.declared.answer.StepAnswer.{StepAnswer}
use Rattle.td_visit.specs.Standing.{FrameState as Frame}
use Rattle.td_query_walk.specs.Reach.{reach_of}

-- more answers than a list can have
abbrev pub most : ℕ
most = 18446744073709551616

-- a power of b + 2
unfoldable pub power : ℕ → ℕ → ℕ
power b zero = 1
power b (suc r) = (b + 2) * power b r

-- how many answers a visit can still take
abbrev pub left_of : ℕ → Frame → ℕ
left_of b f = b - length f.answers

-- what an answer of a visit weighs
abbrev pub answer_weight : ℕ → Frame → ℕ
answer_weight b f = power b (reach_of f.local)

-- the visits that wait, the outermost first, and the open one
unfoldable pub measure : ℕ → List Frame → Frame → ℕ
measure b [] top = (left_of b top + 1) * answer_weight b top
measure b (f ∷ fs) top = left_of b f * answer_weight b f + measure b fs top

-- the same of all open visits, the innermost last
unfoldable pub measure_from : ℕ → Frame → List Frame → ℕ
measure_from b f [] = (left_of b f + 1) * answer_weight b f
measure_from b f (g ∷ fs) = left_of b f * answer_weight b f + measure_from b g fs

unfoldable pub measure_all : ℕ → List Frame → ℕ
measure_all b [] = 0
measure_all b (f ∷ fs) = measure_from b f fs

measure_from-at : (b : ℕ) (f : Frame) (fs : List Frame) (top : Frame)
    → measure_from b f (fs ++ top ∷ []) ≡ measure b (f ∷ fs) top
unfolding measure measure_from
measure_from-at b f [] top = refl
measure_from-at b f (g ∷ fs) top = ap (λ n. left_of b f * answer_weight b f + n) (measure_from-at b g fs top)

pub measure_at : (b : ℕ) (fs : List Frame) (top : Frame) → measure_all b (fs ++ top ∷ []) ≡ measure b fs top
unfolding measure measure_from measure_all
measure_at b [] top = refl
measure_at b (f ∷ fs) top = measure_from-at b f fs top

-- ---- powers

times-positive : (a p : ℕ) → 0 < p → 0 < (a + 2) * p
times-positive a zero h = omega (arith, h)
times-positive a (suc p) h = omega arith

power-positive : (b r : ℕ) → 0 < power b r
unfolding power
power-positive b zero = omega arith
power-positive b (suc r) = times-positive b (power b r) (power-positive b r)

times-more : (b p q : ℕ) → p ≤ q → p ≤ (b + 2) * q
times-more b p q h = let e : (b + 2) * q ≡ b * q + 2 * q = omega arith in omega (arith, h, e)

power-at : (b r n : ℕ) → (r < n → (b + 2) * power b r ≤ power b n) → r ≤ n → (r < n) ⊎ (n ≤ r)
    → (b + 2) * power b r ≤ (b + 2) * power b n
power-at b r n more h (inl less) = times-more b ((b + 2) * power b r) (power b n) (more less)
power-at b r n more h (inr above) =
    let e : r ≡ n = omega (arith, h, above) in
    subst (λ x. (b + 2) * power b r ≤ (b + 2) * power b x) e (omega arith)

power-more : (b r n : ℕ) → r < n → (b + 2) * power b r ≤ power b n
unfolding power
power-more b r zero h = absurd (omega (arith, h))
power-more b r (suc n) h = power-at b r n (power-more b r n) (omega (arith, h)) (cases_lt r n)

-- ---- each step of a walk leaves less

one-more : (a p : ℕ) → 0 < p → (a + 1) * p < (a + 1 + 1) * p
one-more a p h = let e : (a + 1 + 1) * p ≡ (a + 1) * p + p = omega arith in omega (arith, h, e)

one-taken : (b n p : ℕ) → n < b → 0 < p → (b - (n + 1) + 1) * p < (b - n + 1) * p
one-taken b n p h positive =
    let e : b - n ≡ b - (n + 1) + 1 = omega (arith, h) in
    subst (λ x. (b - (n + 1) + 1) * p < (x + 1) * p) (sym e) (one-more (b - (n + 1)) p positive)

-- the open visit takes an answer
pub falls-answered : (b : ℕ) (fs : List Frame) (l : Local) (rs : List StepAnswer) (r : StepAnswer) → length rs < b
    → measure b fs (record { local = l; answers = rs ++ r ∷ [] }) < measure b fs (record { local = l; answers = rs })
unfolding measure
falls-answered b [] l rs r h =
    let e : length (rs ++ r ∷ []) ≡ length rs + 1 = length-append rs (r ∷ []) in
    let p = power b (reach_of l) in
    subst (λ n. (b - n + 1) * p < (b - length rs + 1) * p) (sym e)
    (one-taken b (length rs) p h (power-positive b (reach_of l)))
falls-answered b (f ∷ fs) l rs r h = let i = falls-answered b fs l rs r h in omega (arith, i)

deeper-base : (a b p q : ℕ) → (b + 2) * q ≤ p → 0 < q → a * p + (b + 1) * q < (a + 1) * p
deeper-base a b p q h positive =
    let e : (a + 1) * p ≡ a * p + p = omega arith in
    let f : (b + 2) * q ≡ (b + 1) * q + q = omega arith in
    omega (arith, h, positive, e, f)

-- a visit begins, which may go less far than the open one
pub falls-deeper : (b : ℕ) (fs : List Frame) (top : Frame) (l : Local) → reach_of l < reach_of top.local
    → measure b (fs ++ top ∷ []) (new_frame l) < measure b fs top
unfolding measure
falls-deeper b [] top l h =
    let z : b ≡ b - 0 = omega arith in
    let q = power b (reach_of l) in
    subst (λ x. left_of b top * answer_weight b top + (x + 1) * q < (left_of b top + 1) * answer_weight b top) z
    (deeper-base (left_of b top) b (answer_weight b top) q (power-more b (reach_of l) (reach_of top.local) h)
    (power-positive b (reach_of l)))
falls-deeper b (f ∷ fs) top l h = let i = falls-deeper b fs top l h in omega (arith, i)

back-base : (b n p k q : ℕ) → n < b → 0 < q → (b - (n + 1) + 1) * p < (b - n) * p + (k + 1) * q
back-base b n p k q h positive =
    let e : b - n ≡ b - (n + 1) + 1 = omega (arith, h) in
    let f : (k + 1) * q ≡ k * q + q = omega arith in
    subst (λ x. (b - (n + 1) + 1) * p < x * p + (k + 1) * q) (sym e) (omega (arith, positive, f))

-- the open visit ends, and the one that waits for it takes its answer
pub falls-back : (b : ℕ) (fs : List Frame) (l : Local) (rs : List StepAnswer) (r : StepAnswer) (top : Frame)
    → length rs < b
    → measure b fs (record { local = l; answers = rs ++ r ∷ [] })
    < measure b (fs ++ record { local = l; answers = rs } ∷ []) top
unfolding measure
falls-back b [] l rs r top h =
    let e : length (rs ++ r ∷ []) ≡ length rs + 1 = length-append rs (r ∷ []) in
    let p = power b (reach_of l) in
    subst (λ n. (b - n + 1) * p < (b - length rs) * p + (left_of b top + 1) * answer_weight b top) (sym e)
    (back-base b (length rs) p (left_of b top) (answer_weight b top) h
    (power-positive b (reach_of top.local)))
falls-back b (f ∷ fs) l rs r top h = let i = falls-back b fs l rs r top h in omega (arith, i)
