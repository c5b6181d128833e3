-- How many passes were met.
use Rattle.std.proofs.Common.{◌≡◌, ℕ, zero, suc, ◌+◌, ◌≤◌, ◌==◌, List, [], ◌∷◌, ◌++◌, length, Bool, true, false, refl}
use Rattle.std.proofs.Common.{sym, ◌∙◌, ap, arith, slice_set, slice_get, Some, eq-eqb, ne_eqb}
use Rattle.std.proofs.lemmas.List.{length-set}
use mathlib.Core.Option.{some, some-injective}
use mathlib.Core.Logic.{dite}
use native.Mathlib.Decide.{ℕ_discrete}
use lib.ListN.{get_elem?}
use Rattle.td_cell.specs.declared.pass.View.{View}
use Rattle.td_cell.specs.Rules.{NumbersDiffer, all_met, count_met}

pub count-more : (ms : List Bool) → count_met (ms ++ false ∷ []) ≡ count_met ms
count-more [] = refl
count-more (false ∷ ms) = count-more ms
count-more (true ∷ ms) = ap (λ n. n + 1) (count-more ms)

pub count-set : (ms : List Bool) (k : ℕ) → slice_get ms k ≡ Some false
    → count_met (slice_set ms k true) ≡ count_met ms + 1
count-set [] k e = absurd (cc)
count-set (false ∷ ms) zero e = refl
count-set (true ∷ ms) zero e = absurd (cc)
count-set (false ∷ ms) (suc k) e = count-set ms k e
count-set (true ∷ ms) (suc k) e = ap (λ n. n + 1) (count-set ms k e)

pub count-most : (ms : List Bool) → count_met ms ≤ length ms
count-most [] = omega arith
count-most (false ∷ ms) = let h = count-most ms in omega arith
count-most (true ∷ ms) = let h = count-most ms in omega arith

same-next : (a b : ℕ) → (a == b) ≡ (a + 1 == suc b)
same-next a b = dite (ℕ_discrete a b)
    (λ e. eq-eqb a b e ∙ sym (eq-eqb (a + 1) (suc b) (omega arith)))
    (λ ne. ne_eqb a b ne ∙ sym (ne_eqb (a + 1) (suc b) (λ e. ne (omega arith))))

pub count-all : (ms : List Bool) → all_met ms ≡ (count_met ms == length ms)
count-all [] = refl
count-all (false ∷ ms) = let h = count-most ms in sym (ne_eqb (count_met ms) (length (false ∷ ms)) (λ e. omega arith))
count-all (true ∷ ms) = count-all ms ∙ same-next (count_met ms) (length ms)

-- the opening pass counts those that it has met
pub meetings_of : {B : Type 0} (views : List (View B)) (id : ℕ) (v : View B) → get_elem? views id ≡ some v
    → v.number ≡ 0 → v.spent ≡ false → NumbersDiffer views → v.meetings ≡ count_met v.met
meetings_of {B} views id v here first live n =
    let mine : id ≡ n.seats 0 = rw first at (n.each id v here live).0 in
    let same : v ≡ n.chief = some-injective v n.chief (sym here ∙ (ap (get_elem? views) mine ∙ n.here)) in
    ap (λ (x : View B). x.meetings) same ∙ (n.meetings ∙ sym (ap (λ (x : View B). count_met x.met) same))

-- a meeting that is counted is one of those that were split off
pub meeting-within : (ms : List Bool) (k meetings splits : ℕ) → meetings + 1 ≡ count_met (slice_set ms k true)
    → splits ≡ length ms → meetings + 1 ≤ splits
meeting-within ms k meetings splits counted longer =
    let h : count_met (slice_set ms k true) ≤ length (slice_set ms k true) = count-most (slice_set ms k true) in
    let same : length (slice_set ms k true) ≡ length ms = length-set ms k true in
    omega arith
