-- The greatest number of which something holds: there is one, and one only.
use Rattle.std.proofs.Common.{◌≡◌, ℕ, zero, suc, ◌≤◌, Bool, true, false, List, [], ◌∷◌, ◌++◌, take, drop, nat_le, min}
use Rattle.std.proofs.Common.{refl, ap, ◌∙◌, arith, append_assoc}
use Rattle.td_iter.specs.Batches.{IsGreatest, Batches, ended, given, join_lists}

pub greatest_is_one : {Holds : ℕ → Type 0} {n all j k : ℕ} → IsGreatest Holds n all j → IsGreatest Holds n all k → j ≡ k
greatest_is_one {j = j} {k = k} g h =
    let up = h.greatest j g.asked g.there g.holds in
    let down = g.greatest k h.asked h.there h.holds in
    omega (arith, up, down)

-- what holds of the same numbers has the same greatest
pub greatest_of_same : {P Q : ℕ → Type 0} {n all k : ℕ} → ((j : ℕ) → P j → Q j) → ((j : ℕ) → Q j → P j)
    → IsGreatest P n all k → IsGreatest Q n all k
greatest_of_same there back g = record {
  asked = g.asked;
  there = g.there;
  holds = there _ g.holds;
  greatest =
      λ j a b h. g.greatest j a b (back j h);
}

-- the greatest up to m of which size is at most a limit
pub record IsHighest (size : ℕ → ℕ) (limit m k : ℕ) : Type 0 where
  pub within : k ≤ m
  pub fits : size k ≤ limit
  pub highest : (j : ℕ) → j ≤ m → size j ≤ limit → j ≤ k

highest-by : (size : ℕ → ℕ) (limit m : ℕ) (b : Bool) → nat_le (size (suc m)) limit ≡ b → (k : ℕ)
    → IsHighest size limit m k → (r : ℕ) × IsHighest size limit (suc m) r
highest-by size limit m true e k h = (
  suc m,
  record {
    within = omega arith;
    fits = grind (arith, e);
    highest =
        λ j a f. a;
  },
)
highest-by size limit m false e k h = (
  k,
  record {
    within = omega (arith, h.within);
    fits = h.fits;
    highest = λ j a f. below j a f;
  },
) where
  below : (j : ℕ) → j ≤ suc m → size j ≤ limit → j ≤ k
  below j a f = grind (arith, e, a, f, h.highest j)

pub a_highest : (size : ℕ → ℕ) (limit m : ℕ) → size 0 ≤ limit → (k : ℕ) × IsHighest size limit m k
a_highest size limit zero f = (0, record { within = omega arith; fits = f; highest = λ j a g. a })
a_highest size limit (suc m) f = let h = a_highest size limit m f in
    highest-by size limit m (nat_le (size (suc m)) limit) refl h.0 h.1

pub a_greatest : (size : ℕ → ℕ) (limit n all : ℕ) → size 0 ≤ limit → (k : ℕ) × IsGreatest (λ j. size j ≤ limit) n all k
a_greatest size limit n all f =
    let h = a_highest size limit (min n all) f in (
      h.0,
      record {
        asked = omega (arith, h.1.within);
        there = omega (arith, h.1.within);
        holds = h.1.fits;
        greatest =
            λ j a b g. h.1.highest j (omega (arith, a, b)) g;
      },
    )

-- ---- batches one after the other

take-drop : {X : Type 0} (k : ℕ) (xs : List X) → take k xs ++ drop k xs ≡ xs
take-drop zero xs = refl
take-drop (suc k) [] = refl
take-drop {X = X} (suc k) (x ∷ xs) = ap (λ (ys : List X). x ∷ ys) (take-drop k xs)

pub batches_whole : {X : Type 0} (left rest : List X) (batches : List (List X)) → Batches left batches rest
    → join_lists batches ++ rest ≡ left
batches_whole left rest batches ended = refl
batches_whole {X = X} left rest batches (given {batches = later} head draft n k b more) =
    append_assoc (take k left) (join_lists later) rest
    ∙ ap (λ (ys : List X). take k left ++ ys) (batches_whole (drop k left) rest later more) ∙ take-drop k left
