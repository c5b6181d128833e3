-- Names that were met: the first in place, the others as the keys of a set of slices.
use Rattle.std.proofs.Common.{◌≡◌, ℕ, ◌+◌, ◌<◌, suc, Bool, true, false, ◌||◌, not, cond, List, [], ◌∷◌, ◌++◌, length, map}
use Rattle.std.proofs.Common.{take, set, refl, sym, ap, subst, ◌∙◌, Bor, add-one}
use Rattle.std.proofs.Math.Seq.{take-suc-set}
use Rattle.std.proofs.lemmas.Bool.Decides.{same_from_decides, Decides-like}
use Rattle.std.proofs.lemmas.List.{append-nil, map-append}
use Rattle.std.proofs.lemmas.List.Folds.{list_any-append}
use Rattle.std.proofs.lemmas.Map.Text.{is_eq-slice_cmp}
use Rattle.std.proofs.lemmas.Slice.Eq.{bytes_eq-Decides}
use Rattle.std.specs.BTreeMap.{is_at}
use Rattle.std.specs.BTreeSet.{BTreeSet, contains}
use Rattle.std.specs.Cmp.Lexicographic.{slice_cmp}
use Rattle.std.specs.List.{list_any}
use Rattle.std.specs.Ordering.{nat_cmp}
use Rattle.std.specs.Str.{bytes_eq}
use Rattle.std.specs.declared.cmp.Ordering.{Ordering}
use Rattle.td_cdr.specs.Seen.{is_among, names_of}

-- the order of the keys
abbrev pub slice_order : Bor (List ℕ) → Bor (List ℕ) → Ordering
slice_order a b = slice_cmp nat_cmp a.now b.now

same_key : (q : Bor (List ℕ)) (keys : List (Bor (List ℕ)))
    → list_any (is_at (slice_order q)) keys ≡ is_among q.now (names_of keys)
same_key q [] = refl
same_key q (k ∷ keys) = rw (← is_eq-slice_cmp q.now k.now, ← same_key q keys) refl

has_contains : (s : BTreeSet (Bor (List ℕ))) (q : Bor (List ℕ))
    → contains slice_order s q ≡ is_among q.now (names_of s.keys)
has_contains s q = same_key q s.keys

either : (a b : Bool) → cond a true b ≡ (a || b)
either true b = refl
either false b = refl

chosen : (a b x y : Bool) → a ≡ x → b ≡ y → cond a true b ≡ (x || y)
chosen a b x y p q = rw (p, q) (either x y)

-- what a set has once it was given one more
has_also : (s n : BTreeSet (Bor (List ℕ))) (key : Bor (List ℕ))
    → ((q : Bor (List ℕ)) → contains slice_order n q ≡ cond (is_at (slice_order key) q) true (contains slice_order s q))
    → (other : List ℕ)
    → is_among other (names_of n.keys) ≡ (bytes_eq key.now other || is_among other (names_of s.keys))
has_also s n key updated other =
    let q : Bor (List ℕ) = record key { now = other } in
    sym (has_contains n q) ∙ (updated q ∙ chosen _ _ _ _ (is_eq-slice_cmp key.now other) (has_contains s q))

-- ---- names in two lists, of which the second are a set's

bytes_turned : (a b : List ℕ) → bytes_eq a b ≡ bytes_eq b a
bytes_turned a b =
    same_from_decides (bytes_eq a b) (bytes_eq b a) (bytes_eq-Decides a b)
    (Decides-like (bytes_eq b a) (λ e. sym e) (λ e. sym e) (bytes_eq-Decides b a))

in_either : (name : List ℕ) (xs ys : List (List ℕ)) → is_among name (xs ++ ys) ≡ (is_among name xs || is_among name ys)
in_either name xs ys = list_any-append (bytes_eq name) xs ys

again_if : (name other : List ℕ) (xs : List (List ℕ)) (b : Bool) → bytes_eq name other ≡ b → is_among name xs ≡ true
    → is_among other xs ≡ (b || is_among other xs)
again_if name other xs true e h =
    subst (λ (n : List ℕ). is_among n xs ≡ true) ((bytes_eq-Decides name other).0 e) h
again_if name other xs false e h = refl

-- a name that is among the first is there
pub is_there : (name : List ℕ) (xs ys : List (List ℕ)) → is_among name xs ≡ true → false ≡ not (is_among name (xs ++ ys))
is_there name xs ys h = rw (in_either name xs ys, h) refl

-- and there is nothing more once it was met again
pub met_again : (name other : List ℕ) (xs ys : List (List ℕ)) → is_among name xs ≡ true
    → is_among other (xs ++ ys) ≡ (bytes_eq name other || is_among other (xs ++ ys))
met_again name other xs ys h =
    again_if name other (xs ++ ys) (bytes_eq name other) refl (rw (in_either name xs ys, h) refl)

-- one that isn't among the first, where there are no others
pub is_first : (name : List ℕ) (xs : List (List ℕ)) (keys : List (Bor (List ℕ))) → is_among name xs ≡ false → keys ≡ []
    → true ≡ not (is_among name (xs ++ names_of keys))
is_first name xs keys h none = rw (none, append-nil xs, h) refl

swapped : (a b : Bool) → (a || (b || false)) ≡ (b || a)
swapped true true = refl
swapped true false = refl
swapped false true = refl
swapped false false = refl

-- and it is the last of the first
pub met_in_place : (first : List (Bor (List ℕ))) (count : ℕ) (key : Bor (List ℕ)) (keys : List (Bor (List ℕ)))
    → count < length first → keys ≡ [] → (other : List ℕ)
    → is_among other (names_of (take (count + 1) (set first count key)) ++ names_of keys)
    ≡ (bytes_eq key.now other || is_among other (names_of (take count first) ++ names_of keys))
met_in_place first count key keys lt none other =
    let front = names_of (take count first) in
    let now : names_of (take (count + 1) (set first count key)) ≡ front ++ key.now ∷ [] =
    rw (add-one, take-suc-set first count key lt) (map-append (λ (k : Bor (List ℕ)). k.now) (take count first) (key ∷ [])) in
    rw (none, now, append-nil (front ++ key.now ∷ []), append-nil front, in_either other front (key.now ∷ []))
    (swapped (is_among other front) (bytes_eq other key.now)
    ∙ ap (λ (b : Bool). b || is_among other front) (bytes_turned other key.now))

-- one that isn't among the first, and that the set takes
pub is_other : (q : Bor (List ℕ)) (xs : List (List ℕ)) (s : BTreeSet (Bor (List ℕ))) (fresh : Bool)
    → is_among q.now xs ≡ false → fresh ≡ not (contains slice_order s q)
    → fresh ≡ not (is_among q.now (xs ++ names_of s.keys))
is_other q xs s fresh h e = rw (in_either q.now xs (names_of s.keys), h, ← has_contains s q) e

passed : (a b c : Bool) → (a || (b || c)) ≡ (b || (a || c))
passed true true c = refl
passed true false c = refl
passed false b c = refl

pub met_in_set : (xs : List (List ℕ)) (s n : BTreeSet (Bor (List ℕ))) (key : Bor (List ℕ))
    → ((q : Bor (List ℕ)) → contains slice_order n q ≡ cond (is_at (slice_order key) q) true (contains slice_order s q))
    → (other : List ℕ)
    → is_among other (xs ++ names_of n.keys) ≡ (bytes_eq key.now other || is_among other (xs ++ names_of s.keys))
met_in_set xs s n key updated other =
    rw (
      in_either other xs (names_of n.keys),
      in_either other xs (names_of s.keys),
      has_also s n key updated other,
    ) (passed (is_among other xs) (bytes_eq key.now other) (is_among other (names_of s.keys)))

-- what `see` answers, and what it leaves
pub ruleset met = (is_there, met_again, is_first, met_in_place, is_other, met_in_set)
