-- Items that are judged one by one, each beside the names of those before it.
use Rattle.std.proofs.Common.{◌≡◌, ℕ, ◌+◌, ◌<◌, List, ◌∷◌, None, length, get_or, take, drop, map, reverse}
use Rattle.std.proofs.Common.{Bool, true, false, not, ◌||◌, add-one, refl, sym, ap, subst, ◌∙◌}
use Rattle.std.proofs.Math.Seq.{take-suc}
use Rattle.std.proofs.lemmas.List.{map-append, reverse-append}
use Rattle.std.specs.Str.{bytes_eq}
use Rattle.td_cdr.specs.Seen.{HaveSeen, has_seen}
use Rattle.td_types.proofs.Equal.{bytes_eq-sym}
use Rattle.td_types.proofs.Rest.{rest}
use Rattle.td_register.specs.Causes.{Cause, ◌otherwise◌}
use Rattle.td_register.specs.Judged.{IsMet}
use Rattle.td_register.specs.declared.refusal.Fault.{Fault}
use Rattle.td_register.proofs.Otherwise.{first}

-- the names of the items so far, the last one in front
pub behind : {X : Type 0} (name : X → List ℕ) (xs : List X) (i : ℕ) (x : X) → i < length xs → x ≡ get_or xs i x →
    reverse (map name (take (i + 1) xs)) ≡ name x ∷ reverse (map name (take i xs))
behind name xs i x lt is = rw (add-one, take-suc xs i x lt, ← is, map-append, reverse-append) refl

-- what is at fault with an item is at fault with all, where nothing was before it
pub stops : {X : Type 0} (name : X → List ℕ) (one : List (List ℕ) → X → Cause) (all : List (List ℕ) → List X → Cause)
    (before : List (List ℕ)) (xs : List X) (i : ℕ) (x : X) (f : Fault) (total : Cause) →
    ((b : List (List ℕ)) (y : X) (ys : List X) → all b (y ∷ ys) ≡ (one b y otherwise all (name y ∷ b) ys)) →
    i < length xs → x ≡ get_or xs i x → IsMet (one before x) f → all before (drop i xs) ≡ total → IsMet total f
stops name one all before xs i x f total by lt is met so_far =
    subst (λ (c : Cause). IsMet c f)
    (sym (ap (all before) (rest xs i x lt is) ∙ by before x (drop (i + 1) xs)) ∙ so_far)
    (first (one before x) (all (name x ∷ before) (drop (i + 1) xs)) f met)

-- nothing is at fault with an item
pub passes : {X : Type 0} (name : X → List ℕ) (one : List (List ℕ) → X → Cause) (all : List (List ℕ) → List X → Cause)
    (before : List (List ℕ)) (xs : List X) (i : ℕ) (x : X) (total : Cause) →
    ((b : List (List ℕ)) (y : X) (ys : List X) → all b (y ∷ ys) ≡ (one b y otherwise all (name y ∷ b) ys)) →
    i < length xs → x ≡ get_or xs i x → one before x ≡ None → all before (drop i xs) ≡ total →
    all (name x ∷ before) (drop (i + 1) xs) ≡ total
passes name one all before xs i x total by lt is none so_far =
    sym (ap (all before) (rest xs i x lt is) ∙ by before x (drop (i + 1) xs)
    ∙ ap (λ (c : Cause). c otherwise all (name x ∷ before) (drop (i + 1) xs)) none)
    ∙ so_far

-- what is so of what is left is so of the item in front of the others
pub at_item : {X Y : Type 0} (f : List X → Y) (xs : List X) (i : ℕ) (x : X) (total : Y) → i < length xs →
    x ≡ get_or xs i x → f (drop i xs) ≡ total → f (x ∷ drop (i + 1) xs) ≡ total
at_item f xs i x total lt is so_far = sym (ap f (rest xs i x lt is)) ∙ so_far

-- ---- names that were met

-- the set has one name more
pub notes : (seen new : List (List ℕ)) (before : List (List ℕ)) (n : List ℕ) → HaveSeen seen before →
    ((other : List ℕ) → has_seen new other ≡ (bytes_eq n other || has_seen seen other)) → HaveSeen new (n ∷ before)
notes seen new before n h added other = added other ∙ (rw (h other, bytes_eq-sym n other) refl)

-- a name that the set had, and one that it hadn't
pub met_before : (fresh has among : Bool) → fresh ≡ not has → has ≡ among → fresh ≡ false → among ≡ true
met_before true has among e same h = absurd cc
met_before false true among e same h = sym same
met_before false false among e same h = absurd cc

pub met_first : (fresh has among : Bool) → fresh ≡ not has → has ≡ among → fresh ≡ true → among ≡ false
met_first false has among e same h = absurd cc
met_first true false among e same h = sym same
met_first true true among e same h = absurd cc
