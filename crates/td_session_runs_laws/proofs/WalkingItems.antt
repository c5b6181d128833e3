-- What holds of each item of a list, of its parts, and of what is made of it.
use Rattle.std.proofs.Common.{◌≡◌, ℕ, ◌+◌, ◌^◌, ◌<◌, ◌≤◌, Bool, List, [], ◌∷◌, ◌++◌, length, take}
use Rattle.std.proofs.Common.{map, Option, Some, None, refl, arith}
use Rattle.std.proofs.lemmas.List.{length-map, length-take}
use Rattle.std.proofs.lemmas.List.Elements.{All-from_recursion, recursion_from_All}
use Rattle.std.proofs.lemmas.List.Sorted.{All-permutation}
use Rattle.std.specs.List.{AllByRecursion, cons_option, filter_map, find}
use Rattle.std.specs.List.Sorted.{IsPermutation}
use Rattle.td_cdr.specs.Sound.{Sound, sequence}
use Rattle.td_cdr.specs.declared.value_fault.ValueFault.{ValueFault}
use Rattle.td_session_runs_laws.proofs.Parts.{each-front}
use Rattle.td_types.proofs.Sequences.{each-found, each-map, sequence-each, sequence-from}

-- ---- parts of a list

pub each-parts : {X : Type 0} (P : X → Type 0) (xs ys : List X) → AllByRecursion P (xs ++ ys)
    → AllByRecursion P xs × AllByRecursion P ys
each-parts P [] ys h = (tt, h)
each-parts P (x ∷ xs) ys h = let parts = each-parts P xs ys h.1 in ((h.0, parts.0), parts.1)

-- the same items in another order
pub each-permuted : {X : Type 0} (P : X → Type 0) (xs ys : List X) → IsPermutation xs ys → AllByRecursion P xs
    → AllByRecursion P ys
each-permuted P xs ys moved h =
    recursion_from_All P ys (All-permutation P xs ys moved (All-from_recursion P xs h))

-- ---- what may be there

abbrev pub IfThere : {X : Type 0} → (X → Type 0) → Option X → Type 0
IfThere P None = Unit {0}
IfThere P (Some x) = P x

if-there : {X : Type 0} (P : X → Type 0) (o : Option X) → ((x : X) → o ≡ Some x → P x) → IfThere P o
if-there P None h = tt
if-there P (Some x) h = h x refl

-- what is found is one of them
pub there-found : {X : Type 0} (P : X → Type 0) (test : X → Bool) (xs : List X) → AllByRecursion P xs
    → IfThere P (find test xs)
there-found P test xs h = if-there P (find test xs) (λ x e. each-found P test xs x h e)

cons-there : {X : Type 0} (P : X → Type 0) (o : Option X) (xs : List X) → IfThere P o → AllByRecursion P xs
    → AllByRecursion P (cons_option o xs)
cons-there P None xs h k = k
cons-there P (Some x) xs h k = (h, k)

-- what is made of items
pub each-mapped : {X Y : Type 0} (P : X → Type 0) (Q : Y → Type 0) (f : X → Option Y) (xs : List X)
    → ((x : X) → P x → IfThere Q (f x)) → AllByRecursion P xs → AllByRecursion Q (filter_map f xs)
each-mapped P Q f [] g h = tt
each-mapped P Q f (x ∷ xs) g h = cons-there Q (f x) (filter_map f xs) (g x h.0) (each-mapped P Q f xs g h.1)

-- whatever they are
pub each-made : {X Y : Type 0} (Q : Y → Type 0) (f : X → Option Y) (xs : List X) → ((x : X) → IfThere Q (f x))
    → AllByRecursion Q (filter_map f xs)
each-made Q f [] g = tt
each-made Q f (x ∷ xs) g = cons-there Q (f x) (filter_map f xs) (g x) (each-made Q f xs g)

cons-length : {X : Type 0} (o : Option X) (xs : List X) (n : ℕ) → length xs ≤ n
    → length (cons_option o xs) ≤ n + 1
cons-length None xs n h = omega (arith, h)
cons-length (Some x) xs n h = omega (arith, h)

pub mapped-length : {X Y : Type 0} (f : X → Option Y) (xs : List X) → length (filter_map f xs) ≤ length xs
mapped-length f [] = omega arith
mapped-length f (x ∷ xs) =
    let h = cons-length (f x) (filter_map f xs) (length xs) (mapped-length f xs) in omega (arith, h)

-- ---- sequences

pub no-longer : (n m : ℕ) → n ≤ m → m < 2 ^ 32 → n < 2 ^ 32
no-longer n m less few = omega (arith, less, few)

-- at most so many, however many there are
pub sequence-first : {X : Type 0} (g : Sound ValueFault X) (n : ℕ) (xs : List X) → n < 2 ^ 32
    → AllByRecursion g.format.admits xs → (sequence g).format.admits (take n xs)
sequence-first g n xs few h =
    let e = length-take n xs in
    let short : length (take n xs) < 2 ^ 32 = omega (arith, e, few) in
    sequence-from g (take n xs) short (each-front g.format.admits n xs h)

pub sequence-map : {X Y : Type 0} (g : Sound ValueFault X) (h : Sound ValueFault Y) (f : X → Y) (xs : List X)
    → ((x : X) → g.format.admits x → h.format.admits (f x)) → (sequence g).format.admits xs
    → (sequence h).format.admits (map f xs)
sequence-map g h f xs k a =
    let e = length-map xs f in
    let few : length xs < 2 ^ 32 = a.0 in
    let same : length (map f xs) < 2 ^ 32 = omega (arith, e, few) in
    sequence-from h (map f xs) same (each-map g.format.admits h.format.admits f xs k (sequence-each g xs a))
