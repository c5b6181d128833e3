-- Facts of each item of a list, and sequences whose items can be written.
use Rattle.std.proofs.Common.{◌≡◌, ℕ, zero, suc, ◌+◌, ◌^◌, ◌<◌, ◌≤◌, Bool, true, false, cond, List, [], ◌∷◌, ◌++◌}
use Rattle.std.proofs.Common.{length, map, refl, subst, arith, Option, Some}
use Rattle.std.proofs.lemmas.List.{length-append}
use Rattle.std.specs.List.{flat_map, filter, find, AllByRecursion}
use Rattle.td_cdr.specs.declared.order.Order.{Order}
use Rattle.td_cdr.specs.declared.value_fault.ValueFault.{ValueFault}
use Rattle.td_cdr.specs.Format.{Format, Piece, row, ◌then◌, number, array_format}
use Rattle.td_cdr.specs.Sound.{Sound, text, sequence}
use Rattle.td_cdr.specs.Writing.{written_number}

-- ---- each item

pub each-when : {X : Type 0} (P : X → Type 0) (b : Bool) (xs ys : List X) → AllByRecursion P xs → AllByRecursion P ys
    → AllByRecursion P (cond b xs ys)
each-when P true xs ys h k = h
each-when P false xs ys h k = k

pub each-append : {X : Type 0} (P : X → Type 0) (xs ys : List X) → AllByRecursion P xs → AllByRecursion P ys
    → AllByRecursion P (xs ++ ys)
each-append P [] ys h k = k
each-append P (x ∷ xs) ys h k = (h.0, each-append P xs ys h.1 k)

pub each-map : {X Y : Type 0} (P : X → Type 0) (Q : Y → Type 0) (f : X → Y) (xs : List X) → ((x : X) → P x → Q (f x))
    → AllByRecursion P xs → AllByRecursion Q (map f xs)
each-map P Q f [] g h = tt
each-map P Q f (x ∷ xs) g h = (g x h.0, each-map P Q f xs g h.1)

pub each-flat : {X Y : Type 0} (P : X → Type 0) (Q : Y → Type 0) (f : X → List Y) (xs : List X)
    → ((x : X) → P x → AllByRecursion Q (f x)) → AllByRecursion P xs → AllByRecursion Q (flat_map f xs)
each-flat P Q f [] g h = tt
each-flat P Q f (x ∷ xs) g h = each-append Q (f x) (flat_map f xs) (g x h.0) (each-flat P Q f xs g h.1)

pub each-filter : {X : Type 0} (P : X → Type 0) (test : X → Bool) (xs : List X) → AllByRecursion P xs
    → AllByRecursion P (filter test xs)
each-filter P test [] h = tt
each-filter P test (x ∷ xs) h =
    each-when P (test x) (x ∷ filter test xs) (filter test xs) (h.0, each-filter P test xs h.1)
    (each-filter P test xs h.1)

found-when : {X : Type 0} (P : X → Type 0) (b : Bool) (x y : X) (later : Option X) → P x → (later ≡ Some y → P y)
    → cond b (Some x) later ≡ Some y → P y
found-when P true x y later h k e = let same : x ≡ y = cc in subst P same h
found-when P false x y later h k e = k e

-- what is found is one of them
pub each-found : {X : Type 0} (P : X → Type 0) (test : X → Bool) (xs : List X) (y : X) → AllByRecursion P xs
    → find test xs ≡ Some y → P y
each-found P test [] y h e = absurd (let bad : ⊥ = cc in bad)
each-found P test (x ∷ xs) y h e = found-when P (test x) x y (find test xs) h.0 (each-found P test xs y h.1) e

filter-when : {X : Type 0} (b : Bool) (x : X) (xs : List X) (n : ℕ) → length xs ≤ n
    → length (cond b (x ∷ xs) xs) ≤ n + 1
filter-when true x xs n h = omega (arith, h)
filter-when false x xs n h = omega (arith, h)

-- no more pass a test than there are
pub filter-length : {X : Type 0} (test : X → Bool) (xs : List X) → length (filter test xs) ≤ length xs
filter-length test [] = omega arith
filter-length test (x ∷ xs) =
    let h = filter-when (test x) x (filter test xs) (length xs) (filter-length test xs) in omega (arith, h)

-- ---- sequences

array-from : {X : Type 0} (g : Format ValueFault X) (xs : List X) → AllByRecursion g.admits xs
    → (array_format g (length xs)).admits xs
array-from g [] h = refl
array-from g (x ∷ xs) h = ((x, xs), refl, (h.0, array-from g xs h.1))

array-each : {X : Type 0} (g : Format ValueFault X) (n : ℕ) (xs : List X) → (array_format g n).admits xs
    → AllByRecursion g.admits xs
array-each g zero xs h = subst (AllByRecursion g.admits) h tt
array-each g (suc n) xs h = subst (AllByRecursion g.admits) h.1 (h.2.0, array-each g n h.0.1 h.2.1)

pub sequence-from : {X : Type 0} (g : Sound ValueFault X) (xs : List X) → length xs < 2 ^ 32
    → AllByRecursion g.format.admits xs → (sequence g).format.admits xs
sequence-from g xs n h = (n, array-from g.format xs h)

pub sequence-each : {X : Type 0} (g : Sound ValueFault X) (xs : List X) → (sequence g).format.admits xs
    → AllByRecursion g.format.admits xs
sequence-each g xs h = array-each g.format (length xs) xs h.1

-- ---- how long what is written is

pub then-second : (p q : Piece) (order : Order) (place n : ℕ) → ((at : ℕ) → n ≤ length (q order at))
    → n ≤ length ((p then q) order place)
then-second p q order place n h =
    let e = length-append (p order place) (q order (place + length (p order place))) in
    let k = h (place + length (p order place)) in
    omega (arith, e, k)

pub then-first : (p q : Piece) (order : Order) (place n : ℕ) → n ≤ length (p order place)
    → n ≤ length ((p then q) order place)
then-first p q order place n h =
    let e = length-append (p order place) (q order (place + length (p order place))) in
    omega (arith, e, h)

text-long : (x : List ℕ) (order : Order) (place : ℕ) → 1 ≤ length (text.format.writes x order place)
text-long x order place =
    let count = written_number 4 order place (length (x ++ 0 ∷ [])) in
    let e = length-append count (x ++ 0 ∷ []) in
    let f = length-append x (0 ∷ []) in
    omega (arith, e, f)

texts-long : (xs : List (List ℕ)) (order : Order) (place : ℕ)
    → length xs ≤ length (row (map text.format.writes xs) order place)
texts-long [] order place = omega arith
texts-long (x ∷ xs) order place =
    let first = text.format.writes x order place in
    let e = length-append first (row (map text.format.writes xs) order (place + length first)) in
    let one = text-long x order place in
    let more = texts-long xs order (place + length first) in
    omega (arith, e, one, more)

-- each text takes a byte or more
pub sequence-long : (xs : List (List ℕ)) (order : Order) (place : ℕ)
    → length xs ≤ length ((sequence text).format.writes xs order place)
sequence-long xs order place =
    then-second ((number 4).writes (length xs)) (row (map text.format.writes xs)) order place (length xs)
    (texts-long xs order)
