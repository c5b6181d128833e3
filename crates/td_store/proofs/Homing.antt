-- Offers at their places: lists of them by places and by numbers.
use Rattle.std.proofs.Common.{◌≡◌, ℕ, ◌<◌, Bool, true, false, cond, eqb, ltb, List, [], ◌∷◌, ◌++◌, map}
use Rattle.std.proofs.Common.{Option, Some, None, refl, sym, ap, ◌∙◌, arith, ◌⊎◌, ⊎_elim}
use mathlib.Core.Logic.{◌≢◌}
use Rattle.std.specs.BTreeMap.{is_at}
use Rattle.std.specs.List.{filter, cons_option, AllByRecursion}
use Rattle.std.specs.Map.{lookup, remove_entry}
use Rattle.std.specs.Option.{option_map}
use Rattle.std.specs.Ordering.{nat_cmp, is_eq}
use Rattle.std.specs.Prelude.{filter_map}
use Rattle.std.specs.declared.cmp.Ordering.TheVariants.{Less, Equal, Greater}
use Rattle.std.proofs.lemmas.Bool.{cases_eq, ne_eqb, eq-eqb, eqb-true, ltb-true}
use Rattle.std.proofs.lemmas.List.Elements.{filter_map-append, filter-append}

pub either : {P Q C : Type 0} → P ⊎ Q → (P → C) → (Q → C) → C
either u f g = ⊎_elim f g u

pub some-same : {X : Type 0} (x y : X) → ◌≡◌ {A = Option X} (Some x) (Some y) → x ≡ y
some-same x y e = cc

pub none-some : {X : Type 0} (x : X) → ◌≡◌ {A = Option X} None (Some x) → ⊥
none-some x e = cc

-- ---- numbers as keys

key-when : (n k : ℕ) (less same : Bool) → ltb n k ≡ less → eqb n k ≡ same
    → is_eq (cond less Less (cond same Equal Greater)) ≡ same
key-when n k true true l e =
    let a : n < k = ltb-true n k l in let b : n ≡ k = eqb-true n k e in absurd (omega (arith, a, b))
key-when n k true false l e = refl
key-when n k false true l e = refl
key-when n k false false l e = refl

pub key-is : (n k : ℕ) → is_at (nat_cmp n) k ≡ eqb n k
key-is n k = key-when n k (ltb n k) (eqb n k) refl refl

pub key-same : (n k : ℕ) → n ≡ k → is_at (nat_cmp n) k ≡ true
key-same n k e = key-is n k ∙ eq-eqb n k e

pub key-other : (n k : ℕ) → n ≢ k → is_at (nat_cmp n) k ≡ false
key-other n k d = key-is n k ∙ ne_eqb n k d

module _ {X : Type 0} (test : ℕ → Bool) where
  front-when : (b : Bool) (x v : X) (one both : Option X) → (one ≡ Some v → both ≡ Some v)
      → cond b (Some x) one ≡ Some v → cond b (Some x) both ≡ Some v
  front-when true x v one both h e = e
  front-when false x v one both h e = h e

  pub lookup-front : (xs ys : List (ℕ × X)) (v : X) → lookup test xs ≡ Some v → lookup test (xs ++ ys) ≡ Some v
  lookup-front [] ys v e = absurd (let bad : ⊥ = cc in bad)
  lookup-front (x ∷ xs) ys v e =
      front-when (test x.0) x.1 v (lookup test xs) (lookup test (xs ++ ys)) (lookup-front xs ys v) e

pub lookup-last : {X : Type 0} (n : ℕ) (v : X) (xs : List (ℕ × X)) → AllByRecursion (λ e. e.0 < n) xs
    → lookup (is_at (nat_cmp n)) (xs ++ (n, v) ∷ []) ≡ Some v
lookup-last n v [] h = rw (key-same n n refl) refl
lookup-last n v (x ∷ xs) h =
    rw (key-other n x.0 (λ (e : n ≡ x.0). let l : x.0 < n = h.0 in absurd (omega (arith, l, e))))
    (lookup-last n v xs h.1)

pub lookup-others : {X : Type 0} (n k : ℕ) (v : X) (xs : List (ℕ × X)) → k ≢ n → lookup (is_at (nat_cmp k)) xs ≡ Some v
    → lookup (is_at (nat_cmp k)) (remove_entry (is_at (nat_cmp n)) xs) ≡ Some v
lookup-others n k v [] d e = e
lookup-others n k v (x ∷ xs) d e =
    either (cases_eq n x.0)
    (λ (same : n ≡ x.0). let off : is_at (nat_cmp k) x.0 ≡ false =
    key-other k x.0 (λ (t : k ≡ x.0). d (t ∙ sym same)) in
    rw (key-same n x.0 same) (rw off at e))
    (λ (other : n ≢ x.0). rw (key-other n x.0 other)
    (front-when (is_at (nat_cmp k)) (is_at (nat_cmp k) x.0) x.1 v (lookup (is_at (nat_cmp k)) xs)
    (lookup (is_at (nat_cmp k)) (remove_entry (is_at (nat_cmp n)) xs)) (lookup-others n k v xs d) e))

pub push-all : {X : Type 0} (P : X → Type 0) (xs : List X) (x : X) → AllByRecursion P xs → P x
    → AllByRecursion P (xs ++ x ∷ [])
push-all P [] x h p = (p, tt)
push-all P (y ∷ xs) x h p = (h.0, push-all P xs x h.1 p)

pub weaker : {X : Type 0} (P Q : X → Type 0) (xs : List X) → ((x : X) → P x → Q x) → AllByRecursion P xs
    → AllByRecursion Q xs
weaker P Q [] f h = tt
weaker P Q (x ∷ xs) f h = (f x h.0, weaker P Q xs f h.1)

-- ---- what is made of a list, element by element

-- one value in front of others, or none
abbrev pub ahead : {Y : Type 0} → Option Y → List Y → List Y
ahead None ys = ys
ahead (Some y) ys = y ∷ ys

by_value : {Y : Type 0} (o : Option Y) (ys : List Y) → cons_option o ys ≡ ahead o ys
by_value None ys = refl
by_value (Some y) ys = refl

pub made-cons : {X Y : Type 0} (f : X → Option Y) (x : X) (xs : List X)
    → filter_map f (x ∷ xs) ≡ ahead (f x) (filter_map f xs)
made-cons f x xs = by_value (f x) (filter_map f xs)

pub made-same : {X Y : Type 0} (f g : X → Option Y) (xs : List X) → AllByRecursion (λ x. g x ≡ f x) xs
    → filter_map g xs ≡ filter_map f xs
made-same f g [] h = refl
made-same f g (x ∷ xs) h =
    made-cons g x xs ∙ (ap (λ o. ahead o (filter_map g xs)) h.0
    ∙ (ap (ahead (f x)) (made-same f g xs h.1) ∙ sym (made-cons f x xs)))

pub made-push : {X Y : Type 0} (f : X → Option Y) (xs : List X) (x : X) (y : Y) → f x ≡ Some y
    → filter_map f (xs ++ x ∷ []) ≡ filter_map f xs ++ y ∷ []
made-push f xs x y e =
    filter_map-append f xs (x ∷ []) ∙ ap (λ ys. filter_map f xs ++ ys) (made-cons f x [] ∙ ap (λ o. ahead o []) e)

ahead-mapped : {Y Z : Type 0} (h : Y → Z) (o : Option Y) (ys : List Y)
    → ahead (option_map h o) (map h ys) ≡ map h (ahead o ys)
ahead-mapped h None ys = refl
ahead-mapped h (Some y) ys = refl

pub made-mapped : {X Y : Type 0} (f g : X → Option Y) (h : Y → Y) (xs : List X) → ((x : X) → g x ≡ option_map h (f x))
    → filter_map g xs ≡ map h (filter_map f xs)
made-mapped f g h [] e = refl
made-mapped f g h (x ∷ xs) e =
    made-cons g x xs ∙ (ap (λ o. ahead o (filter_map g xs)) (e x)
    ∙ (ap (ahead (option_map h (f x))) (made-mapped f g h xs e)
    ∙ (ahead-mapped h (f x) (filter_map f xs) ∙ ap (map h) (sym (made-cons f x xs)))))

cond-map : {Y : Type 0} (h : Y → Y) (b : Bool) (y : Y) (ys : List Y)
    → map h (cond b (y ∷ ys) ys) ≡ cond b (h y ∷ map h ys) (map h ys)
cond-map h true y ys = refl
cond-map h false y ys = refl

-- a test that a change leaves as it is
pub filter-mapped : {Y : Type 0} (test : Y → Bool) (h : Y → Y) (ys : List Y) → ((y : Y) → test (h y) ≡ test y)
    → filter test (map h ys) ≡ map h (filter test ys)
filter-mapped test h [] e = refl
filter-mapped test h (y ∷ ys) e =
    rw (e y, filter-mapped test h ys e) (sym (cond-map h (test y) y (filter test ys)))

both-when : {Y : Type 0} (p q : Y → Bool) (b : Bool) (y : Y) (ys zs : List Y) → q y ≡ b → filter q ys ≡ zs
    → filter q (cond (p y) (y ∷ ys) ys) ≡ cond (p y) (cond b (y ∷ zs) zs) zs
both-when p q b y ys zs e f = when (p y)
  where
    when : (a : Bool) → filter q (cond a (y ∷ ys) ys) ≡ cond a (cond b (y ∷ zs) zs) zs
    when true = rw (e, f) refl
    when false = f

turn : {Y : Type 0} (a b : Bool) (y : Y) (zs : List Y) → cond a (cond b (y ∷ zs) zs) zs ≡ cond b (cond a (y ∷ zs) zs) zs
turn true true y zs = refl
turn true false y zs = refl
turn false true y zs = refl
turn false false y zs = refl

pub filter-turned : {Y : Type 0} (p q : Y → Bool) (ys : List Y) → filter q (filter p ys) ≡ filter p (filter q ys)
filter-turned p q [] = refl
filter-turned p q (y ∷ ys) =
    both-when p q (q y) y (filter p ys) (filter p (filter q ys)) refl (filter-turned p q ys)
    ∙ (turn (p y) (q y) y (filter p (filter q ys))
    ∙ sym (both-when q p (p y) y (filter q ys) (filter p (filter q ys)) refl refl))

pub filter-push : {Y : Type 0} (test : Y → Bool) (ys : List Y) (y : Y) (b : Bool) → test y ≡ b
    → filter test (ys ++ y ∷ []) ≡ filter test ys ++ cond b (y ∷ []) []
filter-push test ys y b e = filter-append test ys (y ∷ []) ∙ ap (λ (c : Bool). filter test ys ++ cond c (y ∷ []) []) e
