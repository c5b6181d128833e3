-- What the joints say of the places on a chain.
use Rattle.std.proofs.Common.{◌≡◌, ℕ, ◌+◌, ◌*◌, ◌%◌, Bool, true, false, cond, ◌||◌, ◌⊎◌, inl, inr, eqb, List, [], ◌∷◌}
use Rattle.std.proofs.Common.{◌++◌, map, Option, Some, None, refl, sym, ap, ◌∙◌, arith}
use Rattle.std.proofs.lemmas.Bool.{cases_eq, ne_eqb, eq-eqb, or_parts}
use mathlib.Core.Logic.{◌≢◌}
use Rattle.td_store.specs.Rings.{IsLink, Path, ring_is_no_link}
use Rattle.td_store.specs.Slabs.{Slab, chain_of, is_in, first_of}
use Rattle.td_store.specs.Kept.{place_of, next_place, slab_of, has, IsSlab}
use Rattle.td_store.proofs.Core.{either}
use Rattle.td_store.proofs.Keeping.{a_link, first-place, second-place, head_is_in, chain-seen}

closing : (k : ℕ) → next_place (3 * k) ≡ None
closing k =
    let e : eqb ((3 * k) % 3) 0 ≡ true = eq-eqb ((3 * k) % 3) 0 (omega arith) in
    ap (λ (b : Bool). cond b None (Some (place_of (3 * k)))) e

linking : (x : ℕ) → IsLink x → next_place x ≡ Some (place_of x)
linking x l =
    let e : eqb (x % 3) 0 ≡ false = ne_eqb (x % 3) 0 (λ (d : x % 3 ≡ 0). omega arith) in
    ap (λ (b : Bool). cond b None (Some (place_of x))) e

pub first-of : (f : ℕ → ℕ) (from k : ℕ) (xs : List ℕ) → Path f from xs (3 * k)
    → next_place (f from) ≡ first_of (map place_of xs)
first-of f from k [] p = ap next_place p ∙ closing k
first-of f from k (x ∷ xs) p = ap next_place p.0 ∙ linking x p.1.0

pub none-if : (f : ℕ → ℕ) (from k : ℕ) (xs : List ℕ) → Path f from xs (3 * k) → f from ≡ 3 * k → xs ≡ []
none-if f from k [] p e = refl
none-if f from k (x ∷ xs) p e = absurd (ring_is_no_link k x (sym e ∙ p.0) p.1.0)

lacks : (x y : ℕ) (ys : List ℕ) → is_in x (y ∷ ys) ≡ false → is_in x ys ≡ false
lacks x y ys e = (or_parts (eqb y x) (is_in x ys) e).1

pub next-of : (f : ℕ → ℕ) (from k p x other : ℕ) (xs front back : List ℕ) → Path f from xs (3 * k)
    → ((y : ℕ) → IsLink y → place_of y ≡ p → (y ≡ x) ⊎ (y ≡ other)) → is_in other xs ≡ false
    → map place_of xs ≡ front ++ p ∷ back → next_place (f x) ≡ first_of back
next-of f from k p x other [] [] back path sides off e = absurd (cc)
next-of f from k p x other [] (w ∷ ws) back path sides off e = absurd (cc)
next-of f from k p x other (y ∷ ys) [] back path sides off e =
    let at : place_of y ≡ p = cc in
    let rest : map place_of ys ≡ back = cc in
    either (sides y path.1.0 at)
    (λ (d : y ≡ x). ap (λ z. next_place (f z)) (sym d) ∙ (first-of f y k ys path.1.1 ∙ ap first_of rest))
    (λ (d : y ≡ other). absurd (head_is_in other y ys d off))
next-of f from k p x other (y ∷ ys) (w ∷ ws) back path sides off e =
    let rest : map place_of ys ≡ ws ++ p ∷ back = cc in
    next-of f y k p x other ys ws back path.1.1 sides (lacks other y ys off) rest

pub sides_first : (p y : ℕ) → IsLink y → place_of y ≡ p → (y ≡ 3 * p + 1) ⊎ (y ≡ 3 * p + 2)
sides_first p y l e =
    either (a_link y l)
    (λ (d : y ≡ 3 * place_of y + 1). inl (omega arith))
    (λ (d : y ≡ 3 * place_of y + 2). inr (omega arith))

pub sides_second : (p y : ℕ) → IsLink y → place_of y ≡ p → (y ≡ 3 * p + 2) ⊎ (y ≡ 3 * p + 1)
sides_second p y l e =
    either (a_link y l)
    (λ (d : y ≡ 3 * place_of y + 1). inr (omega arith))
    (λ (d : y ≡ 3 * place_of y + 2). inl (omega arith))

or-true : (b : Bool) → (b || true) ≡ true
or-true true = refl
or-true false = refl

or-swap : (a b c d : Bool) → ((a || b) || (c || d)) ≡ ((a || c) || (b || d))
or-swap true b c d = refl
or-swap false true true d = refl
or-swap false true false d = refl
or-swap false false c d = refl

here : (p y : ℕ) → IsLink y → eqb (place_of y) p ≡ (eqb y (3 * p + 1) || eqb y (3 * p + 2))
here p y l =
    either (cases_eq (place_of y) p)
    (λ (e : place_of y ≡ p). eq-eqb (place_of y) p e ∙ either (sides_first p y l e)
    (λ (d : y ≡ 3 * p + 1). sym (ap (λ b. b || eqb y (3 * p + 2)) (eq-eqb y (3 * p + 1) d)))
    (λ (d : y ≡ 3 * p + 2). sym
    (ap (λ b. eqb y (3 * p + 1) || b) (eq-eqb y (3 * p + 2) d) ∙ or-true (eqb y (3 * p + 1)))))
    (λ (n : place_of y ≢ p).
    let one : eqb y (3 * p + 1) ≡ false =
    ne_eqb y (3 * p + 1) (λ (d : y ≡ 3 * p + 1). n (ap place_of d ∙ first-place p)) in
    let two : eqb y (3 * p + 2) ≡ false =
    ne_eqb y (3 * p + 2) (λ (d : y ≡ 3 * p + 2). n (ap place_of d ∙ second-place p)) in
    ne_eqb (place_of y) p n ∙ sym (ap (λ b. b || eqb y (3 * p + 2)) one ∙ two))

pub on-chain : (f : ℕ → ℕ) (from to p : ℕ) (xs : List ℕ) → Path f from xs to
    → is_in p (map place_of xs) ≡ (is_in (3 * p + 1) xs || is_in (3 * p + 2) xs)
on-chain f from to p [] path = refl
on-chain f from to p (y ∷ ys) path =
    let rest : is_in p (map place_of ys) ≡ (is_in (3 * p + 1) ys || is_in (3 * p + 2) ys) =
    on-chain f y to p ys path.1.1 in
    ap (λ b. eqb (place_of y) p || b) rest
    ∙ (ap (λ b. b || (is_in (3 * p + 1) ys || is_in (3 * p + 2) ys)) (here p y path.1.0)
    ∙ or-swap (eqb y (3 * p + 1)) (eqb y (3 * p + 2)) (is_in (3 * p + 1) ys) (is_in (3 * p + 2) ys))

pub or-none : (a b : Bool) → a ≡ false → b ≡ false → (a || b) ≡ false
or-none a b e d = ap (λ t. t || b) e ∙ d

-- a place that has no value is on no chain
pub off-chain : {T : Type 0} (slots : List (Option T)) (rings : ℕ → List ℕ) (n count c p : ℕ) (f : ℕ → ℕ) (v : Slab T)
    → IsSlab slots rings n count → ((k : ℕ) → Path f (3 * k) (rings k) (3 * k)) → slab_of slots rings count ≡ v
    → has slots p ≡ false → is_in p (chain_of v.chains c) ≡ false
off-chain slots rings n count c p f v s paths e h =
    ap (is_in p) (chain-seen slots rings n count c v s e)
    ∙ (on-chain f (3 * (c + 1)) (3 * (c + 1)) p (rings (c + 1)) (paths (c + 1))
    ∙ or-none (is_in (3 * p + 1) (rings (c + 1))) (is_in (3 * p + 2) (rings (c + 1)))
    (s.first_off p (c + 1) h (omega arith)) (s.second_off p (c + 1) h))
