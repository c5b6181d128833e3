-- Chains of aliases.
use Rattle.std.proofs.Common.{ℕ, zero, suc, ◌≡◌, ◌<◌, ◌≤◌, ◌+◌, ◌-◌, true, false, List, [], ◌∷◌, length, eqb, sym, ap, refl, subst, ⊎_elim, arith}
use Rattle.std.specs.List.{IsDistinct, AllByRecursion, list_any}
use Rattle.std.proofs.lemmas.Bool.{ne_eqb, cases_lt, cases_Bool, or_cases}
use Rattle.std.proofs.lemmas.Map.Steps.{length-le_from_distinct_below}
use Rattle.std.proofs.lemmas.Bool.Decides.{Decides-eqb}
use Rattle.tc_graph.proofs.BareSteps.{bare-none, bare-goes, bare-ends}
use Rattle.tc_graph.specs.declared.node.Node.{Node}
use Rattle.tc_graph.specs.Nodes.{node_at, is_alias, edge}
use Rattle.tc_graph.specs.Aliases.{bare, bare_within, AliasChain, IsInLoop}
use Rattle.tc_graph.specs.Whole.{EdgesLeadInside, IsWhole}

-- the numbers that a function gives below n, the last first
abbrev pub listed : (ℕ → ℕ) → ℕ → List ℕ
listed f zero = []
listed f (suc n) = f n ∷ listed f n

length-listed : (f : ℕ → ℕ) (n : ℕ) → length (listed f n) ≡ n
length-listed f zero = refl
length-listed f (suc n) = ap suc (length-listed f n)

-- what is among them is one of them
listed-has : (f : ℕ → ℕ) (n q : ℕ) → list_any (eqb q) (listed f n) ≡ true → (k : ℕ) × (k < n) × (q ≡ f k)
listed-has f zero q e = absurd (let n : ⊥ = cc in n)
listed-has f (suc n) q e =
    ⊎_elim
    (λ (h : eqb q (f n) ≡ true). (n, omega arith, (Decides-eqb q (f n)).0 h))
    (λ (h : list_any (eqb q) (listed f n) ≡ true). let o = listed-has f n q h in (o.0, omega (arith, o.1), o.2))
    (or_cases (eqb q (f n)) (list_any (eqb q) (listed f n)) e)

listed-apart : (f : ℕ → ℕ) (n q : ℕ) → ((k : ℕ) → k < n → q ≡ f k → ⊥) → AllByRecursion (λ y. eqb q y ≡ false) (listed f n)
listed-apart f zero q apart = tt
listed-apart f (suc n) q apart =
    (ne_eqb q (f n) (apart n (omega arith)), listed-apart f n q (λ k l. apart k (omega (arith, l))))

listed-distinct : (f : ℕ → ℕ) (n : ℕ) → ((i j : ℕ) → i < j → j < n → f i ≡ f j → ⊥) → IsDistinct eqb (listed f n)
unfolding IsDistinct
listed-distinct f zero apart = tt
listed-distinct f (suc n) apart =
    (listed-apart f n (f n) (λ k l e. apart k n l (omega arith) (sym e)), listed-distinct f n (λ i j l h. apart i j l (omega (arith, h))))

-- more numbers than there is room for: two of them are equal
pub crowded : (n : ℕ) (f : ℕ → ℕ) → ((k : ℕ) → k ≤ n → f k < n) → ((i j : ℕ) → i < j → j ≤ n → f i ≡ f j → ⊥) → ⊥
crowded n f below apart =
    let d : IsDistinct eqb (listed f (suc n)) = listed-distinct f (suc n) (λ i j l h. apart i j l (omega (arith, h))) in
    let le : length (listed f (suc n)) ≤ n =
    length-le_from_distinct_below (listed f (suc n)) n d
    (λ q e. let h = listed-has f (suc n) q e in rw h.2 (below h.0 (omega (arith, h.1)))) in
    omega (arith, le, length-listed f (suc n))

-- ---- chains

-- the place behind so many first edges
pub follow : ℕ → List Node → ℕ → ℕ
follow zero g i = i
follow (suc n) g i = follow n g (edge (node_at g i) 0)

pub chain-follow : (n : ℕ) (g : List Node) (i j : ℕ) → AliasChain n g i j → follow n g i ≡ j
unfolding AliasChain follow
chain-follow zero g i j c = c
chain-follow (suc n) g i j c = chain-follow n g (edge (node_at g i) 0) j c.1

-- a sum that computes by its first part
abbrev more : ℕ → ℕ → ℕ
more zero n = n
more (suc m) n = suc (more m n)

more-is : (m n : ℕ) → more m n ≡ n + m
more-is zero n = omega arith
more-is (suc m) n = let e : more m n ≡ n + m = more-is m n in omega (arith, e)

at-sum : (m n : ℕ) (g : List Node) (i j : ℕ) → m ≡ n → AliasChain m g i j → AliasChain n g i j
at-sum m n g i j e c = subst (λ (x : ℕ). AliasChain x g i j) e c

then_more : (m n : ℕ) (g : List Node) (i j k : ℕ) → AliasChain m g i j → AliasChain n g j k → AliasChain (more m n) g i k
unfolding AliasChain
then_more zero n g i j k c d = rw c d
then_more (suc m) n g i j k c d = (c.0, then_more m n g (edge (node_at g i) 0) j k c.1 d)

front_more : (m n : ℕ) (g : List Node) (i k : ℕ) → AliasChain (more m n) g i k → AliasChain m g i (follow m g i)
unfolding AliasChain follow
front_more zero n g i k c = refl
front_more (suc m) n g i k c = (c.0, front_more m n g (edge (node_at g i) 0) k c.1)

back_more : (m n : ℕ) (g : List Node) (i k : ℕ) → AliasChain (more m n) g i k → AliasChain n g (follow m g i) k
unfolding AliasChain follow
back_more zero n g i k c = c
back_more (suc m) n g i k c = back_more m n g (edge (node_at g i) 0) k c.1

chain-then : (m n : ℕ) (g : List Node) (i j k : ℕ) → AliasChain m g i j → AliasChain n g j k → AliasChain (n + m) g i k
chain-then m n g i j k c d = at-sum (more m n) (n + m) g i k (more-is m n) (then_more m n g i j k c d)

-- the front of a chain, and what is behind it
chain-front : (m n : ℕ) (g : List Node) (i k : ℕ) → AliasChain (n + m) g i k → AliasChain m g i (follow m g i)
chain-front m n g i k c = front_more m n g i k (at-sum (n + m) (more m n) g i k (sym (more-is m n)) c)

chain-back : (m n : ℕ) (g : List Node) (i k : ℕ) → AliasChain (n + m) g i k → AliasChain n g (follow m g i) k
chain-back m n g i k c = back_more m n g i k (at-sum (n + m) (more m n) g i k (sym (more-is m n)) c)

chain-within : (n : ℕ) (g : List Node) (i j : ℕ) → EdgesLeadInside g → i < length g → AliasChain n g i j → j < length g
unfolding AliasChain
chain-within zero g i j w l c = rw (← c) l
chain-within (suc n) g i j w l c =
    chain-within n g (edge (node_at g i) 0) j w (w.within i 0 l (omega (arith, w.aliases i l c.0))) c.1

-- ---- going over a chain step by step

pub chain-none : (g : List Node) (i : ℕ) → AliasChain 0 g i i
unfolding AliasChain
chain-none g i = refl

chain-one : (g : List Node) (j : ℕ) → is_alias (node_at g j) ≡ true → AliasChain 1 g j (edge (node_at g j) 0)
unfolding AliasChain
chain-one g j a = (a, refl)

pub chain-more : (n : ℕ) (g : List Node) (i j : ℕ) → AliasChain n g i j → is_alias (node_at g j) ≡ true
    → AliasChain (n + 1) g i (edge (node_at g j) 0)
chain-more n g i j c a =
    let step : AliasChain 1 g j (edge (node_at g j) 0) = chain-one g j a in
    at-sum (1 + n) (n + 1) g i _ (omega arith) (chain-then n 1 g i j _ c step)

chain-alias : (n : ℕ) (g : List Node) (i j : ℕ) → AliasChain (suc n) g i j → is_alias (node_at g i) ≡ true
unfolding AliasChain
chain-alias n g i j c = c.0

-- no way back within so many steps, and then no alias
pub ends-apart : (n : ℕ) (g : List Node) (i j : ℕ) → AliasChain n g i j → ((k : ℕ) → k < n → AliasChain (suc k) g i i → ⊥)
    → is_alias (node_at g j) ≡ false → IsInLoop g i → ⊥
ends-apart n g i j c none no_alias back =
    ⊎_elim
    (λ (lt : back.0 < n). none back.0 lt back.1)
    (λ (ge : n ≤ back.0).
    let r = back.0 - n in
    let whole : AliasChain (suc r + n) g i i = at-sum (suc back.0) (suc r + n) g i i (omega arith) back.1 in
    let rest : AliasChain (suc r) g (follow n g i) i = chain-back n (suc r) g i i whole in
    let same : follow n g i ≡ j = chain-follow n g i j c in
    let yes : is_alias (node_at g j) ≡ true = rw same at (chain-alias r g (follow n g i) i rest) in
    cc (yes, no_alias))
    (cases_lt back.0 n)

-- no way back within as many steps as there are nodes
pub never-back : (g : List Node) (i : ℕ) → EdgesLeadInside g → i < length g
    → ((k : ℕ) → k < length g → AliasChain (suc k) g i i → ⊥) → IsInLoop g i → ⊥
never-back g i w l none back =
    ⊎_elim
    (λ (lt : back.0 < length g). none back.0 lt back.1)
    (λ (ge : length g ≤ back.0).
    let front : (k : ℕ) → k ≤ length g → AliasChain k g i (follow k g i) =
    λ k h. chain-front k (suc back.0 - k) g i i (at-sum (suc back.0) (suc back.0 - k + k) g i i (omega (arith, h, ge)) back.1) in
    crowded (length g) (λ k. follow k g i)
    (λ k h. chain-within k g i (follow k g i) w l (front k h))
    (λ p q less h same.
    let t = suc back.0 - p in
    let home : AliasChain t g (follow p g i) i =
    chain-back p t g i i (at-sum (suc back.0) (t + p) g i i (omega (arith, less, h, ge)) back.1) in
    let round : AliasChain (t + q) g i i = chain-then q t g i (follow q g i) i (front q h) (rw same at home) in
    let longer : AliasChain (suc (q - p - 1) + suc back.0) g i i = at-sum _ _ g i i (omega (arith, less, h, ge)) round in
    let again : AliasChain (suc (q - p - 1)) g (follow (suc back.0) g i) i =
    chain-back (suc back.0) (suc (q - p - 1)) g i i longer in
    none (q - p - 1) (omega (arith, less, h)) (rw (chain-follow (suc back.0) g i i back.1) at again)))
    (cases_lt back.0 (length g))

-- ---- aliases end

chain-cons : (n : ℕ) (g : List Node) (i j : ℕ) → is_alias (node_at g i) ≡ true → AliasChain n g (edge (node_at g i) 0) j
    → AliasChain (suc n) g i j
unfolding AliasChain
chain-cons n g i j a c = (a, c)

bare-chain : (n : ℕ) (g : List Node) (i : ℕ) → is_alias (node_at g (bare_within n g i)) ≡ true
    → AliasChain n g i (bare_within n g i)
bare-chain zero g i a = rw (bare-none g i) (chain-none g i)
bare-chain (suc n) g i a =
    ⊎_elim
    (λ (yes : is_alias (node_at g i) ≡ true).
    let e : bare_within (suc n) g i ≡ bare_within n g (edge (node_at g i) 0) = bare-goes n g i yes in
    rw e (chain-cons n g i _ yes (bare-chain n g (edge (node_at g i) 0) (rw e at a))))
    (λ (none : is_alias (node_at g i) ≡ false).
    let e : bare_within (suc n) g i ≡ i = bare-ends (suc n) g i none in
    absurd (let both : is_alias (node_at g i) ≡ true = rw e at a in let n : ⊥ = cc (both, none) in n))
    (cases_Bool (is_alias (node_at g i)))

-- where no loop is made of aliases, none is left once they are removed
pub bare-no_alias : (g : List Node) (i : ℕ) → IsWhole g → i < length g → is_alias (node_at g (bare g i)) ≡ false
bare-no_alias g i w l =
    ⊎_elim
    (λ (yes : is_alias (node_at g (bare g i)) ≡ true).
    let c : AliasChain (length g) g i (bare g i) = bare-chain (length g) g i yes in
    let front : (k : ℕ) → k ≤ length g → AliasChain k g i (follow k g i) =
    λ k h. chain-front k (length g - k) g i (bare g i) (at-sum (length g) (length g - k + k) g i _ (omega (arith, h)) c) in
    absurd (crowded (length g) (λ k. follow k g i)
    (λ k h. chain-within k g i (follow k g i) w.closed l (front k h))
    (λ p q less h same.
    let there : AliasChain (q - p) g (follow p g i) (follow q g i) =
    chain-back p (q - p) g i _ (at-sum q (q - p + p) g i _ (omega (arith, less)) (front q h)) in
    let round : AliasChain (suc (q - p - 1)) g (follow p g i) (follow p g i) =
    at-sum (q - p) (suc (q - p - 1)) g _ _ (omega (arith, less)) (rw (← same) at there) in
    w.no_loops (follow p g i)
    (chain-within p g i (follow p g i) w.closed l (front p (omega (arith, less, h)))) (q - p - 1, round))))
    (λ (none : is_alias (node_at g (bare g i)) ≡ false). none)
    (cases_Bool (is_alias (node_at g (bare g i))))
