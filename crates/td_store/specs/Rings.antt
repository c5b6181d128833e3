-- Rings of joints. Joint 3k closes ring k; every other joint is a link.
use Rattle.std.specs.Prelude.{◌≡◌, ℕ, ◌+◌, ◌*◌, ◌%◌, ◌<◌, ◌⊎◌, false, ◌==◌, List, [], ◌∷◌, ◌++◌, cond, slice_index_or}
use Rattle.std.specs.Prelude.{refl}
use Rattle.std.specs.Coded.{×_prop, le_prop, Coded-set, coded_ℕ, coded_bool}
use Rattle.std.proofs.Common.{sym, ◌∙◌, ap, arith}
use mathlib.Core.HLevel.{Σ_prop_path}
use mathlib.Core.Path.{fun_ext}
use Rattle.td_store.specs.Slabs.{is_in, without}
use Rattle.td_store.specs.declared.joint.Joint.{Joint}

-- a joint on no ring
abbrev pub loop : ℕ → Joint
loop q = record { after = q; before = q; ring = q }

-- the joint at an index; past the end, one on no ring
abbrev pub joint_at : List Joint → ℕ → Joint
joint_at js q = slice_index_or js q (loop q)

abbrev pub after : List Joint → ℕ → ℕ
after js q = (joint_at js q).after

abbrev pub before : List Joint → ℕ → ℕ
before js q = (joint_at js q).before

abbrev pub ring : List Joint → ℕ → ℕ
ring js q = (joint_at js q).ring

-- a link, and no joint that closes a ring
abbrev pub IsLink : ℕ → Type 0
IsLink q = 0 < q % 3

-- over f one comes from a joint through just these links to another joint
abbrev pub Path : (ℕ → ℕ) → ℕ → List ℕ → ℕ → Type 0
Path f from [] to = f from ≡ to
Path f from (x ∷ xs) to = (f from ≡ x) × (IsLink x × Path f x xs to)

-- the rings with one more link at the end of ring e
abbrev pub with_last : ℕ → ℕ → (ℕ → List ℕ) → ℕ → List ℕ
with_last e x rings k = cond (k == e) (rings k ++ x ∷ []) (rings k)

-- the rings with both links of a place, each at the end of one
abbrev pub with_links : (place first second : ℕ) → (ℕ → List ℕ) → ℕ → List ℕ
with_links place first second rings = with_last second (3 * place + 2)
    (with_last first (3 * place + 1) rings)

-- the rings without a link
abbrev pub left : ℕ → (ℕ → List ℕ) → ℕ → List ℕ
left link rings k = without link (rings k)

-- the rings with a place among the free ones
abbrev pub with_free : (place : ℕ) → (ℕ → List ℕ) → ℕ → List ℕ
with_free place rings = with_last 0 (3 * place + 1)
    (left (3 * place + 2) (left (3 * place + 1) rings))

-- there are as many joints as before, or three more since there were too few for these rows
abbrev pub GrowsFor : (rows old new : ℕ) → Type 0
GrowsFor rows old new = (new ≡ old) ⊎ ((old < 3 * rows) × (new ≡ old + 3))

-- the rings are those that the joints make
pub record AreRingsOf (js : List Joint) (rings : ℕ → List ℕ) : Type 0 where
  pub forth : (q : ℕ) → before js (after js q) ≡ q
  pub back : (q : ℕ) → after js (before js q) ≡ q
  pub paths : (k : ℕ) → Path (after js) (3 * k) (rings k) (3 * k)
  pub owned : (k q : ℕ) → IsLink q → is_in q (rings k) ≡ (ring js q == 3 * k)
  pub alone : (q : ℕ) → IsLink q → ((k : ℕ) → is_in q (rings k) ≡ false) → after js q ≡ q

-- the joints make rings, and which ones
abbrev pub AreLinked : List Joint → Type 0
AreLinked js = (rings : ℕ → List ℕ) × AreRingsOf js rings

-- ---- there is one such family of rings at most

-- a joint that closes a ring is no link
pub ring_is_no_link : (k y : ℕ) → 3 * k ≡ y → IsLink y → ⊥
ring_is_no_link k y e l = omega arith

pub same_path : (f : ℕ → ℕ) (from k : ℕ) (xs ys : List ℕ) → Path f from xs (3 * k)
    → Path f from ys (3 * k) → xs ≡ ys
same_path f from k [] [] p q = refl
same_path f from k [] (y ∷ ys) p q = absurd (ring_is_no_link k y (sym p ∙ q.0) q.1.0)
same_path f from k (x ∷ xs) [] p q = absurd (ring_is_no_link k x (sym q ∙ p.0) p.1.0)
same_path f from k (x ∷ xs) (y ∷ ys) p q =
    let e : x ≡ y = sym p.0 ∙ q.0 in
    let rest : Path f x ys (3 * k) = rw e q.1.1 in
    ap (λ h. h ∷ xs) e ∙ ap (λ t. y ∷ t) (same_path f x k xs ys p.1.1 rest)

ℕ-set : IsSet ℕ
ℕ-set = Coded-set coded_ℕ

Path-prop : (f : ℕ → ℕ) (from : ℕ) (xs : List ℕ) (to : ℕ) → IsProp (Path f from xs to)
Path-prop f from [] to = ℕ-set (f from) to
Path-prop f from (x ∷ xs) to = ×_prop (ℕ-set (f from) x) (×_prop le_prop (Path-prop f x xs to))

Fits-prop : (js : List Joint) (rings : ℕ → List ℕ) → IsProp (AreRingsOf js rings)
Fits-prop js rings = hlevel (ℕ-set, Coded-set coded_bool, le_prop, Path-prop)

pub Linked-prop : (js : List Joint) → IsProp (AreLinked js)
Linked-prop js l m =
    Σ_prop_path (Fits-prop js)
    (fun_ext (λ k. same_path (after js) (3 * k) k (l.0 k) (m.0 k) (l.1.paths k) (m.1.paths k)))

-- and so they are any family that fits
pub rings_are : (js : List Joint) (l : AreLinked js) (rings : ℕ → List ℕ) → AreRingsOf js rings
    → (k : ℕ)
    → l.0 k ≡ rings k
rings_are js l rings f k = ap (λ (z : AreLinked js). z.0 k) (Linked-prop js l (rings, f))
