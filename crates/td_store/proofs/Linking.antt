-- What each call leaves of the rings, over plain lists of joints.
use Rattle.std.proofs.Common.{◌≡◌, ℕ, ◌+◌, ◌*◌, ◌<◌, Bool, true, false, cond, List, [], ◌∷◌, ◌++◌, length, set, get_or}
use Rattle.std.proofs.Common.{sym, ap, ◌∙◌, subst, arith}
use Rattle.std.proofs.lemmas.List.{get_or_read, length-set}
use Rattle.td_store.specs.declared.joint.Joint.{Joint}
use Rattle.td_store.specs.Rings.{loop, joint_at, IsLink, with_last, AreRingsOf, AreLinked}
use Rattle.td_store.specs.Slabs.{is_in, without}
use Rattle.td_store.proofs.Wiring.{Rewired, rewired, is-rewired, before-in, after-in}
use Rattle.td_store.proofs.Leaving.{fits-left}
use Rattle.td_store.proofs.Entering.{fits-entered}
use Rattle.td_store.proofs.Growing.{fits-same, three-more}

pub unlinks : (js : List Joint) (l : AreLinked js) (x : ℕ) (j s t v : Joint) → x < length js → IsLink x → j ≡ get_or js x j
    → s ≡ get_or js j.before s → t ≡ get_or (set js j.before (record s { after = j.after })) j.after t → v ≡ loop x
    → AreRingsOf (rewired js j.before j.after j.after j.before x v s t) (λ k. without x (l.0 k))
unlinks js l x j s t v lx link ej es et ev =
    let e : j ≡ joint_at js x = get_or_read js x j lx ej (loop x) in
    let la : j.before < length js = subst (λ (z : Joint). z.before < length js) (sym e) (before-in js l.0 x l.1 lx) in
    let lc : j.after < length js = subst (λ (z : Joint). z.after < length js) (sym e) (after-in js l.0 x l.1 lx) in
    let lc_one : j.after < length (set js j.before (record s { after = j.after })) =
    omega (arith, length-set js j.before (record s { after = j.after })) in
    let ms : List Joint = rewired js j.before j.after j.after j.before x v s t in
    let first : Rewired js ms j.before j.after j.after j.before x v =
    is-rewired js j.before j.after j.after j.before x v s t la lc lx (get_or_read js j.before s la es (loop j.before))
    (get_or_read (set js j.before (record s { after = j.after })) j.after t lc_one et (loop j.after)) in
    let second : Rewired js ms j.before j.after j.after j.before x (loop x) =
    subst (λ (z : Joint). Rewired js ms j.before j.after j.after j.before x z) ev first in
    fits-left js ms l.0 x l.1 link
    (subst (λ (z : Joint). Rewired js ms z.before z.after z.after z.before x (loop x)) e second)

pub appends : (js : List Joint) (l : AreLinked js) (x e : ℕ) (j s t : Joint) → x < length js → IsLink x
    → ((k : ℕ) → is_in x (l.0 k) ≡ false) → 3 * e < length js → j ≡ get_or js (3 * e) j → s ≡ get_or js j.before s
    → t ≡ get_or (set js j.before (record s { after = x })) (3 * e) t
    → AreRingsOf (rewired js j.before x (3 * e) x x (record { after = 3 * e; before = j.before; ring = 3 * e }) s t)
    (with_last e x l.0)
appends js l x e j s t lx link off le ej es et =
    let eq : j ≡ joint_at js (3 * e) = get_or_read js (3 * e) j le ej (loop (3 * e)) in
    let la : j.before < length js =
    subst (λ (z : Joint). z.before < length js) (sym eq) (before-in js l.0 (3 * e) l.1 le) in
    let lc_one : 3 * e < length (set js j.before (record s { after = x })) =
    omega (arith, length-set js j.before (record s { after = x })) in
    let ms : List Joint =
    rewired js j.before x (3 * e) x x (record { after = 3 * e; before = j.before; ring = 3 * e }) s t in
    let first : Rewired js ms j.before x (3 * e) x x (record { after = 3 * e; before = j.before; ring = 3 * e }) =
    is-rewired js j.before x (3 * e) x x (record { after = 3 * e; before = j.before; ring = 3 * e }) s t la le lx
    (get_or_read js j.before s la es (loop j.before))
    (get_or_read (set js j.before (record s { after = x })) (3 * e) t lc_one et (loop (3 * e))) in
    fits-entered js ms l.0 x e l.1 link off
    (subst (λ (z : Joint). Rewired js ms z.before x (3 * e) x x
    (record { after = 3 * e; before = z.before; ring = 3 * e }))
    eq first)

pub last-in : (js : List Joint) (l : AreLinked js) (x : ℕ) (j : Joint) → x < length js → j ≡ get_or js x j
    → j.before < length js
last-in js l x j lx ej =
    subst (λ (z : Joint). z.before < length js) (sym (get_or_read js x j lx ej (loop x))) (before-in js l.0 x l.1 lx)

pub grows : (js ms : List Joint) (l : AreLinked js) (n : ℕ) (b : Bool) (u v w : Joint) → length js ≡ n → u ≡ loop n
    → v ≡ loop (n + 1) → w ≡ loop (n + 2) → ms ≡ cond b (js ++ u ∷ v ∷ w ∷ []) js → AreRingsOf ms l.0
grows js ms l n true u v w e eu ev ew same =
    fits-same js ms l.0 (λ q.
    ap (λ (z : List Joint). joint_at z q)
    (same ∙ (ap (λ (z : Joint). js ++ z ∷ v ∷ w ∷ []) eu
    ∙ (ap (λ (z : Joint). js ++ loop n ∷ z ∷ w ∷ []) ev
    ∙ ap (λ (z : Joint). js ++ loop n ∷ loop (n + 1) ∷ z ∷ []) ew)))
    ∙ three-more js n q e)
    l.1
grows js ms l n false u v w e eu ev ew same = fits-same js ms l.0 (λ q. ap (λ (z : List Joint). joint_at z q) same) l.1

pub next-in : (js : List Joint) (l : AreLinked js) (x : ℕ) (j : Joint) → x < length js → j ≡ get_or js x j
    → j.after < length js
next-in js l x j lx ej =
    subst (λ (z : Joint). z.after < length js) (sym (get_or_read js x j lx ej (loop x))) (after-in js l.0 x l.1 lx)
