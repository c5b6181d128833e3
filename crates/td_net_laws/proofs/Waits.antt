-- Who waits for whom: the caller of a call whose answer is to come waits for it, and a call that goes along a path has
-- one sub-call at most.
use Rattle.std.proofs.Common.{◌≡◌, ℕ, ◌<◌, List, [], ◌∷◌, ◌++◌, length, slice_get, slice_set, Option, Some, None}
use Rattle.std.proofs.Common.{Bool, false, refl, sym, ◌∙◌, ap, subst, ◌⊎◌, inl, inr}
use Rattle.td_typecode.specs.declared.reference.Ior.{Ior}
use Rattle.td_net.specs.declared.call.Call.{Call}
use Rattle.td_net.specs.declared.call.Delivery.{Delivery}
use Rattle.td_net.specs.declared.call.Stage.{Stage}
use Rattle.td_net.specs.declared.call.Stage.TheVariants.{Sent, Running, Evaluating, Waiting, Ended}
use Rattle.td_net_laws.proofs.Places.{get-set_other, get-set_same, get-set, get-more, get-append}
use Rattle.td_net_laws.proofs.Rights.{CallerRight, Rights, visits_by}

abbrev pub IsWaiting : Stage → (sub : ℕ) → Type 0
IsWaiting Sent d = ⊥
IsWaiting Running d = ⊥
IsWaiting (Evaluating f) d = ⊥
IsWaiting (Waiting f e) d = e ≡ d
IsWaiting (Ended a) d = ⊥

-- the call p waits for the call d
pub record WaitsAt (calls : List Call) (p d : ℕ) : Type 0 where
  pub call : Call
  pub is : slice_get calls p ≡ Some call
  pub waits : IsWaiting call.stage d

abbrev pub Waits : List Call → Type 0
Waits calls =
    (d p : ℕ) (k : Call) → slice_get calls d ≡ Some k → k.caller ≡ Some p → k.handed ≡ false → WaitsAt calls p d

-- no call whose answer is still to come has the caller c
abbrev pub NobodyFor : List Call → ℕ → Type 0
NobodyFor calls c = (d : ℕ) (k : Call) → slice_get calls d ≡ Some k → k.caller ≡ Some c → k.handed ≡ false → ⊥

-- a call without anybody to wait for is written anew
pub waits-set : (calls : List Call) (c : ℕ) (k m : Call) → Waits calls → slice_get calls c ≡ Some k
    → NobodyFor calls c → m.caller ≡ k.caller → (m.handed ≡ false → k.handed ≡ false) → Waits (slice_set calls c m)
waits-set calls c k m waits is nobody caller handed d p x here by open_yet = go (get-set calls c d k m x is here)
  where
    other : (p ≡ c → ⊥) → WaitsAt calls p d → WaitsAt (slice_set calls c m) p d
    other differ w = record { call = w.call; is = get-set_other calls c p m differ ∙ w.is; waits = w.waits }

    here_too : k.caller ≡ Some p → k.handed ≡ false → WaitsAt (slice_set calls c m) p c
    here_too by_k open_k =
        let w = waits c p k is by_k open_k in record {
          call = w.call;
          is = get-set_other calls c p m (λ e. nobody c k is (by_k ∙ ap Some e) open_k) ∙ w.is;
          waits = w.waits;
        }

    go : ((d ≡ c) × (m ≡ x)) ⊎ ((d ≡ c → ⊥) × (slice_get calls d ≡ Some x)) → WaitsAt (slice_set calls c m) p d
    go (inl e) =
        let by_k : k.caller ≡ Some p = sym caller ∙ (ap (λ (z : Call). z.caller) e.1 ∙ by) in
        let open_k : k.handed ≡ false = handed (ap (λ (z : Call). z.handed) e.1 ∙ open_yet) in
        subst (λ z. WaitsAt (slice_set calls c m) p z) (sym e.0) (here_too by_k open_k)
    go (inr e) = other (λ q. nobody d x e.1 (by ∙ ap Some q) open_yet) (waits d p x e.1 by open_yet)

-- a call is opened by one that now waits for it
pub waits-open : (calls : List Call) (m : Call) → Waits calls
    → ((p : ℕ) → m.caller ≡ Some p → WaitsAt calls p (length calls)) → Waits (calls ++ m ∷ [])
waits-open calls m waits new d p x here by open_yet =
    elim (get-append calls m d x here) as (λ z. WaitsAt (calls ++ m ∷ []) p d) [
      | inl e ↦
          subst (λ z. WaitsAt (calls ++ m ∷ []) p z) (sym e.0)
          (more (length calls) (new p (ap (λ (z : Call). z.caller) e.1 ∙ by)))
      | inr e ↦ more d (waits d p x e by open_yet)
    ]
  where
    more : (d : ℕ) → WaitsAt calls p d → WaitsAt (calls ++ m ∷ []) p d
    more d w = record { call = w.call; is = get-more calls (m ∷ []) p w.call w.is; waits = w.waits }

-- ---- sub-calls of paths

-- a call that was refused or goes along a path has one sub-call at most
abbrev pub Kids : List Call → Type 0
Kids calls =
    (x y p : ℕ) (kx ky kp : Call) (d : Delivery) → slice_get calls x ≡ Some kx → slice_get calls y ≡ Some ky
    → slice_get calls p ≡ Some kp → kx.caller ≡ Some p → ky.caller ≡ Some p → kp.delivery ≡ Some d
    → visits_by kp d ≡ false → x ≡ y

abbrev pub NoKids : List Call → ℕ → Type 0
NoKids calls p = (x : ℕ) (k : Call) → slice_get calls x ≡ Some k → k.caller ≡ Some p → ⊥

-- a call that wasn't delivered has no sub-calls
pub none-yet : (calls : List Call) (inside : Ior → Option ℕ) (p : ℕ) (ws : List ℕ) (k : Call) → Rights calls inside ws
    → slice_get calls p ≡ Some k → k.delivery ≡ None → NoKids calls p
none-yet calls inside p ws k rights is none x m here by =
    let c : CallerRight calls x m (Some p) = subst (λ z. CallerRight calls x m z) by (rights x m here).caller in
    let same : c.call ≡ k = (let e = c.is in cc) in
    let d : k.delivery ≡ Some c.delivery =
    subst (λ (z : Call). z.delivery ≡ Some c.delivery) same c.delivered in absurd (cc)

-- whose caller a call has, after one was written anew
pub caller-old : (calls : List Call) (c x : ℕ) (k m y : Call) (p : ℕ) → slice_get calls c ≡ Some k
    → m.caller ≡ k.caller → slice_get (slice_set calls c m) x ≡ Some y → y.caller ≡ Some p
    → (z : Call) × (slice_get calls x ≡ Some z) × (z.caller ≡ Some p)
caller-old calls c x k m y p is same here by =
    elim (get-set calls c x k m y is here)
    as (λ o. (z : Call) × (slice_get calls x ≡ Some z) × (z.caller ≡ Some p)) [
      | inl e ↦ (
        k,
        subst (λ z. slice_get calls z ≡ Some k) (sym e.0) is,
        sym same ∙ (ap (λ (z : Call). z.caller) e.1 ∙ by),
      )
      | inr e ↦ (y, e.1, by)
    ]

-- a call is written anew: its delivery and its query stay, or it has no sub-calls
pub kids-set : (calls : List Call) (c : ℕ) (k m : Call) → Kids calls → slice_get calls c ≡ Some k
    → m.caller ≡ k.caller → m.query ≡ k.query → (m.delivery ≡ k.delivery) ⊎ NoKids calls c
    → Kids (slice_set calls c m)
kids-set calls c k m kids is same query either x y p kx ky kp d hx hy hp bx by del path =
    let ox = caller-old calls c x k m kx p is same hx bx in
    let oy = caller-old calls c y k m ky p is same hy by in
    elim (get-set calls c p k m kp is hp) as (λ o. x ≡ y) [
      | inl e ↦ go either ox oy e
      | inr e ↦ kids x y p ox.0 oy.0 kp d ox.1 oy.1 e.1 ox.2 oy.2 del path
    ]
  where
    go : (m.delivery ≡ k.delivery) ⊎ NoKids calls c
        → ((z : Call) × (slice_get calls x ≡ Some z) × (z.caller ≡ Some p))
        → ((z : Call) × (slice_get calls y ≡ Some z) × (z.caller ≡ Some p)) → (p ≡ c) × (m ≡ kp) → x ≡ y
    go (inl s) ox oy e =
        kids x y p ox.0 oy.0 k d ox.1 oy.1 (subst (λ z. slice_get calls z ≡ Some k) (sym e.0) is) ox.2 oy.2
        (sym s ∙ (ap (λ (z : Call). z.delivery) e.1 ∙ del))
        (sees k kp d (sym query ∙ ap (λ (z : Call). z.query) e.1) path)
      where
        sees : (a b : Call) (d : Delivery) → a.query ≡ b.query → visits_by b d ≡ false → visits_by a d ≡ false
        sees a b d same h = rw same h
    go (inr s) ox oy e = absurd (s x ox.0 ox.1 (ox.2 ∙ ap Some e.0))

-- a call is opened by none, or by one that isn't of this kind, or by one that has no sub-calls
pub kids-open : (calls : List Call) (m : Call) → Kids calls → m.delivery ≡ None
    → ((p : ℕ) → m.caller ≡ Some p
    → NoKids calls p ⊎ ((k : Call) (d : Delivery) → slice_get calls p ≡ Some k → k.delivery ≡ Some d
    → visits_by k d ≡ false → ⊥)) → Kids (calls ++ m ∷ [])
kids-open calls m kids none new x y p kx ky kp d hx hy hp bx by del path =
    go (get-append calls m p kp hp) (get-append calls m x kx hx) (get-append calls m y ky hy)
  where
    fresh : (z : ℕ) (kz : Call) → slice_get calls z ≡ Some kz → kz.caller ≡ Some p → m.caller ≡ Some p
        → slice_get calls p ≡ Some kp → ⊥
    fresh z kz hz bz bm here =
        elim (new p bm) as (λ o. ⊥) [
          | inl a ↦ a z kz hz bz
          | inr a ↦ a kp d here del path
        ]

    go : ((p ≡ length calls) × (m ≡ kp)) ⊎ (slice_get calls p ≡ Some kp)
        → ((x ≡ length calls) × (m ≡ kx)) ⊎ (slice_get calls x ≡ Some kx)
        → ((y ≡ length calls) × (m ≡ ky)) ⊎ (slice_get calls y ≡ Some ky) → x ≡ y
    go (inl a) b c = absurd (let e : m.delivery ≡ Some d = ap (λ (z : Call). z.delivery) a.1 ∙ del in cc)
    go (inr a) (inl b) (inl c) = b.0 ∙ sym c.0
    go (inr a) (inl b) (inr c) = absurd (fresh y ky c by (ap (λ (z : Call). z.caller) b.1 ∙ bx) a)
    go (inr a) (inr b) (inl c) = absurd (fresh x kx b bx (ap (λ (z : Call). z.caller) c.1 ∙ by) a)
    go (inr a) (inr b) (inr c) = kids x y p kx ky kp d b c a bx by del path
