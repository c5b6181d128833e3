-- Schedules, event by event.
use Rattle.std.proofs.Common.{◌≡◌, ◌⊎◌, inl, inr, ℕ, zero, suc, ◌+◌, Bool, true, false, List, [], ◌∷◌, ◌++◌, refl, sym}
use Rattle.std.proofs.Common.{◌∙◌, ap, subst, take, drop, slice_get, arith}
use Rattle.std.specs.Prelude.{Option, None, Some, Result, Ok, Err}
use Rattle.td_net.specs.Schedules.{AcceptsAll, IsFirstRefused, IsChecked, more, none}
use Rattle.td_net.specs.Worlds.{Becomes, Closing, Moved, OnAs, OnBy, Refused, EventResult, TakenAs, World, fault_in}
use Rattle.td_net.specs.Worlds.{fault_of}
use Rattle.td_net.specs.Worlds.{step_of}
use Rattle.td_net.specs.declared.event.Event.{Event}
use Rattle.td_net.specs.declared.event.NetFault.{NetFault}
use Rattle.td_net.specs.declared.event.NetFault.TheVariants.{Memory}

-- the events before this place are accepted, and these are left
pub record Passed (w : World) (events rest : List Event) (place : ℕ) (v : World) : Type 0 where
  pub accepted : AcceptsAll w (take place events) v
  pub left : rest ≡ drop place events

taken-goes : (w : World) (t : EventResult) (u : World) → TakenAs w t (Ok tt) u → (fault_in t ≡ None) × Becomes w t u
taken-goes w (Refused f) u h = absurd h
taken-goes w (Moved v) u h = (refl, h)
taken-goes w (Closing v c k l rs ss) u h = (refl, h)

taken-fault : (w : World) (t : EventResult) (f : NetFault) (u : World) → TakenAs w t (Err f) u
    → (fault_in t ≡ Some f) ⊎ (f ≡ Memory)
taken-fault w (Refused g) f u h = inl (ap (λ z. Some z) (sym h.0))
taken-fault w (Moved v) f u h = inr h.0
taken-fault w (Closing v c k l rs ss) f u h = inr h.0

by-taken : (b : Bool) (w : World) (t : EventResult) (u : World) → OnBy b w t (Ok tt) u → (fault_in t ≡ None) × Becomes w t u
by-taken true w t u h = absurd (let bad : ◌≡◌ {A = Result Unit NetFault} (Ok tt) (Err Memory) = h.0 in cc)
by-taken false w t u h = taken-goes w t u h.0

by-refused : (b : Bool) (w : World) (t : EventResult) (f : NetFault) (u : World) → OnBy b w t (Err f) u
    → (fault_in t ≡ Some f) ⊎ (f ≡ Memory)
by-refused true w t f u h =
    let bad : ◌≡◌ {A = Result Unit NetFault} (Err f) (Err Memory) = h.0 in inr (let e : f ≡ Memory = cc in e)
by-refused false w t f u h = taken-fault w t f u h.0

-- one event more is accepted
one-more : {w v u : World} (es : List Event) (e : Event) → AcceptsAll w es v → fault_of v e ≡ None
    → Becomes v (step_of v e) u → AcceptsAll w (es ++ e ∷ []) u
one-more [] e none taken becomes = more taken becomes none
one-more (d ∷ es) e (more t b rest) taken becomes = more t b (one-more es e rest taken becomes)

next-is : (es rest : List Event) (n : ℕ) (e : Event) → e ∷ rest ≡ drop n es → slice_get es n ≡ Some e
next-is [] rest zero e is = absurd cc
next-is [] rest (suc n) e is = absurd cc
next-is (x ∷ es) rest zero e is = ap (λ z. Some z) (let same : x ≡ e = cc in same)
next-is (x ∷ es) rest (suc n) e is = next-is es rest n e is

next-taken : (es rest : List Event) (n : ℕ) (e : Event) → e ∷ rest ≡ drop n es → take (suc n) es ≡ take n es ++ e ∷ []
next-taken [] rest zero e is = absurd cc
next-taken [] rest (suc n) e is = absurd cc
next-taken (x ∷ es) rest zero e is = ap (λ z. z ∷ []) (let same : x ≡ e = cc in same)
next-taken (x ∷ es) rest (suc n) e is = ap (λ z. x ∷ z) (next-taken es rest n e is)

next-left : (es rest : List Event) (n : ℕ) (e : Event) → e ∷ rest ≡ drop n es → rest ≡ drop (suc n) es
next-left [] rest zero e is = absurd cc
next-left [] rest (suc n) e is = absurd cc
next-left (x ∷ es) rest zero e is = let same : rest ≡ es = cc in same
next-left (x ∷ es) rest (suc n) e is = next-left es rest n e is

all-taken : (es : List Event) (n : ℕ) → [] ≡ drop n es → take n es ≡ es
all-taken [] zero is = refl
all-taken [] (suc n) is = refl
all-taken (x ∷ es) zero is = absurd cc
all-taken (x ∷ es) (suc n) is = ap (λ z. x ∷ z) (all-taken es n is)

-- before any event
pub passed-none : (w : World) (events rest : List Event) (place : ℕ) → rest ≡ events → place ≡ 0
    → Passed w events rest place w
passed-none w events rest place all first =
    subst (λ n. Passed w events rest n w) (sym first) (record { accepted = none; left = all })

-- an event that `on` took was accepted
pub passed-on : (w v u : World) (events before rest : List Event) (place next : ℕ) (e : Event)
    → Passed w events before place v → before ≡ e ∷ rest → next ≡ place + 1 → OnAs v e (Ok tt) u
    → Passed w events rest next u
passed-on w v u events before rest place next e h is count on =
    let goes = by-taken v.no_memory_outcome v (step_of v e) u on in
    let left : e ∷ rest ≡ drop place events = sym is ∙ h.left in
    let longer : AcceptsAll w (take (suc place) events) u =
    subst (λ z. AcceptsAll w z u) (sym (next-taken events rest place e left))
    (one-more (take place events) e h.accepted goes.0 goes.1) in
    let number : suc place ≡ next = omega (arith, count) in
    subst (λ n. Passed w events rest n u) number
    (record { accepted = longer; left = next-left events rest place e left })

-- one that it refused was not, or it ran out of memory
pub first-refused : (w v u : World) (events before rest : List Event) (place at : ℕ) (e : Event) (f : NetFault)
    → Passed w events before place v → before ≡ e ∷ rest → at ≡ place → OnAs v e (Err f) u
    → IsFirstRefused w events at f
first-refused w v u events before rest place at e f h is same on =
    subst (λ n. IsFirstRefused w events n f) (sym same)
    (record {
      before = v;
      accepted = h.accepted;
      event = e;
      stands = next-is events rest place e (sym is ∙ h.left);
      refused = by-refused v.no_memory_outcome v (step_of v e) f u on;
    })

-- none is left
pub all-passed : (w v : World) (events : List Event) (place : ℕ) → Passed w events [] place v
    → (u : World) × AcceptsAll w events u
all-passed w v events place h = (v, subst (λ z. AcceptsAll w z v) (all-taken events place h.left) h.accepted)
