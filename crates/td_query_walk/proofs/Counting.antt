-- The count of faults over calls of peers.
use Rattle.std.proofs.Common.{◌≡◌, ℕ, suc, Bool, true, false, ◌+◌, ◌-◌, ◌^◌, ◌≤◌, min, List, [], ◌∷◌, ◌++◌}
use Rattle.std.proofs.Common.{append-nil, append_assoc, refl}
use Rattle.std.proofs.Common.{sym, ap, subst, ◌∙◌, arith, Result, Ok, Err}
use Rattle.std.proofs.lemmas.List.{append_cancel_left}
use Rattle.td_typecode.specs.declared.code.Any.{Any}
use Rattle.td_typecode.specs.declared.reference.Ior.{Ior}
use Rattle.td_out.specs.Causes.{Rose}
use Rattle.td_walk.specs.Peering.{Exchange, PeerAnswer, IsNoted, PeerCall, Answered, Evaluated, Referred, Failed}
use Rattle.td_walk.specs.declared.answer.SubAnswer.{SubAnswer}
use Rattle.td_walk.specs.declared.fault.PeerFault.{PeerFault}
use Rattle.td_walk.specs.declared.fault.PeerFault.TheVariants as fault
use Rattle.td_walk.specs.declared.trace.TraceItem.{TraceItem}
use Rattle.td_walk.specs.declared.trace.TraceItem.TheVariants as item
use Rattle.td_query_walk.proofs.Walked.{shown-append}
use Rattle.td_query_walk.specs.FaultExamples.{WorkedFaults, answered_exchange, unreached_exchange}
use Rattle.td_query_walk.specs.Faults.{CountsFaults, CountsOver, RoseBetween, RoseIfFailed, failures}
use Rattle.td_query_walk.specs.WalkLaws.{ShowsCalls}
use Rattle.td_query_walk.specs.Walks.{given_in, peer_answers}

-- ---- calls one after the other

if-failed-earlier : (g : PeerAnswer) (a b c : ℕ) → a ≤ b → RoseIfFailed g b c → RoseIfFailed g a c
if-failed-earlier (Answered x) a b c p q = tt
if-failed-earlier (Evaluated x) a b c p q = tt
if-failed-earlier (Referred x) a b c p q = tt
if-failed-earlier (Failed f) a b c p q = omega (arith, p, q)

earlier : (xs : List Exchange) (a b c : ℕ) → a ≤ b → CountsOver xs b c → CountsOver xs a c
earlier [] a b c p q = omega (arith, p, q)
earlier (x ∷ xs) a b c p q =
    let first = q.1 in
    (q.0, omega (arith, p, first), if-failed-earlier x.gave a b q.0 p q.2, q.3)

pub counts-on : (xs ys : List Exchange) (a b c : ℕ) → CountsOver xs a b → CountsOver ys b c
    → CountsOver (xs ++ ys) a c
counts-on [] ys a b c p q = earlier ys a b c p q
counts-on (x ∷ xs) ys a b c p q = (p.0, p.1, p.2, counts-on xs ys p.0 b c p.3 q)

pub counts-up : (xs : List Exchange) (a b : ℕ) → CountsOver xs a b → a ≤ b
counts-up [] a b p = p
counts-up (x ∷ xs) a b p =
    let first = p.1 in
    let rest = counts-up xs p.0 b p.3 in
    omega (arith, first, rest)

-- over the first calls, and from there over the others
split : (xs ys : List Exchange) (a c : ℕ) → CountsOver (xs ++ ys) a c
    → (b : ℕ) × CountsOver xs a b × CountsOver ys b c
split [] ys a c p = (a, omega arith, p)
split (x ∷ xs) ys a c p =
    let rest = split xs ys p.0 c p.3 in
    (rest.0, (p.0, p.1, p.2, rest.1), rest.2)

-- ---- two moments

pub counted-on : (a b c : List Exchange) (first second third : ℕ) → CountsFaults a b first second
    → CountsFaults b c second third → CountsFaults a c first third
counted-on a b c first second third p q = record {
  made = p.made ++ q.made;
  calls = q.calls ∙ (ap (λ x. x ++ q.made) p.calls ∙ append_assoc a p.made q.made);
  count = counts-on p.made q.made first second third p.count q.count;
}

pub counted-up : (before after : List Exchange) (faults now : ℕ) → CountsFaults before after faults now → faults ≤ now
counted-up before after faults now p = counts-up p.made faults now p.count

-- however the calls that were made are named
pub counts-made : (before after : List Exchange) (faults now : ℕ) → CountsFaults before after faults now
    → (made : List Exchange) → after ≡ before ++ made → CountsOver made faults now
counts-made before after faults now c made is =
    subst (λ (xs : List Exchange). CountsOver xs faults now)
    (append_cancel_left before c.made made (sym c.calls ∙ is)) c.count

-- nothing was done
pub counted-none : (calls : List Exchange) (faults : ℕ) → CountsFaults calls calls faults faults
counted-none calls faults = record { made = []; calls = sym (append-nil calls); count = omega arith }

abbrev is_failure : PeerAnswer → Bool
is_failure (Failed f) = true
is_failure other = false

not-failed : (g : PeerAnswer) (a b : ℕ) → is_failure g ≡ false → RoseIfFailed g a b
not-failed (Answered x) a b h = tt
not-failed (Evaluated x) a b h = tt
not-failed (Referred x) a b h = tt
not-failed (Failed f) a b h = absurd (let bad : ⊥ = cc in bad)

-- one call was made, or none
module _ (call : PeerCall) (before after : List Exchange) (faults now : ℕ) (up : faults ≤ now) where
  one-counted : (g : PeerAnswer) → after ≡ before ++ record { call = call; gave = g } ∷ [] → RoseIfFailed g faults now
      → CountsFaults before after faults now
  one-counted g calls rose = record {
    made = record { call = call; gave = g } ∷ [];
    calls = calls;
    count = (now, up, rose, omega arith);
  }

counted-call : (X : Type 0) (given : X → PeerAnswer) (call : PeerCall) (before after : List Exchange) (faults now : ℕ)
    (r : Result X PeerFault) → ((x : X) → is_failure (given x) ≡ false)
    → IsNoted given call before after faults now r → CountsFaults before after faults now
counted-call X given call before after faults now (Ok x) good h =
    one-counted call before after faults now h.later (given x) h.calls (not-failed (given x) faults now (good x))
counted-call X given call before after faults now (Err fault.Memory) good h = record {
  made = [];
  calls = h.calls;
  count = h.later;
}
counted-call X given call before after faults now (Err fault.Wire) good h =
    one-counted call before after faults now h.later (Failed fault.Wire) h.calls h.cause
counted-call X given call before after faults now (Err fault.Grammar) good h =
    one-counted call before after faults now h.later (Failed fault.Grammar) h.calls h.cause
counted-call X given call before after faults now (Err fault.Exception) good h =
    one-counted call before after faults now h.later (Failed fault.Exception) h.calls h.cause

module _ (call : PeerCall) (before after : List Exchange) (faults now : ℕ) where
  pub query-counted : (r : Result SubAnswer PeerFault) → IsNoted (λ a. Answered a) call before after faults now r
      → CountsFaults before after faults now
  query-counted r h = counted-call SubAnswer (λ a. Answered a) call before after faults now r (λ a. refl) h

  pub value-counted : (r : Result Any PeerFault) → IsNoted (λ v. Evaluated v) call before after faults now r
      → CountsFaults before after faults now
  value-counted r h = counted-call Any (λ v. Evaluated v) call before after faults now r (λ v. refl) h

  pub register-counted : (r : Result Ior PeerFault) → IsNoted (λ x. Referred x) call before after faults now r
      → CountsFaults before after faults now
  register-counted r h = counted-call Ior (λ x. Referred x) call before after faults now r (λ x. refl) h

-- one call that failed
pub one-rose : (call : PeerCall) (f : PeerFault) (calls : List Exchange) (faults now : ℕ)
    → CountsFaults calls (calls ++ record { call = call; gave = Failed f } ∷ []) faults now → Rose faults now
one-rose call f calls faults now c =
    let one : List Exchange = record { call = call; gave = Failed f } ∷ [] in
    let count : CountsOver one faults now = counts-made calls (calls ++ one) faults now c one refl in
    let rose = count.2 in
    let up = count.3 in
    omega (arith, rose, up)

-- ---- the items of a trace

-- the calls that gave the first, and those that gave the others
given-split : (xs : List Exchange) (gs hs : List PeerAnswer) → given_in xs ≡ gs ++ hs
    → (ys : List Exchange) × (zs : List Exchange) × (xs ≡ ys ++ zs) × (given_in ys ≡ gs) × (given_in zs ≡ hs)
given-split xs [] hs e = ([], xs, refl, refl, e)
given-split [] (g ∷ gs) hs e = absurd (let bad : ⊥ = cc in bad)
given-split (x ∷ xs) (g ∷ gs) hs e =
    let same : x.gave ≡ g = cc in
    let rest : given_in xs ≡ gs ++ hs = cc in
    let s = given-split xs gs hs rest in
    (x ∷ s.0, s.1, ap (λ t. x ∷ t) s.2, cc, s.4)

one-failed : (xs : List Exchange) (f : PeerFault) (gs : List PeerAnswer) → given_in xs ≡ Failed f ∷ gs
    → (x : Exchange) × (ys : List Exchange) × (xs ≡ x ∷ ys) × (x.gave ≡ Failed f) × (given_in ys ≡ gs)
one-failed [] f gs e = absurd (let bad : ⊥ = cc in bad)
one-failed (x ∷ xs) f gs e =
    let same : x.gave ≡ Failed f = cc in
    let rest : given_in xs ≡ gs = cc in
    (x, xs, refl, same, rest)

rose-between : (front back : List TraceItem) (f : PeerFault) (made : List Exchange) (faults now : ℕ)
    → given_in made ≡ peer_answers (front ++ item.Failed f ∷ back) → CountsOver made faults now
    → RoseBetween front back faults now
rose-between front back f made faults now e count =
    let s = given-split made (peer_answers front) (Failed f ∷ peer_answers back)
    (e ∙ shown-append front (item.Failed f ∷ back)) in
    let o = one-failed s.1 f (peer_answers back) s.4 in
    let is : made ≡ s.0 ++ o.0 ∷ o.1 = s.2 ∙ ap (λ t. s.0 ++ t) o.2 in
    let c = split s.0 (o.0 ∷ o.1) faults now (subst (λ (xs : List Exchange). CountsOver xs faults now) is count) in
    record {
      earlier = s.0;
      later = o.1;
      until = c.0;
      next = c.2.0;
      asked_earlier = s.3;
      count_earlier = c.1;
      rose = subst (λ (g : PeerAnswer). RoseIfFailed g c.0 c.2.0) o.3 c.2.2;
      asked_later = o.4;
      count_later = c.2.3;
    }

-- the calls that items show are those over which the count went
same-made : (items : List TraceItem) (before after : List Exchange) (faults now : ℕ) (s : ShowsCalls items before after)
    (c : CountsFaults before after faults now) → given_in c.made ≡ peer_answers items
same-made items before after faults now s c =
    ap given_in (append_cancel_left before c.made s.made (sym c.calls ∙ s.calls)) ∙ s.asked

pub failed-each : (front back : List TraceItem) (f : PeerFault) (before after : List Exchange) (faults now : ℕ)
    → ShowsCalls (front ++ item.Failed f ∷ back) before after → CountsFaults before after faults now
    → RoseBetween front back faults now
failed-each front back f before after faults now s c =
    rose-between front back f c.made faults now
    (same-made (front ++ item.Failed f ∷ back) before after faults now s c) c.count

-- ---- how many failed

abbrev failed_in : List PeerAnswer → ℕ
failed_in [] = 0
failed_in (Failed f ∷ gs) = suc (failed_in gs)
failed_in (g ∷ gs) = failed_in gs

failed-shown : (is : List TraceItem) → failed_in (peer_answers is) ≡ failures is
failed-shown [] = refl
failed-shown (item.Search k p m ∷ is) = failed-shown is
failed-shown (item.Repeat k p m ∷ is) = failed-shown is
failed-shown (item.Refused k p ∷ is) = failed-shown is
failed-shown (item.Path k p ∷ is) = failed-shown is
failed-shown (item.Evaluated v ∷ is) = failed-shown is
failed-shown (item.Unreachable ∷ is) = failed-shown is
failed-shown (item.Outside a ∷ is) = failed-shown is
failed-shown (item.Failed f ∷ is) = ap (λ k. suc k) (failed-shown is)
failed-shown (item.Leave ∷ is) = failed-shown is

higher-one : (g : PeerAnswer) (gs : List PeerAnswer) (faults next now : ℕ) → faults ≤ next → RoseIfFailed g faults next
    → min (next + failed_in gs) (2 ^ 64 - 1) ≤ now → min (faults + failed_in (g ∷ gs)) (2 ^ 64 - 1) ≤ now
higher-one (Answered x) gs faults next now p q r = omega (arith, p, r)
higher-one (Evaluated x) gs faults next now p q r = omega (arith, p, r)
higher-one (Referred x) gs faults next now p q r = omega (arith, p, r)
higher-one (Failed f) gs faults next now p q r = omega (arith, p, q, r)

higher : (xs : List Exchange) (faults now : ℕ) → CountsOver xs faults now
    → min (faults + failed_in (given_in xs)) (2 ^ 64 - 1) ≤ now
higher [] faults now c = omega (arith, c)
higher (x ∷ xs) faults now c = higher-one x.gave (given_in xs) faults c.0 now c.1 c.2 (higher xs c.0 now c.3)

pub failed-all : (items : List TraceItem) (before after : List Exchange) (faults now : ℕ)
    → ShowsCalls items before after → CountsFaults before after faults now
    → min (faults + failures items) (2 ^ 64 - 1) ≤ now
failed-all items before after faults now s c =
    let count : failed_in (given_in c.made) ≡ failures items =
    ap failed_in (same-made items before after faults now s c) ∙ failed-shown items in
    subst (λ (k : ℕ). min (faults + k) (2 ^ 64 - 1) ≤ now) count (higher c.made faults now c.count)

-- ---- worked examples

not-as-it-was : CountsOver (answered_exchange ∷ unreached_exchange ∷ []) 3 3 → ⊥
not-as-it-was c =
    let a = c.1 in
    let b = c.3.2 in
    let d = c.3.3 in
    omega (arith, a, b, d)

not-before : CountsOver (unreached_exchange ∷ answered_exchange ∷ []) 3 3 → ⊥
not-before c =
    let a = c.2 in
    let b = c.3.1 in
    let d = c.3.3 in
    omega (arith, a, b, d)

not-once : CountsOver (unreached_exchange ∷ unreached_exchange ∷ []) 3 4 → ⊥
not-once c =
    let a = c.2 in
    let b = c.3.2 in
    let d = c.3.3 in
    omega (arith, a, b, d)

pub worked : WorkedFaults
worked = record {
  one_of_two = (3, omega arith, tt, (4, omega arith, omega arith, omega arith));
  not_as_it_was = not-as-it-was;
  not_before = not-before;
  not_once_for_two = not-once;
  none_failed = (4, omega arith, tt, omega arith);
  not_back = λ c. omega (arith, c);
  last = (2 ^ 64 - 1, omega arith, omega arith, omega arith);
  items = refl;
}
