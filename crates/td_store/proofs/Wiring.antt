-- Two joints are led to new ones, and then a third is written: what unlinking and appending do.
use Rattle.std.proofs.Common.{◌≡◌, ℕ, ◌<◌, ◌≤◌, List, length, set, refl, sym, ap, ◌∙◌, arith}
use Rattle.std.proofs.lemmas.List.{length-set}
use Rattle.std.proofs.lemmas.Bool.{cases_eq, cases_lt}
use mathlib.Core.Logic.{◌≢◌}
use Rattle.td_store.specs.declared.joint.Joint.{Joint}
use Rattle.td_store.specs.Rings.{joint_at, after, before, ring, AreRingsOf}
use Rattle.td_store.proofs.Core.{either}
use Rattle.td_store.proofs.Sets.{at-same, at-other, at-past}

-- ---- one field of one joint is written

-- a part of a joint that the write keeps
kept : {Y : Type 0} (part : Joint → Y) (js : List Joint) (i q : ℕ) (u v : Joint) → i < length js → u ≡ joint_at js i
    → part v ≡ part u → part (joint_at (set js i v) q) ≡ part (joint_at js q)
kept part js i q u v l e p =
    either (cases_eq q i)
    (λ (s : q ≡ i). rw s (ap part (at-same js i v l) ∙ (p ∙ ap part e)))
    (λ (n : q ≢ i). ap part (at-other js i q v n))

-- ---- all three writes

-- from js to ms, the joint a leads forward to v, the joint c back to w, and the joint x is j
pub record Rewired (js ms : List Joint) (a v c w x : ℕ) (j : Joint) : Type 0 where
  pub own : joint_at ms x ≡ j
  pub after_at : a ≢ x → after ms a ≡ v
  pub after_others : (q : ℕ) → q ≢ x → q ≢ a → after ms q ≡ after js q
  pub before_at : c ≢ x → before ms c ≡ w
  pub before_others : (q : ℕ) → q ≢ x → q ≢ c → before ms q ≡ before js q
  pub ring_others : (q : ℕ) → q ≢ x → ring ms q ≡ ring js q

abbrev pub rewired : List Joint → ℕ → ℕ → ℕ → ℕ → ℕ → Joint → Joint → Joint → List Joint
rewired js a v c w x j s t = set (set (set js a (record s { after = v })) c (record t { before = w })) x j

pub is-rewired : (js : List Joint) (a v c w x : ℕ) (j s t : Joint) → a < length js → c < length js → x < length js
    → s ≡ joint_at js a → t ≡ joint_at (set js a (record s { after = v })) c
    → Rewired js (rewired js a v c w x j s t) a v c w x j
is-rewired js a v c w x j s t la lc lx es et =
    let one : List Joint = set js a (record s { after = v }) in
    let two : List Joint = set one c (record t { before = w }) in
    let len_one : length one ≡ length js = length-set js a (record s { after = v }) in
    let len_two : length two ≡ length one = length-set one c (record t { before = w }) in
    let lc_one : c < length one = omega arith in
    let after_two : (q : ℕ) → after two q ≡ after one q =
    λ q. kept (λ z. z.after) one c q t (record t { before = w }) lc_one et refl in
    let before_one : (q : ℕ) → before one q ≡ before js q =
    λ q. kept (λ z. z.before) js a q s (record s { after = v }) la es refl in
    let ring_two : (q : ℕ) → ring two q ≡ ring js q =
    λ q. kept (λ z. z.ring) one c q t (record t { before = w }) lc_one et refl
    ∙ kept (λ z. z.ring) js a q s (record s { after = v }) la es refl in
    record {
      own = at-same two x j (omega arith);
      after_at =
          λ n. ap (λ z. z.after) (at-other two x a j n)
          ∙ (after_two a ∙ ap (λ z. z.after) (at-same js a (record s { after = v }) la));
      after_others =
          λ q n m. ap (λ z. z.after) (at-other two x q j n)
          ∙ (after_two q ∙ ap (λ z. z.after) (at-other js a q (record s { after = v }) m));
      before_at =
          λ n. ap (λ z. z.before) (at-other two x c j n)
          ∙ ap (λ z. z.before) (at-same one c (record t { before = w }) lc_one);
      before_others =
          λ q n m. ap (λ z. z.before) (at-other two x q j n)
          ∙ (ap (λ z. z.before) (at-other one c q (record t { before = w }) m) ∙ before_one q);
      ring_others = λ q n. ap (λ z. z.ring) (at-other two x q j n) ∙ ring_two q;
    }

-- ---- no index leads past the end

pub before-in : (js : List Joint) (rings : ℕ → List ℕ) (x : ℕ) → AreRingsOf js rings → x < length js → before js x < length js
before-in js rings x f l =
    either (cases_lt (before js x) (length js))
    (λ (h : before js x < length js). h)
    (λ (h : length js ≤ before js x).
    let same : x ≡ before js x = sym (f.back x) ∙ ap (λ z. z.after) (at-past js (before js x) h) in
    absurd (omega arith))

pub after-in : (js : List Joint) (rings : ℕ → List ℕ) (x : ℕ) → AreRingsOf js rings → x < length js → after js x < length js
after-in js rings x f l =
    either (cases_lt (after js x) (length js))
    (λ (h : after js x < length js). h)
    (λ (h : length js ≤ after js x).
    let same : x ≡ after js x = sym (f.forth x) ∙ ap (λ z. z.before) (at-past js (after js x) h) in
    absurd (omega arith))
