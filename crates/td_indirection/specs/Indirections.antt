-- An indirection's long, which leads from its own place to that of an earlier kind (CORBA's chapter on the General
-- Inter-ORB Protocol, "TypeCode": "the offset is from the beginning of the offset itself").
use Rattle.std.proofs.Common.{◌≡◌, ℕ, zero, suc, ◌+◌, ◌-◌, ◌^◌, ◌<◌, ◌≤◌, true, false, cond, List, [], ◌∷◌, ◌++◌}
use Rattle.std.proofs.Common.{length, Ok, Err, refl, sym, ap, subst, ◌∙◌, arith, inl, inr, ⊎_elim}
use Rattle.std.specs.Prelude.{nat_eq, slice_index, Option, Some, None}
use Rattle.std.proofs.lemmas.Bool.{cases_Bool, eq-eqb, ne_eqb}
use Rattle.std.proofs.lemmas.List.{length-map, append-nil}
use Rattle.td_cdr.specs.declared.order.Order.{Order}
use Rattle.td_cdr.specs.Gap.{gap}
use Rattle.td_cdr.specs.Place.{At}
use Rattle.td_cdr.specs.Reading.{after}
use Rattle.td_cdr.specs.Spelling.{Joins}
use Rattle.td_cdr.specs.Format.{◌>>=◌, Read}
use Rattle.td_cdr.specs.FormatFaults.{PartialFault}
use Rattle.td_cdr.specs.Faults.{Refuses}
use Rattle.td_cdr.specs.Joined.{bind_ok, done, ok_is}
use Rattle.td_cdr.specs.Refused.{bind_err, read_again}
use Rattle.td_cdr.specs.RefusedFormats.{joins}
use Rattle.td_cdr.specs.Sound.{Sound as Plain}
use Rattle.td_indirection.specs.States.{CodingState, places, ulong_place, with_link, KeepsSlots, AreAlike, IsRising}
use Rattle.td_indirection.specs.Stateful.{StatefulFormat, Transfers, Sound}
use Rattle.td_indirection.specs.Tables.{alike-length, rising-on}

-- the first of these places from which so many bytes lead to a place, counted from a number
abbrev pub number_from : ℕ → List ℕ → ℕ → ℕ → Option ℕ
number_from k [] distance place = None
number_from k (x ∷ xs) distance place =
    cond (nat_eq (x + distance) place) (Some k) (number_from (k + 1) xs distance place)

-- the node to which a long leads; the long is below 0, in two's complement
abbrev pub target : {N : Type 0} → CodingState N → ℕ → ℕ → Option ℕ
target s place n = number_from 0 (places s) (2 ^ 32 - n) (ulong_place s place)

-- the long that leads to a node
abbrev pub long_to : {N : Type 0} → CodingState N → ℕ → ℕ → ℕ
long_to s place j = 2 ^ 32 - (ulong_place s place - slice_index (places s) j)

abbrev pub node_or_fault : {F N : Type 0} → CodingState N → F → At → Option ℕ
    → Read F (ℕ × CodingState N)
node_or_fault s bad next (Some j) = Ok ((j, with_link s), next)
node_or_fault s bad next None = Err bad

-- bad: the fault, by where the long stands
abbrev pub indirection_format : {F N : Type 0} → (At → F) → Plain F ℕ → StatefulFormat F N ℕ
indirection_format bad long = record {
  reads = λ s a. long.format.reads a >>= λ n.
      node_or_fault s (bad a) n.1 (target s (a.place - a.origin) n.0);
  spells = λ s order place v b.
      (n : ℕ) × long.format.spells order place n b × (target s place n ≡ Some v.0)
      × (v.1 ≡ with_link s);
  faults = λ s a. PartialFault long.format.spells (target s (a.place - a.origin))
      (λ n. bad) long.faults a;
  writes = λ graph s j order place. long.format.writes (long_to s place j) order place;
  leaves = λ graph s j order place. with_link s;
}

target-ok : {F N : Type 0} (s : CodingState N) (bad : F) (next : At) (o : Option ℕ)
    (v : ℕ × CodingState N)
    (end : At)
    → node_or_fault s bad next o ≡ Ok (v, end) → (o ≡ Some v.0) × (v.1 ≡ with_link s) × (next ≡ end)
target-ok {F} {N} s bad next (Some j) v end e =
    let same : ((j, with_link s), next) ≡ (v, end) = ok_is {F = F} ((j, with_link s), next)
    (v, end) e in (
      ap (λ (p : (ℕ × CodingState N) × At). Some p.0.0) same,
      sym (ap (λ (p : (ℕ × CodingState N) × At). p.0.1) same),
      ap (λ (p : (ℕ × CodingState N) × At). p.1) same,
    )
target-ok s bad next None v end e = absurd (let n : ⊥ = cc (e) in n)

target-err : {F N : Type 0} (s : CodingState N) (bad f : F) (next : At) (o : Option ℕ)
    → node_or_fault s bad next o ≡ Err f → (o ≡ None) × (f ≡ bad)
target-err s bad f next (Some j) e = absurd (let n : ⊥ = cc (e) in n)
target-err s bad f next None e = (refl, cc)

-- ---- the node to which a long leads

pub number-below : (k : ℕ) (xs : List ℕ) (d q j : ℕ) → number_from k xs d q ≡ Some j
    → j < k + length xs
number-below k [] d q j e = absurd (let n : ⊥ = cc (e) in n)
number-below k (x ∷ xs) d q j e =
    ⊎_elim
    (λ (yes : nat_eq (x + d) q ≡ true).
    let here : Some k ≡ Some j = rw yes at e in let same : k ≡ j = cc (here) in omega (arith, same))
    (λ (none : nat_eq (x + d) q ≡ false).
    let rest : number_from (k + 1) xs d q ≡ Some j = rw none at e in
    let low = number-below (k + 1) xs d q j rest in omega (arith, low))
    (cases_Bool (nat_eq (x + d) q))

number-finds : (k : ℕ) (xs : List ℕ) (d q j : ℕ) → j < length xs → slice_index xs j + d ≡ q
    → ((i : ℕ) → i < j → slice_index xs i + d ≡ q → ⊥) → number_from k xs d q ≡ Some (k + j)
number-finds k [] d q j h e none = absurd (omega (arith, h))
number-finds k (x ∷ xs) d q zero h e none =
    let yes : nat_eq (x + d) q ≡ true = eq-eqb (x + d) q e in
    rw yes (ap (λ (n : ℕ). Some n) (let s : k ≡ k + 0 = omega arith in s))
number-finds k (x ∷ xs) d q (suc j) h e none =
    let not_here : nat_eq (x + d) q ≡ false = ne_eqb (x + d) q (none 0 (omega arith)) in
    let rest : number_from (k + 1) xs d q ≡ Some (k + 1 + j) =
    number-finds (k + 1) xs d q j (omega (arith, h)) e (λ i l. none (suc i) (omega (arith, l))) in
    rw not_here (rest ∙ ap (λ (n : ℕ). Some n) (let s : k + 1 + j ≡ k + suc j = omega arith in s))

-- the long that is written for a node leads to it
pub long-leads : {N : Type 0} (first : ℕ) (s : CodingState N) (p j : ℕ) → IsRising first s p
    → j < length s.table → ulong_place s p < first + 2 ^ 32 → target s p (long_to s p j) ≡ Some j
long-leads first s p j g h small =
    let low = g.below j h in
    let high = g.above j h in
    let count : length (places s) ≡ length s.table = length-map s.table (λ x. x.place) in
    let back_again : 2 ^ 32 - (2 ^ 32 - (ulong_place s p - slice_index (places s) j))
    ≡ ulong_place s p - slice_index (places s) j =
    omega (arith, small, high) in
    let found :
    number_from 0 (places s) (ulong_place s p - slice_index (places s) j) (ulong_place s p)
    ≡ Some (0 + j) =
    number-finds 0 (places s) (ulong_place s p - slice_index (places s) j)
    (ulong_place s p) j (omega (arith, h, count)) (omega (arith, low))
    (λ i l e. let r = g.rising i j l h in omega (arith, e, r, low)) in
    rw back_again (found ∙ ap (λ (n : ℕ). Some n) (let z : 0 + j ≡ j = omega arith in z))

-- ---- the laws

with_link-alike : {N : Type 0} (s u next : CodingState N) → next ≡ with_link s → AreAlike s u
    → AreAlike next (with_link u)
with_link-alike {N} s u next e a =
    subst (λ (t : CodingState N). AreAlike t (with_link u)) (sym e)
    (record { nodes = a.nodes; linked = refl })

pub with_link-grows : {N : Type 0} (s : CodingState N) → KeepsSlots s (with_link s)
with_link-grows s = record { more = []; table = sym (append-nil s.table); base = refl }

with_link-rising : {N : Type 0} (first : ℕ) (s : CodingState N) (p : ℕ) → IsRising first s p
    → IsRising first (with_link s) p
with_link-rising first s p g = record {
  rising = g.rising;
  above = g.above;
  below = g.below;
  reached = g.reached;
}

-- numbers of four bytes; those below 2 ^ 32 are admitted
pub record IsLong {F : Type 0} (long : Plain F ℕ) : Type 0 where
  pub admits : (n : ℕ) → n < 2 ^ 32 → long.format.admits n
  pub size : (n : ℕ) (order : Order) (place : ℕ)
      → gap 4 place < length (long.format.writes n order place)

module _ {F N : Type 0} (bad : At → F) (long : Plain F ℕ) (is : IsLong long) where
  abbrev link : StatefulFormat F N ℕ
  link = indirection_format bad long

  pub indirection-joins : (s : CodingState N) → Joins (link.spells s) (link.reads s)
  indirection-joins s = record {
    found = λ a v next h e.
        let made : (ℕ × CodingState N) × At = (v, next) in
        let x =
        bind_ok (long.format.reads a)
        (λ n. node_or_fault s (bad a) n.1 (target s (a.place - a.origin) n.0)) made e in
        let t = target-ok s (bad a) x.0.1 (target s (a.place - a.origin) x.0.0) v next x.2 in
        let f = long.lawful.found a x.0.0 x.0.1 h x.1 in
        record {
          bytes = f.bytes;
          spelled = (x.0.0, f.spelled, t.0, t.1);
          parts = f.parts ∙ ap (λ (z : At). f.bytes ++ z.rest) t.2;
          moved = sym t.2 ∙ f.moved;
        };
    only = λ a v b rest h p e.
        let one = long.lawful.only a p.0 b rest h p.1 e in
        let same : (v.0, with_link s) ≡ v = ap (λ (t : CodingState N). (v.0, t)) (sym p.3) in
        rw (one, p.2) (ap (λ (w : ℕ × CodingState N). done {F = F} (w, after (length b) a)) same);
  }

  indirection-content : (s : CodingState N) (a : At) (f : F) → a.origin ≤ a.place → link.reads s a
      ≡ Err f
      → link.faults s a f
  indirection-content s a f h e =
      elim (bind_err (long.format.reads a)
      (λ n. node_or_fault s (bad a) n.1 (target s (a.place - a.origin) n.0)) f e) [
        | inl d ↦ PartialFault.unread (long.refuses.content a f h d)
        | inr d ↦ let u = target-err s (bad a) f d.0.1 (target s (a.place - a.origin) d.0.0) d.2 in
            PartialFault.unknown d.0.0 d.0.1 (long.lawful.found a d.0.0 d.0.1 h d.1) u.0 u.1
      ]

  indirection-refused : (s : CodingState N) (a : At) (f : F) → a.origin ≤ a.place
      → link.faults s a f
      → link.reads s a ≡ Err f
  indirection-refused s a f h (PartialFault.unread d) = rw (long.refuses.only a f h d) refl
  indirection-refused s a f h (PartialFault.unknown n next found unknown fault) =
      let one = read_again long.format.spells long.format.reads (joins long.format long.lawful)
      a n next h found in
      rw (one, unknown, fault) refl

  pub indirection-refuses : (s : CodingState N) → Refuses (link.faults s) (link.reads s)
  indirection-refuses s = record { content = indirection-content s; only = indirection-refused s }

  pub indirection-transfers : Transfers link
  indirection-transfers graph first s u order o place p j next b octets sp agrees alike good short =
      let count : length (places s) ≡ length s.table = length-map s.table (λ x. x.place) in
      let same = alike-length s u alike in
      let low = number-below 0 (places s) (2 ^ 32 - sp.0) (ulong_place s place) j sp.2 in
      let there : j < length u.table = omega (arith, low, count, same) in
      let before = good.below j there in
      let room = is.size (long_to u p j) o p in
      let reached = good.reached in
      let small : ulong_place u p < first + 2 ^ 32 = omega (arith, short, room) in
      let fits : long_to u p j < 2 ^ 32 = omega (arith, before) in
      record {
        spelled = (
          long_to u p j,
          long.lawful.written o p (long_to u p j) (is.admits (long_to u p j) fits)
              (omega (arith, short, reached)),
          long-leads first u p j good there small,
          refl,
        );
        alike = with_link-alike s u next sp.3 alike;
        good =
            with_link-rising first u (p + length (long.format.writes (long_to u p j) o p))
            (rising-on first u p (p + length (long.format.writes (long_to u p j) o p))
            (omega arith) good);
      }

  abbrev pub indirection : Sound F N ℕ
  indirection = record {
    format = indirection_format bad long;
    joins = indirection-joins;
    refuses = indirection-refuses;
    grows = λ s order place j next b sp. subst (λ (t : CodingState N). KeepsSlots s t) (sym sp.3)
        (with_link-grows s);
    transfers = indirection-transfers;
  }
