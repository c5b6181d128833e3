-- A part that a tag in front of it chooses, so many parts, and parts behind their number.
use Rattle.std.proofs.Common.{◌≡◌, ℕ, zero, suc, ◌+◌, ◌-◌, ◌<◌, ◌≤◌, List, [], ◌∷◌, ◌++◌, length, drop, Ok}
use Rattle.std.proofs.Common.{refl, ap, subst, ◌∙◌, append_assoc, arith, length-append}
use Rattle.std.proofs.lemmas.List.{drop_at}
use Rattle.td_cdr.specs.declared.order.Order.{Order}
use Rattle.td_cdr.specs.Gap.{gap}
use Rattle.td_cdr.specs.Place.{At}
use Rattle.td_cdr.specs.Reading.{after}
use Rattle.td_cdr.specs.Spelling.{FoundSpelling, SpellsThen}
use Rattle.td_cdr.specs.Format.{◌>>=◌, uncons}
use Rattle.td_cdr.specs.Faults.{ThenFault, Refuses}
use Rattle.td_cdr.specs.Joined.{Found-then, moved-place, after-after, bind_ok, done}
use Rattle.td_cdr.specs.Lawful.{AreOctets}
use Rattle.td_cdr.specs.Octets.{octets-front, octets-back}
use Rattle.td_cdr.specs.Refused.{chain-refuses, moved-on}
use Rattle.td_cdr.specs.RefusedFormats.{joins}
use Rattle.td_cdr.specs.Sound.{Sound as Plain, constant}
use Rattle.td_indirection.specs.States.{CodingState, ulong_place, AreAlike, IsTableOf, IsRising}
use Rattle.td_indirection.specs.Stateful.{StatefulFormat, TaggedFormat, Transfers, TransfersBehind, Sound, TaggedArm}
use Rattle.td_indirection.specs.Tables.{rising-on}
use Rattle.td_indirection.specs.Pairs.{lift, ◌&◌}
use Rattle.td_indirection.specs.Variants.{variant}

-- ---- an arm that doesn't look where its tag stood

abbrev pub arm_format : {F N X : Type 0} → StatefulFormat F N X → TaggedFormat F N X
arm_format t = record {
  reads = λ tag. t.reads;
  spells = λ m. t.spells;
  faults = λ tag. t.faults;
  writes = λ m. t.writes;
  leaves = λ m. t.leaves;
}

pub arm-transfers : {F N X : Type 0} (t : Sound F N X) → TransfersBehind (arm_format t.format)
arm-transfers t graph first m s u order o place before p x next b octets sp agrees alike good far
    short =
    let on = rising-on first u before p (omega (arith, far)) good in
    let w = t.transfers graph first s u order o place p x next b octets sp agrees alike on short in
    record { spelled = w.spelled; alike = w.alike; good = w.good }

abbrev pub arm : {F N X : Type 0} → Sound F N X → TaggedArm F N X
arm t = record {
  format = arm_format t.format;
  joins = λ tag. t.joins;
  refuses = λ tag. t.refuses;
  grows = λ m. t.grows;
  transfers = arm-transfers t;
}

-- ---- a tag, and the arm that it chooses

-- what is written has at least a byte behind its padding
abbrev pub IsSized : {F K : Type 0} → Plain F K → Type 0
IsSized {K = K} tag = (k : K) (order : Order) (place : ℕ)
    → gap 4 place < length (tag.format.writes k order place)

abbrev pub choice_format : {F N K X : Type 0} → Plain F K → (K → TaggedFormat F N X)
    → (List N → CodingState N → X → K) → StatefulFormat F N X
choice_format {K = K} tag arm tag_of = record {
  reads = λ s a. tag.format.reads a >>= λ k. (arm k.0).reads a s k.1;
  spells = λ s order place v b.
      (k : K) × SpellsThen tag.format.spells (λ k. (arm k).spells (ulong_place s place) s)
      order place (k, v) b;
  faults = λ s a. ThenFault tag.format.spells tag.faults (λ k. (arm k).faults a s) a;
  writes = λ graph s x order place.
      tag.format.writes (tag_of graph s x) order place
      ++ (arm (tag_of graph s x)).writes (ulong_place s place) graph s x order
      (place + length (tag.format.writes (tag_of graph s x) order place));
  leaves = λ graph s x order place.
      (arm (tag_of graph s x)).leaves (ulong_place s place) graph s x order
      (place + length (tag.format.writes (tag_of graph s x) order place));
}

-- each value tells the tag under which it is spelled
abbrev pub HasTag : {F N K X : Type 0} → (K → TaggedArm F N X) → (List N → CodingState N → X → K)
    → Type 0
HasTag {N = N} {K = K} {X = X} arms tag_of =
    (k : K) (graph : List N) (m : ℕ) (s u : CodingState N) (order : Order) (place : ℕ) (x : X)
    (next : CodingState N) (b : List ℕ)
    → (arms k).format.spells m s order place (x, next) b → IsTableOf graph next (length s.table)
    → AreAlike s u → k ≡ tag_of graph u x

module _ {F N K X : Type 0} (tag : Plain F K) (sized : IsSized tag) (arms : K → TaggedArm F N X)
    (tag_of : List N → CodingState N → X → K) (content : HasTag arms tag_of) where
  abbrev either : StatefulFormat F N X
  either = choice_format tag (λ k. (arms k).format) tag_of

  pub choice-found : (s : CodingState N) (a : At) (v : X × CodingState N) (next : At) → a.origin
      ≤ a.place
      → either.reads s a ≡ Ok (v, next) → FoundSpelling (either.spells s) a v next
  choice-found s a v next h e =
      let made : (X × CodingState N) × At = (v, next) in
      let k = bind_ok (tag.format.reads a) (λ k. (arms k.0).format.reads a s k.1) made e in
      let f = tag.lawful.found a k.0.0 k.0.1 h k.1 in
      let g =
      ((arms k.0.0).joins a s).found k.0.1 v next (moved-on tag.format.spells a k.0.0 k.0.1 h f)
      k.2 in
      let whole =
      Found-then tag.format.spells
      (λ k. (arms k).format.spells (ulong_place s (a.place - a.origin)) s)
      a k.0.1 next k.0.0 v h f g in
      record {
        bytes = whole.bytes;
        spelled = (k.0.0, whole.spelled);
        parts = whole.parts;
        moved = whole.moved;
      }

  pub choice-only : (s : CodingState N) (a : At) (v : X × CodingState N) (b rest : List ℕ)
      → a.origin ≤ a.place
      → either.spells s a.order (a.place - a.origin) v b → a.rest ≡ b ++ rest
      → either.reads s a ≡ Ok (v, after (length b) a)
  choice-only s a v b rest h p e =
      let k = p.0 in
      let q = p.1 in
      let whole : a.rest ≡ q.front ++ (q.back ++ rest) =
      e ∙ ap (λ (x : List ℕ). x ++ rest) q.parts ∙ append_assoc q.front q.back rest in
      let one = tag.lawful.only a k q.front (q.back ++ rest) h q.spelled whole in
      let left : drop (length q.front) a.rest ≡ q.back ++ rest =
      rw whole (drop_at q.front (q.back ++ rest) (length q.front) refl) in
      let here : (arms k).format.spells (ulong_place s (a.place - a.origin)) s a.order
      ((after (length q.front) a).place - a.origin) v q.back
      = rw (moved-place (length q.front) a h) q.then_spelled in
      let two = ((arms k).joins a s).only (after (length q.front) a) v q.back rest (omega arith)
      here left in
      let len : length b ≡ length q.front
      + length q.back = rw q.parts (length-append q.front q.back) in
      rw (one, two, len)
      (ap (λ (x : At). done {F = F} (v, x)) (after-after (length q.front) (length q.back) a))

  chosen-refuses : (s : CodingState N) (a : At)
      → Refuses (ThenFault tag.format.spells tag.faults (λ k. (arms k).format.faults a s))
      (λ x. tag.format.reads x >>= λ k. (arms k.0).format.reads a s k.1)
  chosen-refuses s a =
      chain-refuses tag.format.spells tag.faults (λ k. (arms k).format.faults a s) tag.format.reads
      (λ k. (arms k).format.reads a s) (joins tag.format tag.lawful) tag.refuses
      (λ k. (arms k).refuses a s)

  pub choice-refuses : (s : CodingState N) → Refuses (either.faults s) (either.reads s)
  choice-refuses s = record {
    content = λ a f h e. (chosen-refuses s a).content a f h e;
    only = λ a f h d. (chosen-refuses s a).only a f h d;
  }

  pub choice-transfers : Transfers either
  choice-transfers graph first s u order o place p x next b octets sp agrees alike good short =
      let k = tag_of graph u x in
      let is : sp.0 ≡ k =
      content sp.0 graph (ulong_place s place) s u order (place + length sp.1.front)
      x next sp.1.back sp.1.then_spelled agrees alike in
      let q : SpellsThen tag.format.spells (λ k. (arms k).format.spells (ulong_place s place) s)
      order place (k, (x, next)) b =
      subst
      (λ (k : K). SpellsThen tag.format.spells (λ k. (arms k).format.spells (ulong_place s place) s)
      order place (k, (x, next)) b) is sp.1 in
      let whole : AreOctets (q.front ++ q.back) = subst AreOctets q.parts octets in
      let front = tag.format.writes k o p in
      let back = (arms k).format.writes (ulong_place u p) graph u x o (p + length front) in
      let len : length (front ++ back) ≡ length front + length back = length-append front back in
      let size = sized k o p in
      let reached = good.reached in
      let w =
      (arms k).transfers graph first (ulong_place s place) s u order o (place + length q.front) p
      (p + length front) x next q.back (octets-back q.front q.back whole)
      q.then_spelled agrees alike good (omega (arith, size)) (omega (arith, short, len)) in
      record {
        spelled = (
          k,
          record {
            front = front;
            back = back;
            parts = refl;
            spelled =
                tag.lawful.written o p k
                (tag.lawful.admitted order place k q.front (octets-front q.front q.back whole)
                q.spelled) (omega (arith, short, len, reached));
            then_spelled = w.spelled;
          },
        );
        alike = w.alike;
        good =
            let far : (p + length front) + length back
            ≡ p + length (front ++ back) = omega (arith, len) in
            subst
            (λ (n : ℕ). IsRising first
            ((arms k).format.leaves (ulong_place u p) graph u x o (p + length front)) n) far w.good;
      }

  abbrev pub choice : Sound F N X
  choice = record {
    format = choice_format tag (λ k. (arms k).format) tag_of;
    joins = λ s. record { found = choice-found s; only = choice-only s };
    refuses = choice-refuses;
    grows = λ s order place x next b sp.
        (arms sp.0).grows (ulong_place s place) s order (place + length sp.1.front)
        x next sp.1.back sp.1.then_spelled;
    transfers = choice-transfers;
  }

-- ---- so many values, and values behind their number

abbrev pub array : {F N X : Type 0} → Sound F N X → ℕ → Sound F N (List X)
array t zero = lift (constant [])
array t (suc n) = variant (λ p. p.0 ∷ p.1) uncons (λ x. refl) (t & array t n)

pub array-count : {F N X : Type 0} (t : Sound F N X) (n : ℕ) (s : CodingState N) (order : Order)
    (place : ℕ) (xs : List X) (next : CodingState N) (b : List ℕ)
    → (array t n).format.spells s order place (xs, next) b → n ≡ length xs
array-count {X = X} t zero s order place xs next b sp = ap (length {A = X}) sp.0.0
array-count {X = X} t (suc n) s order place xs next b sp =
    ap suc
    (array-count t n sp.2.0 order (place + length sp.2.1.front)
    sp.0.1 next sp.2.1.back sp.2.1.then_spelled)
    ∙ ap (length {A = X}) sp.1

abbrev pub sequence_with : {F N X : Type 0} (count : Plain F ℕ) → IsSized count → Sound F N X
    → Sound F N (List X)
sequence_with count sized t =
    choice count sized (λ n. arm (array t n)) (λ graph s xs. length xs)
    (λ n graph m s u order place xs next b sp agrees alike.
    array-count t n s order place xs next b sp)
