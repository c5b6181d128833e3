-- A node that starts with its kind, which was read just before: it has a number from then on, so what stands in it may
-- lead back to it.
use Rattle.std.proofs.Common.{◌≡◌, ℕ, suc, ◌+◌, ◌^◌, ◌<◌, ◌≤◌, Bool, true, false, cond, ltb, List, ◌∷◌, ◌++◌}
use Rattle.std.proofs.Common.{length, Result, Ok, Err, refl, sym, ap, subst, ◌∙◌, arith, length-append, inl, inr, ◌⊎◌}
use Rattle.std.specs.Prelude.{nat_lt, map, Option, Some}
use Rattle.std.proofs.lemmas.Bool.{ltb-true, ltb-false, lt-ltb, le-ltb}
use Rattle.std.proofs.lemmas.List.{length_push, map-append}
use Rattle.td_cdr.specs.declared.order.Order.{Order}
use Rattle.td_cdr.specs.Place.{At}
use Rattle.td_cdr.specs.Reading.{after}
use Rattle.td_cdr.specs.Spelling.{FoundSpelling, Joins}
use Rattle.td_cdr.specs.Format.{◌>>=◌, none_or, nth}
use Rattle.td_cdr.specs.Faults.{Refuses}
use Rattle.td_cdr.specs.Joined.{bind_ok, done, ok_is}
use Rattle.td_cdr.specs.Refused.{mapped-refuses}
use Rattle.td_indirection.specs.States.{Slot, CodingState, nodes, ulong_place, slot, with_blank, with_node, KeepsSlots}
use Rattle.td_indirection.specs.States.{AreAlike, IsTableOf}
use Rattle.td_indirection.specs.Stateful.{StatefulFormat, TaggedFormat, TransfersBehind, Sound, TaggedArm, tag_place}
use Rattle.td_indirection.specs.Variants.{leaves_or}
use Rattle.td_indirection.specs.Tables.{nth-seam, nth-put-behind, nodes-length, alike-length, length-put, with_node-table}
use Rattle.td_indirection.specs.Tables.{with_node-alike, with_node-grows, with_node-rising, with_blank-alike, with_blank-rising}

-- there are too many nodes, or what is behind the kind is none
pub data NodeFault {F : Type 0} (most count : ℕ) (full : F) (inner : At → F → Type 0) (a : At)
    (f : F) : Type 0 where
  crowded : most ≤ count → f ≡ full → NodeFault most count full inner a f
  unread : count < most → inner a f → NodeFault most count full inner a f

-- at most so many nodes; blank: what is known of a node while what is behind its kind is read
abbrev pub node_format : {F N : Type 0} → ℕ → (At → F) → N → StatefulFormat F N N
    → TaggedFormat F N ℕ
node_format {N = N} most full blank t = record {
  reads = λ tag s a.
      cond (nat_lt (length s.table) most)
      (t.reads (with_blank blank (tag_place s tag) s) a
      >>= λ v. Ok ((length s.table, with_node v.0.1 (length s.table) v.0.0), v.1))
      (Err (full tag));
  spells = λ m s order place v b.
      (n : N) × (end : CodingState N) × (length s.table < most) × (v.0 ≡ length s.table)
      × t.spells (with_blank blank m s) order place (n, end) b
      × (v.1 ≡ with_node end (length s.table) n);
  faults = λ tag s a f.
      NodeFault most (length s.table) (full tag) (t.faults (with_blank blank (tag_place s tag) s))
      a f;
  writes = λ m graph s j. none_or (t.writes graph (with_blank blank m s)) (nth graph j);
  leaves = λ m graph s j order place.
      leaves_or (λ n. with_node (t.leaves graph (with_blank blank m s) n order place)
      (length s.table) n) s (nth graph j);
}

room_ok : {F A : Type 0} (b : Bool) (r : Result A F) (d : F) (y : A) → cond b r (Err d) ≡ Ok y
    → (b ≡ true) × (r ≡ Ok y)
room_ok true r d y e = (refl, e)
room_ok false r d y e = absurd cc

room_err : {F A : Type 0} (b : Bool) (r : Result A F) (d f : F) → cond b r (Err d) ≡ Err f
    → ((b ≡ true) × (r ≡ Err f)) ⊎ ((b ≡ false) × (f ≡ d))
room_err true r d f e = inl (refl, e)
room_err false r d f e = inr (refl, cc)

module _ {F N : Type 0} (most : ℕ) (full : At → F) (blank : N) (t : Sound F N N) where
  abbrev one : TaggedFormat F N ℕ
  one = node_format most full blank t.format

  pub node-joins : (tag : At) (s : CodingState N)
      → Joins (one.spells (tag_place s tag) s) (one.reads tag s)
  node-joins tag s = record {
    found = λ a v next h e.
        let inner = with_blank blank (tag_place s tag) s in
        let count = length s.table in
        let made : (ℕ × CodingState N) × At = (v, next) in
        let r =
        room_ok (ltb count most)
        (t.format.reads inner a >>= λ v. Ok ((count, with_node v.0.1 count v.0.0), v.1))
        (full tag) made e in
        let x = bind_ok (t.format.reads inner a)
        (λ v. Ok ((count, with_node v.0.1 count v.0.0), v.1)) made r.1 in
        let same : ((count, with_node x.0.0.1 count x.0.0.0), x.0.1) ≡ made =
        ok_is {F = F} ((count, with_node x.0.0.1 count x.0.0.0), x.0.1) made x.2 in
        let f = (t.joins inner).found a x.0.0 x.0.1 h x.1 in
        subst (λ (p : (ℕ × CodingState N) × At). FoundSpelling (one.spells (tag_place s tag) s) a
        p.0 p.1) same
        (record {
          bytes = f.bytes;
          spelled = (x.0.0.0, x.0.0.1, ltb-true count most r.0, refl, f.spelled, refl);
          parts = f.parts;
          moved = f.moved;
        });
    only = λ a v b rest h p e.
        let inner = with_blank blank (tag_place s tag) s in
        let room : ltb (length s.table) most ≡ true = lt-ltb (length s.table) most p.2 in
        let one = (t.joins inner).only a (p.0, p.1) b rest h p.4 e in
        let same : (length s.table, with_node p.1 (length s.table) p.0) ≡ v =
        ap (λ (n : ℕ). (n, with_node p.1 (length s.table) p.0)) (sym p.3)
        ∙ ap (λ (z : CodingState N). (v.0, z)) (sym p.5) in
        rw (room, one) (ap (λ (w : ℕ × CodingState N). done {F = F} (w, after (length b) a)) same);
  }

  behind : (tag : At) (s : CodingState N)
      → Refuses {Y = ℕ × CodingState N} (t.format.faults (with_blank blank (tag_place s tag) s))
      (λ a. t.format.reads (with_blank blank (tag_place s tag) s) a
      >>= λ v. Ok ((length s.table, with_node v.0.1 (length s.table) v.0.0), v.1))
  behind tag s =
      mapped-refuses (t.format.faults (with_blank blank (tag_place s tag) s))
      (t.format.reads (with_blank blank (tag_place s tag) s))
      (λ v. ((length s.table, with_node v.0.1 (length s.table) v.0.0), v.1))
      (t.refuses (with_blank blank (tag_place s tag) s))

  node-content : (tag : At) (s : CodingState N) (a : At) (f : F) → a.origin ≤ a.place
      → one.reads tag s a
      ≡ Err f → one.faults tag s a f
  node-content tag s a f h e =
      let inner = with_blank blank (tag_place s tag) s in
      let count = length s.table in
      elim (room_err (ltb count most)
      (t.format.reads inner a >>= λ v. Ok ((count, with_node v.0.1 count v.0.0), v.1))
      (full tag) f e) [
        | inl r ↦ NodeFault.unread (ltb-true count most r.0) ((behind tag s).content a f h r.1)
        | inr r ↦ NodeFault.crowded (ltb-false count most r.0) r.1
      ]

  node-refused : (tag : At) (s : CodingState N) (a : At) (f : F) → a.origin ≤ a.place
      → one.faults tag s a f → one.reads tag s a ≡ Err f
  node-refused tag s a f h (NodeFault.crowded many is) =
      let none : ltb (length s.table) most ≡ false = le-ltb (length s.table) most many in
      rw (none, is) refl
  node-refused tag s a f h (NodeFault.unread few d) =
      let room : ltb (length s.table) most ≡ true = lt-ltb (length s.table) most few in
      rw room ((behind tag s).only a f h d)

  pub node-refuses : (tag : At) (s : CodingState N) → Refuses (one.faults tag s) (one.reads tag s)
  node-refuses tag s = record { content = node-content tag s; only = node-refused tag s }

  pub node-grows : (m : ℕ) (s : CodingState N) (order : Order) (place : ℕ) (j : ℕ)
      (next : CodingState N)
      (b : List ℕ)
      → one.spells m s order place (j, next) b → KeepsSlots s next
  node-grows m s order place j next b sp =
      subst (λ (z : CodingState N). KeepsSlots s z) (sym sp.5)
      (with_node-grows s sp.1 m blank sp.0
      (t.grows (with_blank blank m s) order place sp.0 sp.1 b sp.4))

  -- the graph has the node that was spelled
  pub node-known : (graph : List N) (m : ℕ) (s : CodingState N) (order : Order) (place : ℕ) (j : ℕ)
      (next : CodingState N) (b : List ℕ) (sp : one.spells m s order place (j, next) b)
      → IsTableOf graph next (length s.table) → nth graph j ≡ Some sp.0
  node-known graph m s order place j next b sp agrees =
      let n = sp.0 in
      let count = length s.table in
      let g = t.grows (with_blank blank m s) order place n sp.1 b sp.4 in
      let end = with_node sp.1 count n in
      let all : end.table ≡ s.table ++ slot m n ∷ g.more = with_node-table s sp.1 m blank n g in
      let long : length end.table ≡ count + suc (length g.more) =
      ap (length {A = Slot N}) all ∙ length-append s.table (slot m n ∷ g.more) in
      let same : length next.table ≡ length end.table = ap (λ (z : CodingState N). length z.table)
      sp.5 in
      let its-nodes : nodes end ≡ nodes s ++ n ∷ map (λ x. x.node) g.more =
      ap (λ (xs : List (Slot N)). map (λ x. x.node) xs) all
      ∙ map-append (λ (x : Slot N). x.node) s.table (slot m n ∷ g.more) in
      let seam : nth (nodes s ++ n ∷ map (λ x. x.node) g.more) count ≡ Some n =
      subst (λ (k : ℕ). nth (nodes s ++ n ∷ map (λ x. x.node) g.more) k ≡ Some n) (nodes-length s)
      (nth-seam (nodes s) n (map (λ x. x.node) g.more)) in
      ap (nth graph) sp.3
      ∙ agrees.each count (omega arith) (omega (arith, long, same))
      ∙ ap (λ (z : CodingState N). nth (nodes z) count) sp.5
      ∙ ap (λ (xs : List N). nth xs count) its-nodes
      ∙ seam

  -- and those that stand in it
  node-agrees : (graph : List N) (m : ℕ) (s : CodingState N) (order : Order) (place : ℕ) (j : ℕ)
      (next : CodingState N) (b : List ℕ) (sp : one.spells m s order place (j, next) b)
      → IsTableOf graph next (length s.table)
      → IsTableOf graph sp.1 (length (with_blank blank m s).table)
  node-agrees graph m s order place j next b sp agrees = record {
    each = λ i h l.
        let more : length (with_blank blank m s).table ≡ length s.table + 1 =
        length_push s.table (slot m blank) in
        let same : length next.table ≡ length sp.1.table =
        ap (λ (z : CodingState N). length z.table) sp.5 ∙ length-put sp.1.table
        (length s.table) sp.0 in
        agrees.each i (omega (arith, h, more)) (omega (arith, l, same))
        ∙ ap (λ (z : CodingState N). nth (nodes z) i) sp.5
        ∙ nth-put-behind sp.1.table (length s.table) i sp.0 (omega (arith, h, more));
  }

  pub node-transfers : TransfersBehind one
  node-transfers graph first m s u order o place before p j next b octets sp agrees alike good far =
      let n = sp.0 in
      let at = ulong_place u before in
      let inner = with_blank blank at u in
      let is = node-known graph m s order place j next b sp agrees in
      let written : one.writes at graph u j o p ≡ t.format.writes graph inner n o p =
      ap (λ (x : Option N). none_or (t.format.writes graph inner) x o p) is in
      let leaves : one.leaves at graph u j o p ≡ with_node (t.format.leaves graph inner n o p)
      (length u.table) n =
      ap
      (λ (x : Option N). leaves_or (λ n. with_node (t.format.leaves graph inner n o p)
      (length u.table) n) u x) is in
      λ short.
      let same = alike-length s u alike in
      let w =
      t.transfers graph first (with_blank blank m s) inner order o place p n sp.1 b octets sp.4
      (node-agrees graph m s order place j next b sp agrees) (with_blank-alike blank m at s u alike)
      (with_blank-rising first blank u before p good far)
      (subst (λ (bytes : List ℕ). u.base + p + length bytes < first + 2 ^ 32) written short) in
      let few = sp.2 in
      let known-in : AreAlike next (with_node (t.format.leaves graph inner n o p)
      (length u.table) n) =
      subst (λ (k : ℕ). AreAlike next (with_node (t.format.leaves graph inner n o p) k n)) same
      (subst
      (λ (z : CodingState N). AreAlike z (with_node (t.format.leaves graph inner n o p)
      (length s.table) n)) (sym sp.5)
      (with_node-alike sp.1 (t.format.leaves graph inner n o p) (length s.table) n w.alike)) in
      record {
        spelled =
            rw (leaves, written) (
              n,
              t.format.leaves graph inner n o p,
              omega (arith, few, same),
              sp.3
                  ∙ same,
              w.spelled,
              refl,
            );
        alike = rw leaves known-in;
        good =
            rw (leaves, written)
            (with_node-rising first (t.format.leaves graph inner n o p)
            (p + length (t.format.writes graph inner n o p)) (length u.table) n w.good);
      }

  abbrev pub node : TaggedArm F N ℕ
  node = record {
    format = node_format most full blank t.format;
    joins = node-joins;
    refuses = node-refuses;
    grows = node-grows;
    transfers = node-transfers;
  }
