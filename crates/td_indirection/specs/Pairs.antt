-- Any format without a state, and one part after another.
use Rattle.std.proofs.Common.{◌≡◌, ℕ, ◌+◌, ◌-◌, ◌≤◌, List, ◌++◌, length, drop, Ok, refl, sym}
use Rattle.std.proofs.Common.{ap, subst, ◌∙◌, append_assoc, arith, length-append}
use Rattle.std.proofs.lemmas.List.{drop_at}
use Rattle.td_cdr.specs.declared.order.Order.{Order}
use Rattle.td_cdr.specs.Place.{At}
use Rattle.td_cdr.specs.Reading.{after}
use Rattle.td_cdr.specs.Spelling.{FoundSpelling, Joins, SpellsThen}
use Rattle.td_cdr.specs.Format.{◌>>=◌}
use Rattle.td_cdr.specs.Faults.{ThenFault, Refuses}
use Rattle.td_cdr.specs.Joined.{Found-then, moved-place, after-after, bind_ok, done, ok_is}
use Rattle.td_cdr.specs.Lawful.{AreOctets}
use Rattle.td_cdr.specs.Octets.{octets-front, octets-back}
use Rattle.td_cdr.specs.Refused.{mapped-refuses, chain-refuses, moved-on}
use Rattle.td_cdr.specs.Sound.{Sound as Plain}
use Rattle.td_indirection.specs.States.{CodingState, KeepsSlots, AreAlike, IsRising}
use Rattle.td_indirection.specs.Stateful.{StatefulFormat, Transfers, Sound}
use Rattle.td_indirection.specs.Tables.{stays, grows-on, grows-length, agrees-before, agrees-from, rising-on}

-- ---- any format

abbrev pub lift_format : {F N X : Type 0} → Plain F X → StatefulFormat F N X
lift_format {N = N} {X = X} g = record {
  reads = λ s a. g.format.reads a >>= λ x. Ok ((x.0, s), x.1);
  spells = λ s order place v b. g.format.spells order place v.0 b × (v.1 ≡ s);
  faults = λ s. g.faults;
  writes = λ graph s x. g.format.writes x;
  leaves = λ graph s x order place. s;
}

pub lift-joins : {F N X : Type 0} (g : Plain F X) (s : CodingState N)
    → Joins ((lift_format g).spells s) ((lift_format g).reads s)
lift-joins {F} {N} {X} g s = record {
  found = λ a v next h e.
      let made : (X × CodingState N) × At = (v, next) in
      let x = bind_ok (g.format.reads a) (λ x. Ok ((x.0, s), x.1)) made e in
      let same : ((x.0.0, s), x.0.1) ≡ made = ok_is {F = F} ((x.0.0, s), x.0.1) made x.2 in
      let f = g.lawful.found a x.0.0 x.0.1 h x.1 in
      subst (λ (p : (X × CodingState N) × At). FoundSpelling ((lift_format g).spells s) a p.0 p.1)
      same
      (record { bytes = f.bytes; spelled = (f.spelled, refl); parts = f.parts; moved = f.moved });
  only = λ a v b rest h p e.
      let one = g.lawful.only a v.0 b rest h p.0 e in
      let same : (v.0, s) ≡ v = ap (λ (t : CodingState N). (v.0, t)) (sym p.1) in
      rw one (ap (λ (w : X × CodingState N). done {F = F} (w, after (length b) a)) same);
}

pub lift-transfers : {F N X : Type 0} (g : Plain F X) → Transfers {N = N} (lift_format g)
lift-transfers {N = N} g graph first s u order o place p x next b octets sp agrees alike good
    short =
    let reached = good.reached in
    record {
      spelled = (
        g.lawful.written o p x (g.lawful.admitted order place x b octets sp.0)
            (omega (arith, short, reached)),
        refl,
      );
      alike = subst (λ (t : CodingState N). AreAlike t u) (sym sp.1) alike;
      good = rising-on first u p (p + length (g.format.writes x o p)) (omega arith) good;
    }

abbrev pub lift : {F N X : Type 0} → Plain F X → Sound F N X
lift g = record {
  format = lift_format g;
  joins = lift-joins g;
  refuses = λ s. mapped-refuses g.faults g.format.reads (λ x. ((x.0, s), x.1)) g.refuses;
  grows = λ s order place x next b sp. subst (λ (t : CodingState _). KeepsSlots s t) (sym sp.1)
      (stays s);
  transfers = lift-transfers g;
}

-- ---- one after another

abbrev pub pair_format : {F N X Y : Type 0} → StatefulFormat F N X → (X → StatefulFormat F N Y)
    → StatefulFormat F N (X × Y)
pair_format {N = N} {X = X} {Y = Y} t u = record {
  reads = λ s a. t.reads s a >>= λ x. (u x.0.0).reads x.0.1 x.1 >>= λ y.
      Ok (((x.0.0, y.0.0), y.0.1), y.1);
  spells = λ s order place v b.
      (mid : CodingState N)
      × SpellsThen (t.spells s) (λ (x : X × CodingState N). (u x.0).spells x.1) order place
      ((v.0.0, mid), (v.0.1, v.1)) b;
  faults = λ s. ThenFault (t.spells s) (t.faults s) (λ x. (u x.0).faults x.1);
  writes = λ graph s x order place. t.writes graph s x.0 order place
      ++ (u x.0).writes graph (t.leaves graph s x.0 order place) x.1 order
      (place + length (t.writes graph s x.0 order place));
  leaves = λ graph s x order place.
      (u x.0).leaves graph (t.leaves graph s x.0 order place) x.1 order
      (place + length (t.writes graph s x.0 order place));
}

module _ {F N X Y : Type 0} (t : Sound F N X) (u : X → Sound F N Y) where
  abbrev both : StatefulFormat F N (X × Y)
  both = pair_format t.format (λ x. (u x).format)

  pub pair-found : (s : CodingState N) (a : At) (v : (X × Y) × CodingState N) (next : At) → a.origin
      ≤ a.place
      → both.reads s a ≡ Ok (v, next) → FoundSpelling (both.spells s) a v next
  pair-found s a v next h e =
      let made : ((X × Y) × CodingState N) × At = (v, next) in
      let x =
      bind_ok (t.format.reads s a)
      (λ x. (u x.0.0).format.reads x.0.1 x.1 >>= λ y. Ok (((x.0.0, y.0.0), y.0.1), y.1)) made e in
      let y = bind_ok ((u x.0.0.0).format.reads x.0.0.1 x.0.1)
      (λ y. Ok (((x.0.0.0, y.0.0), y.0.1), y.1)) made x.2 in
      let same : (((x.0.0.0, y.0.0.0), y.0.0.1), y.0.1) ≡ made =
      ok_is {F = F} (((x.0.0.0, y.0.0.0), y.0.0.1), y.0.1) made y.2 in
      let f = (t.joins s).found a x.0.0 x.0.1 h x.1 in
      let g =
      ((u x.0.0.0).joins x.0.0.1).found x.0.1 y.0.0 y.0.1
      (moved-on (t.format.spells s) a x.0.0 x.0.1 h f) y.1 in
      let whole =
      Found-then (t.format.spells s) (λ (z : X × CodingState N). (u z.0).format.spells z.1)
      a x.0.1 y.0.1 x.0.0 y.0.0 h f g
      in
      subst (λ (p : ((X × Y) × CodingState N) × At). FoundSpelling (both.spells s) a p.0 p.1) same
      (record {
        bytes = whole.bytes;
        spelled = (x.0.0.1, whole.spelled);
        parts = whole.parts;
        moved = whole.moved;
      })

  pub pair-only : (s : CodingState N) (a : At) (v : (X × Y) × CodingState N) (b rest : List ℕ)
      → a.origin ≤ a.place → both.spells s a.order (a.place - a.origin) v b → a.rest ≡ b ++ rest
      → both.reads s a ≡ Ok (v, after (length b) a)
  pair-only s a v b rest h p e =
      let mid = p.0 in
      let q = p.1 in
      let whole : a.rest ≡ q.front ++ (q.back ++ rest) =
      e ∙ ap (λ (x : List ℕ). x ++ rest) q.parts ∙ append_assoc q.front q.back rest in
      let one = (t.joins s).only a (v.0.0, mid) q.front (q.back ++ rest) h q.spelled whole in
      let left : drop (length q.front) a.rest ≡ q.back ++ rest =
      rw whole (drop_at q.front (q.back ++ rest) (length q.front) refl) in
      let here : (u v.0.0).format.spells mid a.order ((after (length q.front) a).place - a.origin)
      (v.0.1, v.1) q.back = rw (moved-place (length q.front) a h) q.then_spelled in
      let two =
      ((u v.0.0).joins mid).only (after (length q.front) a) (v.0.1, v.1) q.back rest (omega arith)
      here left in
      let len : length b ≡ length q.front
      + length q.back = rw q.parts (length-append q.front q.back) in
      rw (one, two, len)
      (ap (λ (x : At). done {F = F} (v, x)) (after-after (length q.front) (length q.back) a))

  pub pair-refuses : (s : CodingState N) → Refuses (both.faults s) (both.reads s)
  pair-refuses s =
      chain-refuses (t.format.spells s) (t.format.faults s) (λ x. (u x.0).format.faults x.1)
      (t.format.reads s) (λ x a. (u x.0).format.reads x.1 a >>= λ y.
      Ok (((x.0, y.0.0), y.0.1), y.1)) (t.joins s) (t.refuses s)
      (λ x. mapped-refuses ((u x.0).format.faults x.1) ((u x.0).format.reads x.1)
      (λ y. (((x.0, y.0.0), y.0.1), y.1)) ((u x.0).refuses x.1))

  pub pair-grows : (s : CodingState N) (order : Order) (place : ℕ) (x : X × Y)
      (next : CodingState N)
      (b : List ℕ)
      → both.spells s order place (x, next) b → KeepsSlots s next
  pair-grows s order place x next b sp =
      let q = sp.1 in
      grows-on s sp.0 next (t.grows s order place x.0 sp.0 q.front q.spelled)
      ((u x.0).grows sp.0 order (place + length q.front) x.1 next q.back q.then_spelled)

  pub pair-transfers : Transfers both
  pair-transfers graph first s e order o place p x next b octets sp agrees alike good short =
      let mid = sp.0 in
      let q = sp.1 in
      let whole : AreOctets (q.front ++ q.back) = subst AreOctets q.parts octets in
      let front = t.format.writes graph e x.0 o p in
      let middle = t.format.leaves graph e x.0 o p in
      let back = (u x.0).format.writes graph middle x.1 o (p + length front) in
      let len : length (front ++ back) ≡ length front + length back = length-append front back in
      let with_slots = t.grows s order place x.0 mid q.front q.spelled in
      let more = (u x.0).grows mid order (place + length q.front) x.1 next q.back q.then_spelled in
      let longer = grows-length s mid with_slots in
      let one =
      t.transfers graph first s e order o place p x.0 mid q.front
      (octets-front q.front q.back whole) q.spelled
      (agrees-before graph mid next (length s.table) more agrees) alike good
      (omega (arith, short, len)) in
      let base = (t.grows e o p x.0 middle front one.spelled).base in
      let two =
      (u x.0).transfers graph first mid middle order o (place + length q.front)
      (p + length front) x.1 next q.back (octets-back q.front q.back whole) q.then_spelled
      (agrees-from graph next (length s.table) (length mid.table) (omega (arith, longer)) agrees)
      one.alike one.good (omega (arith, short, len, base)) in
      record {
        spelled = (
          middle,
          record {
            front = front;
            back = back;
            parts = refl;
            spelled = one.spelled;
            then_spelled = two.spelled;
          },
        );
        alike = two.alike;
        good =
            let far : (p + length front) + length back
            ≡ p + length (front ++ back) = omega (arith, len) in
            subst
            (λ (n : ℕ). IsRising first ((u x.0).format.leaves graph middle x.1 o (p + length front))
            n) far two.good;
      }

  abbrev pub pair_on : Sound F N (X × Y)
  pair_on = record {
    format = both;
    joins = λ s. record { found = pair-found s; only = pair-only s };
    refuses = pair-refuses;
    grows = pair-grows;
    transfers = pair-transfers;
  }

infixr 5 ◌&◌
abbrev pub ◌&◌ : {F N X Y : Type 0} → Sound F N X → Sound F N Y → Sound F N (X × Y)
t & u = pair_on t (λ _. u)
