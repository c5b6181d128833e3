-- A part that stands in an encapsulation, from which places count anew (CORBA, General Inter-ORB Protocol,
-- "Encapsulation").
use Rattle.std.proofs.Common.{◌≡◌, ℕ, suc, ◌+◌, ◌-◌, ◌^◌, ◌<◌, ◌≤◌, List, [], ◌∷◌, ◌++◌, length, true, false, Result, Ok}
use Rattle.std.proofs.Common.{refl, sym, ap, subst, ◌∙◌, arith, length-append}
use Rattle.std.proofs.lemmas.List.{append-nil}
use Rattle.td_cdr.specs.declared.order.Order.{Order}
use Rattle.td_cdr.specs.declared.order.Order.TheVariants.{Big, Little}
use Rattle.td_cdr.specs.declared.fault.CdrFault.{CdrFault}
use Rattle.td_cdr.specs.Gap.{gap, flag}
use Rattle.td_cdr.specs.Place.{At}
use Rattle.td_cdr.specs.Truth.{order_of}
use Rattle.td_cdr.specs.Reading.{after, next_aligned, octets_at, encapsulation_at, inside as inside_of}
use Rattle.td_cdr.specs.Spelling.{FoundSpelling, Joins, SpellsWithin}
use Rattle.td_cdr.specs.Writing.{written_number, written_octets}
use Rattle.td_cdr.specs.Format.{◌>>=◌, as_fault, nth}
use Rattle.td_cdr.specs.Faults.{WithinFault, Refuses}
use Rattle.td_cdr.specs.Joined.{octets-found, octets-only, within-made, inside-found, inside-only, bind_ok, ok_is, done}
use Rattle.td_cdr.specs.Joined.{written_number-spelled, written_octets-spelled}
use Rattle.td_cdr.specs.LawfulFormats.{fault_ok}
use Rattle.td_cdr.specs.Lawful.{AreOctets}
use Rattle.td_cdr.specs.Octets.{octets-front, octets-back}
use Rattle.td_cdr.specs.Refused.{enclosed_read, within-refuses, mapped-refuses}
use Rattle.td_indirection.specs.States.{CodingState, nodes, inside_state, behind_state, KeepsSlots, AreAlike, IsRising}
use Rattle.td_indirection.specs.Stateful.{StatefulFormat, Transfers, Sound}

-- ---- an encapsulation of anything that is read and spelled

module _ {F Y : Type 0} (c : CdrFault → F) (spells : Order → ℕ → Y → List ℕ → Type 0)
    (reads : At → Result (Y × At) F) (j : Joins spells reads) where
  inside-found_at : (a : At) (v : Y) (next : At) → a.origin ≤ a.place → enclosed_read c reads a
      ≡ Ok (v, next) → FoundSpelling (SpellsWithin spells) a v next
  unfolding encapsulation_at
  inside-found_at a v next h e =
      let made : Y × At = (v, next) in
      let enc = bind_ok (as_fault c (encapsulation_at a)) (λ e. reads e.0 >>= λ v. Ok (v.0, e.1))
      made e in
      let val = bind_ok (reads enc.0.0) (λ v. Ok (v.0, enc.0.1)) made enc.2 in
      let oct =
      bind_ok (octets_at a)
      (λ bytes. inside_of (next_aligned 4 a) bytes.1.place bytes.0 >>= λ inner. Ok (inner, bytes.1))
      enc.0 (fault_ok c _ enc.0 enc.1) in
      let ins = bind_ok (inside_of (next_aligned 4 a) oct.0.1.place oct.0.0)
      (λ inner. Ok (inner, oct.0.1)) enc.0 oct.2 in
      let enc-is : (ins.0, oct.0.1) ≡ enc.0 = ok_is (ins.0, oct.0.1) enc.0 ins.2 in
      let f = octets-found a oct.0.0 oct.0.1 h oct.1 in
      let within-end : length oct.0.0 ≤ oct.0.1.place =
      omega (
        arith,
        ap (λ (x : At). x.place) f.moved,
        ap (length {A = ℕ}) f.spelled.parts,
        length-append f.spelled.count oct.0.0,
      ) in
      let i = inside-found (next_aligned 4 a) oct.0.1.place oct.0.0 ins.0 within-end ins.1 in
      let val-at : reads ins.0 ≡ Ok val.0 = ap (λ (p : At × At). reads p.0) enc-is ∙ val.1 in
      let w = j.found ins.0 val.0.0 val.0.1 (omega (arith, i.place_is)) val-at in
      let last : (val.0.0, oct.0.1) ≡ made =
      ◌∙◌ {b = (val.0.0, enc.0.1)} (ap (λ (p : At × At). (val.0.0, p.1)) enc-is)
      (ok_is (val.0.0, enc.0.1) made val.2) in
      subst (λ (p : Y × At). FoundSpelling (SpellsWithin spells) a p.0 p.1) last
      (within-made spells a oct.0.1 ins.0 val.0.1 oct.0.0 val.0.0 f i w)

  inside-only_at : (a : At) (v : Y) (b rest : List ℕ) → a.origin ≤ a.place
      → SpellsWithin spells a.order (a.place - a.origin) v b → a.rest ≡ b ++ rest
      → enclosed_read c reads a ≡ Ok (v, after (length b) a)
  unfolding encapsulation_at
  inside-only_at a v b rest h s e =
      let body = s.body ++ s.ignored in
      let end = a.place + length b in
      let one = octets-only a (s.flag ∷ body) b rest h s.octets e in
      let two = inside-only (next_aligned 4 a) end s.flag s.little body s.order_of_flag in
      let long : length b ≡ length s.octets.count + suc (length body) =
      ap (length {A = ℕ}) s.octets.parts ∙ length-append s.octets.count (s.flag ∷ body) in
      let origin : (end - length body) - (end - suc (length body)) ≡ 1 = omega (arith, long) in
      let where-it-is : At =
      record {
        rest = body;
        place = end - length body;
        origin = end - suc (length body);
        order = order_of s.little;
      } in
      let spelled : spells where-it-is.order (where-it-is.place - where-it-is.origin)
      v s.body = rw origin s.spelled in
      let three = j.only where-it-is v s.body s.ignored (omega (arith, long)) spelled refl in
      rw (one, two, three) refl

-- ---- with a state

abbrev pub encapsulation_format : {F N X : Type 0} → (CdrFault → F) → StatefulFormat F N X
    → StatefulFormat F N X
encapsulation_format {N = N} {X = X} c t = record {
  reads = λ s a.
      enclosed_read c (t.reads (inside_state s (a.place - a.origin))) a >>= λ x.
      Ok ((x.0.0, behind_state s x.0.1), x.1);
  spells = λ s order place v b.
      (end : CodingState N) × SpellsWithin (t.spells (inside_state s place)) order place
      (v.0, end) b
      × (v.1 ≡ behind_state s end);
  faults = λ s a. WithinFault c (t.faults (inside_state s (a.place - a.origin))) a;
  writes = λ graph s x order place.
      written_octets order place (flag order ∷ t.writes graph (inside_state s place) x order 1);
  leaves = λ graph s x order place.
      behind_state s (t.leaves graph (inside_state s place) x order 1);
}

octets-size : (order : Order) (place : ℕ) (v : List ℕ) → length v < 2 ^ 32
    → length (written_octets order place v) ≡ gap 4 place + 4 + length v
octets-size order place v lt =
    let long = (written_number-spelled 4 order place (length v) lt).long in
    let len = length-append (written_number 4 order place (length v)) v in
    omega (arith, long, len)

octets-few : (order : Order) (place : ℕ) (v : List ℕ) → length (written_octets order place v)
    < 2 ^ 32 → length v < 2 ^ 32
octets-few order place v short =
    let len = length-append (written_number 4 order place (length v)) v in omega (arith, short, len)

wrapped : {Y : Type 0} (spells : Order → ℕ → Y → List ℕ → Type 0) (o : Order) (p : ℕ) (v : Y)
    (body : List ℕ)
    → length (flag o ∷ body) < 2 ^ 32 → spells o 1 v body
    → SpellsWithin spells o p v (written_octets o p (flag o ∷ body))
wrapped spells Big p v body few s = record {
  little = false;
  flag = 0;
  body = body;
  ignored = [];
  order_of_flag = refl;
  octets = rw append-nil (written_octets-spelled Big p (0 ∷ body) few);
  spelled = s;
}
wrapped spells Little p v body few s = record {
  little = true;
  flag = 1;
  body = body;
  ignored = [];
  order_of_flag = refl;
  octets = rw append-nil (written_octets-spelled Little p (1 ∷ body) few);
  spelled = s;
}

inside-alike : {N : Type 0} (s u : CodingState N) (place p : ℕ) → AreAlike s u
    → AreAlike (inside_state s place) (inside_state u p)
inside-alike s u place p a = record { nodes = a.nodes; linked = a.linked }

behind-alike : {N : Type 0} (s u t v : CodingState N) → AreAlike t v
    → AreAlike (behind_state s t) (behind_state u v)
behind-alike s u t v a = record { nodes = a.nodes; linked = a.linked }

inside-rising : {N : Type 0} (first : ℕ) (u : CodingState N) (p : ℕ) → IsRising first u p
    → IsRising first (inside_state u p) 1
inside-rising first u p g = record {
  rising = g.rising;
  above = g.above;
  below = λ i h. let low = g.below i h in omega (arith, low);
  reached = let low = g.reached in omega (arith, low);
}

module _ {F N X : Type 0} (c : CdrFault → F) (t : Sound F N X) where
  abbrev here : StatefulFormat F N X
  here = encapsulation_format c t.format

  pub encapsulation-found : (s : CodingState N) (a : At) (v : X × CodingState N) (next : At)
      → a.origin ≤ a.place → here.reads s a ≡ Ok (v, next) → FoundSpelling (here.spells s) a v next
  encapsulation-found s a v next h e =
      let inner = inside_state s (a.place - a.origin) in
      let made : (X × CodingState N) × At = (v, next) in
      let x =
      bind_ok (enclosed_read c (t.format.reads inner) a)
      (λ x. Ok ((x.0.0, behind_state s x.0.1), x.1)) made e in
      let same : ((x.0.0.0, behind_state s x.0.0.1), x.0.1) ≡ made =
      ok_is {F = F} ((x.0.0.0, behind_state s x.0.0.1), x.0.1) made x.2 in
      let f =
      inside-found_at c (t.format.spells inner) (t.format.reads inner)
      (t.joins inner) a x.0.0 x.0.1 h x.1 in
      subst (λ (p : (X × CodingState N) × At). FoundSpelling (here.spells s) a p.0 p.1) same
      (record {
        bytes = f.bytes;
        spelled = (x.0.0.1, f.spelled, refl);
        parts = f.parts;
        moved = f.moved;
      })

  pub encapsulation-only : (s : CodingState N) (a : At) (v : X × CodingState N) (b rest : List ℕ)
      → a.origin ≤ a.place → here.spells s a.order (a.place - a.origin) v b → a.rest ≡ b ++ rest
      → here.reads s a ≡ Ok (v, after (length b) a)
  encapsulation-only s a v b rest h p e =
      let inner = inside_state s (a.place - a.origin) in
      let one =
      inside-only_at c (t.format.spells inner) (t.format.reads inner)
      (t.joins inner) a (v.0, p.0) b rest h p.1 e in
      let same : (v.0, behind_state s p.0) ≡ v = ap (λ (z : CodingState N). (v.0, z)) (sym p.2) in
      rw one (ap (λ (w : X × CodingState N). done {F = F} (w, after (length b) a)) same)

  encapsulation-refuses-from : (s inner : CodingState N)
      → Refuses {Y = X × CodingState N} (WithinFault c (t.format.faults inner))
      (λ a. enclosed_read c (t.format.reads inner) a >>= λ x.
      Ok ((x.0.0, behind_state s x.0.1), x.1))
  encapsulation-refuses-from s inner =
      mapped-refuses (WithinFault c (t.format.faults inner))
      (enclosed_read c (t.format.reads inner)) (λ x. ((x.0.0, behind_state s x.0.1), x.1))
      (within-refuses c (t.format.faults inner) (t.format.reads inner) (t.refuses inner))

  pub encapsulation-refuses : (s : CodingState N) → Refuses (here.faults s) (here.reads s)
  encapsulation-refuses s = record {
    content = λ a f h e.
        (encapsulation-refuses-from s (inside_state s (a.place - a.origin))).content a f
        h e;
    only = λ a f h d. (encapsulation-refuses-from s (inside_state s (a.place - a.origin))).only a f
        h d;
  }

  pub encapsulation-grows : (s : CodingState N) (order : Order) (place : ℕ) (x : X)
      (next : CodingState N)
      (b : List ℕ)
      → here.spells s order place (x, next) b → KeepsSlots s next
  encapsulation-grows s order place x next b sp =
      let q = sp.1 in
      let g = t.grows (inside_state s place) (order_of q.little) 1 x sp.0 q.body q.spelled in
      record {
        more = g.more;
        table = ap (λ (z : CodingState N). z.table) sp.2 ∙ g.table;
        base = ap (λ (z : CodingState N). z.base) sp.2;
      }

  pub encapsulation-transfers : Transfers here
  encapsulation-transfers graph first s u order o place p x next b octets sp agrees alike good
      short =
      let q = sp.1 in
      let all : AreOctets (q.octets.count ++ (q.flag ∷ (q.body ++ q.ignored))) =
      subst AreOctets q.octets.parts octets in
      let behind =
      octets-back (q.flag ∷ []) (q.body ++ q.ignored)
      (octets-back q.octets.count (q.flag ∷ (q.body ++ q.ignored)) all) in
      let body = t.format.writes graph (inside_state u p) x o 1 in
      let reached = good.reached in
      let few : length (flag o ∷ body) < 2 ^ 32 = octets-few o p (flag o ∷ body)
      (omega (arith, short, reached)) in
      let size : length (written_octets o p (flag o ∷ body))
      ≡ gap 4 p + 4 + length (flag o ∷ body) =
      octets-size o p (flag o ∷ body) few in
      let one : length (flag o ∷ body) ≡ suc (length body) = refl in
      let inner =
      t.transfers graph first (inside_state s place) (inside_state u p)
      (order_of q.little) o 1 1 x sp.0 q.body (octets-front q.body q.ignored behind) q.spelled
      (record {
        each = λ i k l. agrees.each i k
            (subst (λ (z : CodingState N). i < length z.table) (sym sp.2) l)
            ∙ ap (λ (z : CodingState N). nth (nodes z) i) sp.2;
      })
      (inside-alike s u place p alike) (inside-rising first u p good)
      (omega (arith, short, size, one)) in
      let base = (t.grows (inside_state u p) o 1 x (t.format.leaves graph (inside_state u p) x o 1)
      body inner.spelled).base in
      record {
        spelled = (
          t.format.leaves graph (inside_state u p) x o 1,
          wrapped (t.format.spells (inside_state u p)) o p
              (x, t.format.leaves graph (inside_state u p) x o 1) body few
              inner.spelled,
          refl,
        );
        alike =
            subst (λ (z : CodingState N). AreAlike z
            (behind_state u (t.format.leaves graph (inside_state u p) x o 1))) (sym sp.2)
            (behind-alike s u sp.0 (t.format.leaves graph (inside_state u p) x o 1) inner.alike);
        good = record {
          rising = inner.good.rising;
          above = inner.good.above;
          below = λ i h. let low = inner.good.below i h in omega (arith, low, base, size, one);
          reached = omega (arith, reached);
        };
      }

  abbrev pub encapsulation : Sound F N X
  encapsulation = record {
    format = encapsulation_format c t.format;
    joins = λ s. record { found = encapsulation-found s; only = encapsulation-only s };
    refuses = encapsulation-refuses;
    grows = encapsulation-grows;
    transfers = encapsulation-transfers;
  }
