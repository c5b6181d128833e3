-- Values seen as others, values that may not stand there, and formats that depend on the nodes so far.
use Rattle.std.proofs.Common.{◌≡◌, ◌+◌, ◌^◌, ◌<◌, ◌≤◌, Bool, true, false, cond, IsTrue, List, length}
use Rattle.std.proofs.Common.{Ok, Err, refl, ap, subst, inl, inr}
use Rattle.std.specs.Prelude.{if◌then◌else◌, Option, Some, None}
use Rattle.td_cdr.specs.Place.{At}
use Rattle.td_cdr.specs.Reading.{after}
use Rattle.td_cdr.specs.Spelling.{FoundSpelling, Joins}
use Rattle.td_cdr.specs.Format.{◌>>=◌, none_or}
use Rattle.td_cdr.specs.FormatFaults.{RestrictionFault}
use Rattle.td_cdr.specs.Faults.{Refuses}
use Rattle.td_cdr.specs.Joined.{bind_ok, done, ok_is}
use Rattle.td_cdr.specs.Refused.{bind_err, read_again, mapped-refuses}
use Rattle.td_indirection.specs.States.{CodingState, nodes}
use Rattle.td_indirection.specs.Stateful.{StatefulFormat, IsWritten, Transfers, Sound}

-- ---- values seen as others

abbrev pub leaves_or : {N X : Type 0} → (X → CodingState N) → CodingState N → Option X
    → CodingState N
leaves_or leaves s (Some x) = leaves x
leaves_or leaves s None = s

abbrev pub variant_format : {F N X Y : Type 0} → (X → Y) → (Y → Option X) → StatefulFormat F N X
    → StatefulFormat F N Y
variant_format {X = X} to from t = record {
  reads = λ s a. t.reads s a >>= λ x. Ok ((to x.0.0, x.0.1), x.1);
  spells = λ s order place v b. (x : X) × (to x ≡ v.0) × t.spells s order place (x, v.1) b;
  faults = t.faults;
  writes = λ graph s y. none_or (t.writes graph s) (from y);
  leaves = λ graph s y order place. leaves_or (λ x. t.leaves graph s x order place) s (from y);
}

module _ {F N X Y : Type 0} (to : X → Y) (from : Y → Option X)
    (back : (x : X) → from (to x) ≡ Some x) (t : Sound F N X) where
  abbrev seen : StatefulFormat F N Y
  seen = variant_format to from t.format

  pub variant-joins : (s : CodingState N) → Joins (seen.spells s) (seen.reads s)
  variant-joins s = record {
    found = λ a v next h e.
        let made : (Y × CodingState N) × At = (v, next) in
        let x = bind_ok (t.format.reads s a) (λ x. Ok ((to x.0.0, x.0.1), x.1)) made e in
        let same : ((to x.0.0.0, x.0.0.1), x.0.1)
        ≡ made = ok_is {F = F} ((to x.0.0.0, x.0.0.1), x.0.1) made x.2 in
        let f = (t.joins s).found a x.0.0 x.0.1 h x.1 in
        subst (λ (p : (Y × CodingState N) × At). FoundSpelling (seen.spells s) a p.0 p.1) same
        (record {
          bytes = f.bytes;
          spelled = (x.0.0.0, refl, f.spelled);
          parts = f.parts;
          moved = f.moved;
        });
    only = λ a v b rest h p e.
        let one = (t.joins s).only a (p.0, v.1) b rest h p.2 e in
        rw one (ap (λ (y : Y). done {F = F} ((y, v.1), after (length b) a)) p.1);
  }

  pub variant-transfers : Transfers seen
  variant-transfers graph first s u order o place p y next b octets sp agrees alike good =
      subst
      (λ (z : Y). u.base + p + length (seen.writes graph u z o p) < first + 2 ^ 32
      → IsWritten seen graph first next z u o p)
      sp.1
      (λ short.
      let w =
      t.transfers graph first s u order o place p sp.0 next b octets sp.2 agrees alike good
      (subst
      (λ (x : Option X). u.base + p + length (none_or (t.format.writes graph u) x o p)
      < first + 2 ^ 32) (back sp.0) short) in
      let written : seen.writes graph u (to sp.0) o p ≡ t.format.writes graph u sp.0 o p =
      ap (λ (x : Option X). none_or (t.format.writes graph u) x o p) (back sp.0) in
      let leaves : seen.leaves graph u (to sp.0) o p ≡ t.format.leaves graph u sp.0 o p =
      ap (λ (x : Option X). leaves_or (λ x. t.format.leaves graph u x o p) u x) (back sp.0) in
      record {
        spelled = (sp.0, refl, rw (written, leaves) w.spelled);
        alike = rw leaves w.alike;
        good = rw (written, leaves) w.good;
      })

  abbrev pub variant : Sound F N Y
  variant = record {
    format = variant_format to from t.format;
    joins = variant-joins;
    refuses = λ s.
        mapped-refuses (t.format.faults s) (t.format.reads s) (λ x. ((to x.0.0, x.0.1), x.1))
        (t.refuses s);
    grows = λ s order place y next b sp. t.grows s order place sp.0 next b sp.2;
    transfers = variant-transfers;
  }

-- ---- only such values, by what the nodes are; the fault of another may name where it stands

abbrev pub restriction_format : {F N X : Type 0} → (List N → X → Bool)
    → (CodingState N → X → At → F)
    → StatefulFormat F N X → StatefulFormat F N X
restriction_format {N = N} {X = X} good bad t = record {
  reads = λ s a. t.reads s a >>= λ x. if good (nodes s) x.0.0 then Ok x else Err (bad s x.0.0 a);
  spells = λ s order place v b. IsTrue (good (nodes s) v.0) × t.spells s order place v b;
  faults = λ s. RestrictionFault (t.spells s) (λ v. good (nodes s) v.0) (λ v. bad s v.0)
      (t.faults s);
  writes = t.writes;
  leaves = t.leaves;
}

check_ok : {F A : Type 0} (b : Bool) (d : F) (x y : A) → cond b (done x) (Err d) ≡ Ok y → IsTrue b
    × (x ≡ y)
check_ok true d x y e = (refl, cc)
check_ok false d x y e = absurd cc

check_is : {F A : Type 0} (b : Bool) (d : F) (x : A) → IsTrue b → cond b (done x) (Err d) ≡ Ok x
check_is true d x t = refl
check_is false d x t = absurd cc

unfit_err : {F A : Type 0} (ok : Bool) (x : A) (d f : F) → cond ok (Ok x) (Err d) ≡ Err f
    → (ok ≡ false) × (f ≡ d)
unfit_err true x d f e = absurd cc
unfit_err false x d f e = (refl, cc)

module _ {F N X : Type 0} (fit : List N → X → Bool) (bad : CodingState N → X → At → F)
    (t : Sound F N X) where
  abbrev some : StatefulFormat F N X
  some = restriction_format fit bad t.format

  pub restriction-joins : (s : CodingState N) → Joins (some.spells s) (some.reads s)
  restriction-joins s = record {
    found = λ a v next h e.
        let made : (X × CodingState N) × At = (v, next) in
        let x =
        bind_ok (t.format.reads s a) (λ x. cond (fit (nodes s) x.0.0) (Ok x) (Err (bad s x.0.0 a)))
        made e in
        let c = check_ok (fit (nodes s) x.0.0.0) (bad s x.0.0.0 a) x.0 made x.2 in
        let f = (t.joins s).found a x.0.0 x.0.1 h x.1 in
        subst (λ (p : (X × CodingState N) × At). FoundSpelling (some.spells s) a p.0 p.1) c.1
        (record { bytes = f.bytes; spelled = (c.0, f.spelled); parts = f.parts; moved = f.moved });
    only = λ a v b rest h p e.
        rw ((t.joins s).only a v b rest h p.1 e)
        (check_is (fit (nodes s) v.0) (bad s v.0 a) (v, after (length b) a) p.0);
  }

  restriction-content : (s : CodingState N) (a : At) (f : F) → a.origin ≤ a.place → some.reads s a
      ≡ Err f
      → some.faults s a f
  restriction-content s a f h e =
      elim (bind_err (t.format.reads s a)
      (λ x. cond (fit (nodes s) x.0.0) (Ok x) (Err (bad s x.0.0 a))) f e) [
        | inl d ↦ RestrictionFault.unread ((t.refuses s).content a f h d)
        | inr d ↦ let u = unfit_err (fit (nodes s) d.0.0.0) d.0 (bad s d.0.0.0 a) f d.2 in
            RestrictionFault.unfit d.0.0 d.0.1 ((t.joins s).found a d.0.0 d.0.1 h d.1) u.0 u.1
      ]

  restriction-refused : (s : CodingState N) (a : At) (f : F) → a.origin ≤ a.place
      → some.faults s a f
      → some.reads s a ≡ Err f
  restriction-refused s a f h (RestrictionFault.unread d) = rw ((t.refuses s).only a f h d) refl
  restriction-refused s a f h (RestrictionFault.unfit x next found unfit is) =
      let one = read_again (t.format.spells s) (t.format.reads s) (t.joins s) a x next h found in
      rw (one, unfit, is) refl

  pub restriction-refuses : (s : CodingState N) → Refuses (some.faults s) (some.reads s)
  restriction-refuses s = record { content = restriction-content s; only = restriction-refused s }

  pub restriction-transfers : Transfers some
  restriction-transfers graph first s u order o place p x next b octets sp agrees alike good short =
      let w = t.transfers graph first s u order o place p x next b octets sp.1 agrees alike good
      short in
      record {
        spelled = (subst (λ (ns : List N). IsTrue (fit ns x)) alike.nodes sp.0, w.spelled);
        alike = w.alike;
        good = w.good;
      }

  abbrev pub restriction : Sound F N X
  restriction = record {
    format = restriction_format fit bad t.format;
    joins = restriction-joins;
    refuses = restriction-refuses;
    grows = λ s order place x next b sp. t.grows s order place x next b sp.1;
    transfers = restriction-transfers;
  }

-- ---- a format that depends on the nodes so far

abbrev pub on_nodes_format : {F N X : Type 0} → (List N → StatefulFormat F N X)
    → StatefulFormat F N X
on_nodes_format f = record {
  reads = λ s. (f (nodes s)).reads s;
  spells = λ s. (f (nodes s)).spells s;
  faults = λ s. (f (nodes s)).faults s;
  writes = λ graph s. (f (nodes s)).writes graph s;
  leaves = λ graph s. (f (nodes s)).leaves graph s;
}

module _ {F N X : Type 0} (f : List N → Sound F N X) where
  abbrev chosen : StatefulFormat F N X
  chosen = on_nodes_format (λ ns. (f ns).format)

  pub on_nodes-transfers : Transfers chosen
  on_nodes-transfers graph first s u order o place p x next b octets sp agrees alike good short =
      let here = subst (λ (ns : List N). (f ns).format.spells s order place (x, next) b)
      alike.nodes sp in
      let w = (f (nodes u)).transfers graph first s u order o place p x next b octets here agrees
      alike good short in
      record { spelled = w.spelled; alike = w.alike; good = w.good }

  abbrev pub on_nodes : Sound F N X
  on_nodes = record {
    format = on_nodes_format (λ ns. (f ns).format);
    joins = λ s. (f (nodes s)).joins s;
    refuses = λ s. (f (nodes s)).refuses s;
    grows = λ s. (f (nodes s)).grows s;
    transfers = on_nodes-transfers;
  }
