-- What stands alone as the octets of an encapsulation is read as it is spelled, and only so.
use Rattle.std.proofs.Common.{◌≡◌, ℕ, ◌+◌, ◌^◌, ◌<◌, nat_eq, nat_lt, Bool, true, false, List, [], ◌∷◌, ◌++◌, length}
use Rattle.std.proofs.Common.{Option, Some, None, Ok, Err, refl, sym, ap, subst, ◌∙◌, arith, if◌then◌else◌}
use Rattle.std.proofs.lemmas.List.{append-nil, drop_at}
use Rattle.std.proofs.lemmas.Bool.{eqb-true, lt-ltb}
use Rattle.std.proofs.lemmas.Bool.Decides.{nat_tests}
use Rattle.td_cdr.specs.declared.order.Order.TheVariants.{Big}
use Rattle.td_cdr.specs.Place.{At}
use Rattle.td_cdr.specs.Spelling.{IsFlag}
use Rattle.td_cdr.specs.Format.{Read}
use Rattle.td_cdr.specs.Reading.{after}
use Rattle.td_cdr.specs.Sound.{Sound}
use Rattle.td_cdr.specs.declared.value_fault.ValueFault.{ValueFault}
use Rattle.td_ior.specs.Enclosed.{Encloses, behind, start, start_of, value_in, enclosed_in, encapsulate_value}
use Rattle.td_ior.proofs.Keys.{bind-Some, some-is}

abbrev some_at : At → Option At
some_at a = Some a

abbrev read_as : {Y : Type 0} → Y → At → Read ValueFault Y
read_as v a = Ok (v, a)

record Starts (octets : List ℕ) (a : At) : Type 0 where
  little : Bool
  octet : ℕ
  body : List ℕ
  content : IsFlag little octet
  parts : octets ≡ octet ∷ body
  short : length octets < 2 ^ 32
  is : start little body ≡ a

order-content : (t u : Bool) (octet : ℕ) (body : List ℕ) (a : At) → length body + 1 < 2 ^ 32 → nat_eq octet 0 ≡ t
    → nat_eq octet 1 ≡ u
    → (if t then some_at (start false body) else if u then some_at (start true body) else None) ≡ Some a
    → Starts (octet ∷ body) a
order-content true u octet body a h e f g = record {
  little = false;
  octet = octet;
  body = body;
  content = eqb-true octet 0 e;
  parts = refl;
  short = omega arith;
  is = some-is (start false body) a g;
}
order-content false true octet body a h e f g = record {
  little = true;
  octet = octet;
  body = body;
  content = eqb-true octet 1 f;
  parts = refl;
  short = omega arith;
  is = some-is (start true body) a g;
}
order-content false false octet body a h e f g = absurd cc

short-content : (t : Bool) (octet : ℕ) (body : List ℕ) (a : At) → nat_lt (length body + 1) (2 ^ 32) ≡ t
    → (if t then (if nat_eq octet 0 then some_at (start false body)
    else if nat_eq octet 1 then some_at (start true body) else None)
    else None)
    ≡ Some a
    → Starts (octet ∷ body) a
short-content true octet body a h g =
    let lt : length body + 1 < 2 ^ 32 = grind (arith, nat_tests) in
    order-content (nat_eq octet 0) (nat_eq octet 1) octet body a lt refl refl g
short-content false octet body a h g = absurd cc

start-found : (octets : List ℕ) (a : At) → start_of octets ≡ Some a → Starts octets a
start-found [] a e = absurd cc
start-found (octet ∷ body) a e = short-content (nat_lt (length body + 1) (2 ^ 32)) octet body a refl e

start-only : (little : Bool) (octet : ℕ) (body : List ℕ) → IsFlag little octet → length (octet ∷ body) < 2 ^ 32
    → start_of (octet ∷ body) ≡ Some (start little body)
start-only false octet body e h = let t = lt-ltb (length body + 1) (2 ^ 32) (omega arith) in rw (t, e) refl
start-only true octet body e h = let t = lt-ltb (length body + 1) (2 ^ 32) (omega arith) in rw (t, e) refl

value-found : {Y : Type 0} (r : Read ValueFault Y) (v : Y) → value_in r ≡ Some v → (next : At) × (r ≡ Ok (v, next))
value-found (Ok x) v e = (x.1, ap (λ (y : _). Ok (y, x.1)) (some-is x.0 v e))
value-found (Err d) v e = absurd cc

-- a reader of these octets stands behind the value
pub record ReadAt {Y : Type 0} (g : Sound ValueFault Y) (octets : List ℕ) (v : Y) (next : At) : Type 0 where
  pub holds : Encloses g octets v
  pub next_is : behind g octets v holds ≡ next

abbrev resting : At → List ℕ → At
resting a rest = record a { rest = rest }

pub read-found : {Y : Type 0} (g : Sound ValueFault Y) (octets : List ℕ) (v : Y) (a next : At) → start_of octets ≡ Some a
    → g.format.reads a ≡ Ok (v, next) → ReadAt g octets v next
read-found g octets v a next begins read =
    let s = start-found octets a begins in
    let at : g.format.reads (start s.little s.body) ≡ Ok (v, next) = ap g.format.reads s.is ∙ read in
    let f = g.lawful.found (start s.little s.body) v next (omega arith) at in
    let there : At = after (length f.bytes) (start s.little s.body) in
    record {
      holds =
          record {
            little = s.little;
            order_octet = s.octet;
            body = f.bytes;
            ignored = next.rest;
            order_of_flag = s.content;
            parts = s.parts ∙ ap (λ (x : List ℕ). s.octet ∷ x) f.parts;
            short = s.short;
            spelled = f.spelled;
          };
      next_is = ap (resting there) (ap (λ (x : At). x.rest) f.moved) ∙ sym f.moved;
    }

pub enclosed-found : {Y : Type 0} (g : Sound ValueFault Y) → (octets : List ℕ) (v : Y) → enclosed_in g octets ≡ Some v
    → Encloses g octets v
enclosed-found {Y = Y} g octets v e =
    let b = bind-Some (start_of octets) (λ (a : At). value_in (g.format.reads a)) v e in
    let n = value-found (g.format.reads b.0) v b.2 in
    let r = read-found g octets v b.0 n.0 b.1 n.1 in
    r.holds

-- where a reader begins, and what it reads
pub record BeginsAt {Y : Type 0} (g : Sound ValueFault Y) (octets : List ℕ) (v : Y) (next : At) : Type 0 where
  pub at : At
  pub begins : start_of octets ≡ Some at
  pub read : g.format.reads at ≡ Ok (v, next)

pub read-only : {Y : Type 0} (g : Sound ValueFault Y) (octets : List ℕ) (v : Y) (s : Encloses g octets v)
    → BeginsAt g octets v (behind g octets v s)
read-only {Y = Y} g octets v s =
    let body : List ℕ = s.body ++ s.ignored in
    let short : length (s.order_octet ∷ body) < 2 ^ 32 = subst (λ (x : List ℕ). length x < 2 ^ 32) s.parts s.short in
    let begins = start-only s.little s.order_octet body s.order_of_flag short in
    let one = g.lawful.only (start s.little body) v s.body s.ignored (omega arith) s.spelled refl in
    let there : At = behind g octets v s in
    let left = ap (resting there) (drop_at s.body s.ignored (length s.body) refl) in
    record {
      at = start s.little body;
      begins = ap start_of s.parts ∙ begins;
      read = one ∙ ap (λ (x : At). read_as v x) left;
    }

pub enclosed-only : {Y : Type 0} (g : Sound ValueFault Y) → (octets : List ℕ) (v : Y) → Encloses g octets v
    → enclosed_in g octets ≡ Some v
enclosed-only g octets v s = let r = read-only g octets v s in rw (r.begins, r.read) refl

-- what is written for a value, behind the octet that tells big order
pub enclosing-holds : {Y : Type 0} (g : Sound ValueFault Y) (v : Y) → g.format.admits v
    → length (encapsulate_value g v) < 2 ^ 32 → Encloses g (encapsulate_value g v) v
enclosing-holds g v ok short = record {
  little = false;
  order_octet = 0;
  body = g.format.writes v Big 1;
  ignored = [];
  order_of_flag = refl;
  parts = ap (λ (x : List ℕ). 0 ∷ x) (sym (append-nil (g.format.writes v Big 1)));
  short = short;
  spelled = g.lawful.written Big 1 v ok (omega (arith, short));
}
