-- Which context a reference leads to.
use Rattle.std.proofs.Common.{codes, ◌≡◌, ℕ, ◌^◌, ◌<◌, ◌≤◌, ◌&&◌, nat_eq, Bool, true, false, List, ◌++◌, length, take}
use Rattle.std.proofs.Common.{drop}
use Rattle.std.proofs.Common.{Option, Some, None, refl, sym, ap, ◌∙◌, arith, if◌then◌else◌, length-append}
use Rattle.std.specs.Fmt.{decimal}
use Rattle.std.specs.Str.{bytes_eq}
use Rattle.std.proofs.lemmas.Bool.{eqb-true}
use Rattle.std.proofs.lemmas.Bool.Decides.{nat_tests}
use Rattle.std.proofs.lemmas.Fmt.{length-decimal-le}
use Rattle.std.proofs.lemmas.List.{take-append-drop}
use Rattle.std.proofs.lemmas.Slice.Eq.{bytes_eq-Decides}
use Rattle.td_typecode.specs.declared.reference.Ior.{Ior}
use Rattle.td_ior.proofs.Numbers.{and-left, and-right, below-only, below-read}
use Rattle.td_ior.proofs.Profiles.{first-agrees, made-found}
use Rattle.td_ior.specs.Laws.{ReadsWhatIsSpelled}
use Rattle.td_ior.specs.Number.{number_below}
use Rattle.td_ior.specs.Profiles.{first_iiop, iiop_of, made_octets}
use Rattle.td_ior.specs.declared.profile.Iiop.{Iiop}
use Rattle.td_names.specs.declared.address.Address.{Address}
use Rattle.td_names.specs.References.{IsAddress, IsContextNumber, LeadsTo, SpellsContext, context_id, context_key}
use Rattle.td_names.specs.References.{context_number, from_one, context_of_reference, number_by, reference_of}
use Rattle.td_cdr.specs.declared.order.Order.{Order}
use Rattle.td_typecode.specs.References.{reference}
use Rattle.td_names.proofs.Lengths.{made-short, made_reference-short}

-- ---- keys

some-is : (m n : ℕ) → ◌≡◌ {A = Option ℕ} (Some m) (Some n) → m ≡ n
some-is m n e = cc

from-one-at : (t : Bool) (m n : ℕ) → nat_eq m 0 ≡ t → ◌≡◌ {A = Option ℕ} (if t then None else Some m) (Some n)
    → (0 < m) × (m ≡ n)
from-one-at true m n z e = absurd cc
from-one-at false m n z e = (grind (arith, nat_tests), some-is m n e)

from-one-found : (o : Option ℕ) (n : ℕ) → from_one o ≡ Some n → (0 < n) × (o ≡ Some n)
from-one-found None n e = absurd cc
from-one-found (Some m) n e =
    let k = from-one-at (nat_eq m 0) m n refl e in
    (omega (arith, k.0, k.1), ap (λ (i : ℕ). Some i) k.1)

word-found : (key word : List ℕ) (n : ℕ) → key ≡ codes "N/" ++ word → from_one (number_below (2 ^ 32) word) ≡ Some n
    → SpellsContext key n
word-found key word n whole e =
    let k = from-one-found (number_below (2 ^ 32) word) n e in
    let s = below-read (2 ^ 32) word n (omega arith) k.1 in
    record {
      number = (k.0, s.below);
      written = whole ∙ ap (λ (x : List ℕ). codes "N/" ++ x) s.printed;
    }

key-found-at : (t : Bool) (key : List ℕ) (n : ℕ) → bytes_eq (take 2 key) (codes "N/") ≡ t
    → (if t then from_one (number_below (2 ^ 32) (drop 2 key)) else None) ≡ Some n → SpellsContext key n
key-found-at true key n front e =
    let whole =
    sym (take-append-drop 2 key)
    ∙ ap (λ (x : List ℕ). x ++ drop 2 key) ((bytes_eq-Decides (take 2 key) (codes "N/")).0 front) in
    word-found key (drop 2 key) n whole e
key-found-at false key n front e = absurd cc

key-found : (key : List ℕ) (n : ℕ) → context_number key ≡ Some n → SpellsContext key n
key-found key n e = key-found-at (bytes_eq (take 2 key) (codes "N/")) key n refl e

made-number : (n : ℕ) → 0 < n → n < 2 ^ 32 → context_number (context_key n) ≡ Some n
made-number n some short =
    let e = below-only (2 ^ 32) (decimal n) n (omega arith) (record { below = short; printed = refl }) in
    let z : nat_eq n 0 ≡ false = grind (arith, nat_tests) in
    rw (e, z) refl

key-only : (key : List ℕ) (n : ℕ) → SpellsContext key n → context_number key ≡ Some n
key-only key n s = ap context_number s.written ∙ made-number n s.number.0 s.number.1

pub keys-agree : ReadsWhatIsSpelled SpellsContext context_number
keys-agree = record { found = key-found; only = key-only }

-- ---- references

number-found-at : (t : Bool) (home : Address) (r : Ior) (p : Iiop) (n : ℕ)
    → (bytes_eq p.host home.host && nat_eq p.port home.port) ≡ t → first_iiop r.profiles ≡ Some p
    → (if t then context_number p.key else None) ≡ Some n → LeadsTo home r n
number-found-at true home r p n same first e = record {
  profile = p;
  first = first-agrees.found r.profiles p first;
  host = (bytes_eq-Decides p.host home.host).0 (and-left (bytes_eq p.host home.host) (nat_eq p.port home.port) same);
  port = eqb-true p.port home.port (and-right (bytes_eq p.host home.host) (nat_eq p.port home.port) same);
  key = key-found p.key n e;
}
number-found-at false home r p n same first e = absurd cc

number-found : (home : Address) (r : Ior) (o : Option Iiop) (n : ℕ) → first_iiop r.profiles ≡ o
    → number_by home o ≡ Some n → LeadsTo home r n
number-found home r None n first e = absurd cc
number-found home r (Some p) n first e =
    number-found-at (bytes_eq p.host home.host && nat_eq p.port home.port) home r p n refl first e

led-found : (home : Address) (r : Ior) (n : ℕ) → context_of_reference home r ≡ Some n → LeadsTo home r n
led-found home r n e = number-found home r (iiop_of r) n refl e

same-host : (a b : List ℕ) → a ≡ b → bytes_eq a b ≡ true
same-host a b e = (bytes_eq-Decides a b).1 e

same-port : (a b : ℕ) → a ≡ b → nat_eq a b ≡ true
same-port a b e = grind (arith, nat_tests)

led-only : (home : Address) (r : Ior) (n : ℕ) → LeadsTo home r n → context_of_reference home r ≡ Some n
led-only home r n s =
    let first : first_iiop r.profiles ≡ Some s.profile = first-agrees.only r.profiles s.profile s.first in
    let host : bytes_eq s.profile.host home.host ≡ true = same-host s.profile.host home.host s.host in
    let port : nat_eq s.profile.port home.port ≡ true = same-port s.profile.port home.port s.port in
    rw (first, host, port) (key-only s.profile.key n s.key)

pub references-agree : (home : Address) → ReadsWhatIsSpelled (LeadsTo home) (context_of_reference home)
references-agree home = record { found = led-found home; only = led-only home }

digits-short : (n : ℕ) → n < 2 ^ 32 → length (decimal n) ≤ 10
digits-short n short = length-decimal-le 10 n (omega arith) (omega (arith, short)) (omega (arith, short))

pub reference-back : (home : Address) (n : ℕ) → IsAddress home → IsContextNumber n
    → context_of_reference home (reference_of home n) ≡ Some n
reference-back home n a is =
    let key : length (context_key n) ≤ 12 = omega (
      arith,
      digits-short n is.1,
      length-append (codes "N/")
          (decimal n),
    ) in
    let short : length (made_octets home.host home.port (context_key n) 0) < 2 ^ 32 =
    omega (arith, made-short home.host (context_key n) home.port, key, a.short, is.1) in
    let first = made-found context_id home.host (context_key n) home.port 0 a.plain a.port (omega arith) short in
    let host : bytes_eq home.host home.host ≡ true = same-host home.host home.host refl in
    let port : nat_eq home.port home.port ≡ true = same-port home.port home.port refl in
    rw (first, host, port) (made-number n is.0 is.1)

pub own-short : (home : Address) (n : ℕ) (order : Order) (place : ℕ) → IsAddress home → n < 2 ^ 32
    → length (reference.format.writes (reference_of home n) order place) ≤ 1200
own-short home n order place a is =
    let key : length (context_key n) ≤ 12 = omega (
      arith,
      digits-short n is,
      length-append (codes "N/")
          (decimal n),
    ) in
    let whole = made_reference-short context_id home.host (context_key n) home.port order place in
    omega (arith, key, whole, a.short)
