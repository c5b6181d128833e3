-- Words that are numbers in decimal, without leading zeros.
use Rattle.std.proofs.Common.{rules, ◌≡◌, ℕ, ◌^◌, ◌<◌, ◌≤◌, ◌&&◌, nat_lt, Bool, true, false, List, length, get_or, zero}
use Rattle.std.proofs.Common.{suc, Option, Some, None, Result, Ok, Err, refl, sym, ap, ◌∙◌, arith, if◌then◌else◌}
use Rattle.std.proofs.lemmas.Bool.{lt-ltb, le-ltb}
use Rattle.std.proofs.lemmas.Bool.Decides.{nat_tests}
use Rattle.std.proofs.lemmas.Fmt.{IsAscii-from_digits, decimal-digits_value, digits_decimal, digits_value-decimal}
use Rattle.std.proofs.lemmas.Fmt.{decimal_nonempty, first_decimal, decimal_digit}
use Rattle.std.proofs.lemmas.Str.{IsUtf8-from_ascii}
use Rattle.std.proofs.lemmas.Str.Parse.{IsNumeralModel, numerals_by_fold, parse_digits}
use Rattle.std.specs.Fmt.{decimal}
use Rattle.std.specs.List.{list_all}
use Rattle.std.specs.Result.{result_ok}
use Rattle.std.specs.Str.{IsUtf8}
use Rattle.std.specs.Str.Parse.{ParsesUnsigned}
use Rattle.td_cdr.specs.Names.{is_digit}
use Rattle.td_ior.specs.Number.{SpellsBelow, leads_with_zero, numeral, number_after, number_below, number_of}

own : IsNumeralModel (λ ds. list_all is_digit ds ≡ true) (number_after 0)
own = numerals_by_fold (λ ds. list_all is_digit ds ≡ true) (search rules) number_after (search rules)

abbrev chosen_below : Bool → ℕ → ℕ → Option ℕ
chosen_below t limit n = if t && nat_lt n limit then Some n else None

pub below-none : (limit : ℕ) (word : List ℕ) → numeral word ≡ false → number_below limit word ≡ None
unfolding number_below
below-none limit word e = ap (λ (t : Bool). chosen_below t limit (number_after 0 word)) e

below-some : (limit : ℕ) (word : List ℕ) → numeral word ≡ true → number_after 0 word < limit
    → number_below limit word ≡ Some (number_after 0 word)
unfolding number_below
below-some limit word e h =
    ap (λ (t : Bool). chosen_below t limit (number_after 0 word)) e
    ∙ ap (λ (t : Bool). if t then Some (number_after 0 word) else None) (lt-ltb (number_after 0 word) limit h)

pub below-large : (limit : ℕ) (word : List ℕ) → limit ≤ number_after 0 word → number_below limit word ≡ None
unfolding number_below
below-large limit word h = rw (le-ltb (number_after 0 word) limit h) (grind (arith))

pub record IsNumeral (word : List ℕ) : Type 0 where
  pub digits : list_all is_digit word ≡ true
  pub some : 0 < length word
  pub plain : leads_with_zero word ≡ false

pub numeral-parts : (word : List ℕ) → numeral word ≡ true → IsNumeral word
numeral-parts word e = record {
  digits = grind (arith, nat_tests);
  some = grind (arith, nat_tests);
  plain = grind (arith, nat_tests);
}

pub numeral-text : (word : List ℕ) → numeral word ≡ true → IsUtf8 word
numeral-text word e = IsUtf8-from_ascii word (IsAscii-from_digits word (own.to word (numeral-parts word e).digits))

pub parsed : {E : Type 0} (word : List ℕ) (r : Result ℕ E) → numeral word ≡ true → ParsesUnsigned 64 10 word r
    → result_ok r ≡ number_of word
parsed {E = E} word (Ok n) e h =
    let p = numeral-parts word e in
    let k = parse_digits own {E = E} 64 word (Ok n) h p.digits in
    ap (λ (m : ℕ). Some m) k.1 ∙ sym (below-some (2 ^ 64) word e k.0.1)
parsed {E = E} word (Err d) e h =
    let p = numeral-parts word e in
    let k = parse_digits own {E = E} 64 word (Err d) h p.digits in
    let big : number_after 0 word < 2 ^ 64 → ⊥ = λ lt. k (p.some, lt) in
    sym (below-large (2 ^ 64) word (omega arith))

if_some : (b : Bool) (v n : ℕ) → (if b then Some v else None) ≡ Some n → (b ≡ true) × (v ≡ n)
if_some true v n e = (refl, cc)
if_some false v n e = absurd cc

if_none : (b : Bool) (v : ℕ) → (if b then Some v else None) ≡ None → b ≡ false
if_none true v e = absurd cc
if_none false v e = refl

pub and-left : (a b : Bool) → (a && b) ≡ true → a ≡ true
and-left true b e = refl
and-left false b e = e

pub and-right : (a b : Bool) → (a && b) ≡ true → b ≡ true
and-right true b e = e
and-right false b e = absurd cc

pub record IsBelow (limit : ℕ) (word : List ℕ) (n : ℕ) : Type 0 where
  pub numeral_is : numeral word ≡ true
  pub same : number_after 0 word ≡ n
  pub below : n < limit

both-true : (limit : ℕ) (word : List ℕ) (n : ℕ) → (numeral word && nat_lt (number_after 0 word) limit) ≡ true
    → number_after 0 word ≡ n → IsBelow limit word n
both-true limit word n b e =
    let lt = and-right (numeral word) (nat_lt (number_after 0 word) limit) b in
    record {
      numeral_is = and-left (numeral word) (nat_lt (number_after 0 word) limit) b;
      same = e;
      below = grind (arith, nat_tests);
    }

pub below-parts : (limit : ℕ) (word : List ℕ) (n : ℕ) → number_below limit word ≡ Some n → IsBelow limit word n
unfolding number_below
below-parts limit word n e =
    let p = if_some (numeral word && nat_lt (number_after 0 word) limit) (number_after 0 word) n e in
    both-true limit word n p.0 p.1

pub below-made : (limit : ℕ) (word : List ℕ) (n : ℕ) → IsBelow limit word n → number_below limit word ≡ Some n
below-made limit word n h = below-some limit word h.numeral_is (omega arith) ∙ ap (λ (m : ℕ). Some m) h.same

pub below-not : (limit : ℕ) (word : List ℕ) → numeral word ≡ true → number_below limit word ≡ None
    → limit ≤ number_after 0 word
unfolding number_below
below-not limit word t e =
    let f = if_none (numeral word && nat_lt (number_after 0 word) limit) (number_after 0 word) e in
    let g : nat_lt (number_after 0 word) limit ≡ false =
    ap (λ (x : Bool). x && nat_lt (number_after 0 word) limit) (sym t) ∙ f in
    grind (arith, nat_tests)

-- ---- numbers below a limit, from numbers of 64 bits

none-at : (limit : ℕ) (t : Bool) (word : List ℕ) → limit ≤ 2 ^ 64 → numeral word ≡ t → number_of word ≡ None
    → number_below limit word ≡ None
none-at limit true word low t e = let big = below-not (2 ^ 64) word t e in below-large limit word (omega arith)
none-at limit false word low t e = below-none limit word t

pub limit-none : (limit : ℕ) (word : List ℕ) → limit ≤ 2 ^ 64 → number_of word ≡ None → number_below limit word ≡ None
limit-none limit word low e = none-at limit (numeral word) word low refl e

pub limit-some : (limit : ℕ) (word : List ℕ) (n : ℕ) → number_of word ≡ Some n → n < limit
    → number_below limit word ≡ Some n
limit-some limit word n e h =
    let p = below-parts (2 ^ 64) word n e in
    below-made limit word n (record { numeral_is = p.numeral_is; same = p.same; below = h })

pub limit-large : (limit : ℕ) (word : List ℕ) (n : ℕ) → number_of word ≡ Some n → limit ≤ n
    → number_below limit word ≡ None
limit-large limit word n e h =
    let p = below-parts (2 ^ 64) word n e in
    below-large limit word (omega arith)

-- ---- what is read is spelled so, and only so

alone : (word : List ℕ) → IsNumeral word → get_or word 0 0 ≡ 48 → length word ≡ 1
alone word q e = grind (arith, nat_tests, q.plain, q.some)

pub below-read : (limit : ℕ) (word : List ℕ) (n : ℕ) → limit ≤ 2 ^ 64 → number_below limit word ≡ Some n
    → SpellsBelow limit word n
below-read limit word n low e =
    let p = below-parts limit word n e in
    let q = numeral-parts word p.numeral_is in
    let one : get_or word 0 0 ≡ 48 → length word ≡ 1 = alone word q in
    record {
      below = p.below;
      printed = sym (decimal-digits_value own word q.digits q.some one (omega arith)) ∙ ap decimal p.same;
    }

-- what is printed has no leading zero
plain-decimal : (n : ℕ) → n < 2 ^ 64 → leads_with_zero (decimal n) ≡ false
plain-decimal zero h = rw (decimal_digit 0 (omega arith)) refl
plain-decimal (suc n) h = let first = first_decimal (suc n) (omega arith) h in grind (arith, nat_tests)

numeral-made : (word : List ℕ) → IsNumeral word → numeral word ≡ true
numeral-made word h = rw (h.digits, h.plain) (grind (arith, nat_tests, h.some))

pub below-only : (limit : ℕ) (word : List ℕ) (n : ℕ) → limit ≤ 2 ^ 64 → SpellsBelow limit word n
    → number_below limit word ≡ Some n
below-only limit word n low s =
    let short : n < 2 ^ 64 = omega arith in
    let word_is =
    numeral-made (decimal n) (record
    { digits = digits_decimal own n short; some = decimal_nonempty n short; plain = plain-decimal n short }) in
    let here =
    below-made limit (decimal n) n
    (record { numeral_is = word_is; same = digits_value-decimal own n short; below = s.below }) in
    ap (number_below limit) s.printed ∙ here
