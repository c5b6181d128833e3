-- The text of a generated file is of octets.
use Rattle.std.proofs.Common.{rules, codes, ◌≡◌, ℕ, zero, suc, ◌+◌, ◌^◌, ◌<◌, ◌≤◌, nat_eq, nat_lt, Bool, true, false}
use Rattle.std.proofs.Common.{◌%◌, List, [], ◌∷◌, ◌++◌, slice_index, refl, arith, ◌&&◌, if◌then◌else◌}
use Rattle.std.proofs.lemmas.Bool.Decides.{nat_tests}
use Rattle.std.proofs.lemmas.Fmt.{digits_decimal}
use Rattle.std.proofs.lemmas.Str.Parse.{IsNumeralModel, numerals_by_fold}
use Rattle.std.specs.Fmt.{decimal}
use Rattle.std.specs.List.{list_all}
use Rattle.td_cdr.specs.Lawful.{AreOctets}
use Rattle.td_cdr.specs.Names.{is_digit}
use Rattle.td_ior.proofs.Numbers.{and-left, and-right}
use Rattle.td_ior.specs.Number.{number_after}
use Rattle.td_make.specs.Generated.{chord_after, cost, cost_line, first_offers, first_traders, generated_file}
use Rattle.td_make.specs.Generated.{trader_heading}
use Rattle.td_make.specs.Generated.{link_line, link_lines, next_after, offer_line, offer_lines, offer_type}
use Rattle.td_make.specs.Generated.{trader_lines}
use Rattle.td_forms.specs.Counted.{label_number}

abbrev is_small : ℕ → Bool
is_small b = nat_lt b 256

abbrev small : List ℕ → Bool
small text = list_all is_small text

both : (s t : Bool) → s ≡ true → t ≡ true → (s && t) ≡ true
both true t e f = f
both false t e f = e

joined : (xs ys : List ℕ) → small xs ≡ true → small ys ≡ true → small (xs ++ ys) ≡ true
joined [] ys h k = k
joined (x ∷ xs) ys h k =
    both (is_small x) (small (xs ++ ys)) (and-left (is_small x) (small xs) h)
    (joined xs ys (and-right (is_small x) (small xs) h) k)

small-octets : (text : List ℕ) → small text ≡ true → AreOctets text
small-octets text h = record { each = at text h } where
  at : (xs : List ℕ) → small xs ≡ true → (i : ℕ) → slice_index xs i < 256
  at [] h i = omega arith
  at (x ∷ xs) h zero = let low = and-left (is_small x) (small xs) h in grind (arith, nat_tests, low)
  at (x ∷ xs) h (suc i) = at xs (and-right (is_small x) (small xs) h) i

-- ---- numbers

own : IsNumeralModel (λ ds. list_all is_digit ds ≡ true) (number_after 0)
own = numerals_by_fold (λ ds. list_all is_digit ds ≡ true) (search rules) number_after (search rules)

digit-small : (x : ℕ) → is_digit x ≡ true → is_small x ≡ true
digit-small x e = grind (arith, nat_tests)

digits-small : (xs : List ℕ) → list_all is_digit xs ≡ true → small xs ≡ true
digits-small [] h = refl
digits-small (x ∷ xs) h =
    both (is_small x) (small xs) (digit-small x (and-left (is_digit x) (list_all is_digit xs) h))
    (digits-small xs (and-right (is_digit x) (list_all is_digit xs) h))

number-small : (n : ℕ) → n < 2 ^ 64 → small (decimal n) ≡ true
number-small n h = digits-small (decimal n) (digits_decimal own n h)

counted-small : (label : List ℕ) (n : ℕ) → small label ≡ true → n < 2 ^ 64 → small (label_number label n) ≡ true
counted-small label n l h = joined label (decimal n) l (number-small n h)

-- ---- the lines

type-small : (number : ℕ) → small (offer_type number) ≡ true
type-small number = by (nat_eq (number % 2) 1) where
  by : (b : Bool) → small (if b then codes "Base" else codes "Sub") ≡ true
  by true = refl
  by false = refl

offer-small : (trader number : ℕ) → trader ≤ 64 → number < 2 ^ 64 → small (offer_lines trader number) ≡ true
offer-small trader number t n =
    let named : small (codes "offer " ++ offer_type number) ≡ true =
    joined (codes "offer ") (offer_type number) refl (type-small number) in
    let placed = counted-small (codes " ref:IDL:Item:1.0,h,9,") trader refl (omega (arith, t)) in
    let counted_one = counted-small (codes ".") number refl n in
    let first : small (offer_line trader number) ≡ true =
    joined (codes "offer " ++ offer_type number ++ label_number (codes " ref:IDL:Item:1.0,h,9,") trader
    ++ label_number (codes ".") number) (codes "\n")
    (joined (codes "offer " ++ offer_type number ++ label_number (codes " ref:IDL:Item:1.0,h,9,") trader)
    (label_number (codes ".") number)
    (joined (codes "offer " ++ offer_type number) (label_number (codes " ref:IDL:Item:1.0,h,9,") trader) named placed)
    counted_one) refl in
    let few : cost trader number < 2 ^ 64 = omega arith in
    let second : small (cost_line trader number) ≡ true =
    joined (label_number (codes "with ulong Cost ") (cost trader number)) (codes "\n")
    (counted-small (codes "with ulong Cost ") (cost trader number) refl few) refl in
    joined (offer_line trader number) (cost_line trader number) first second

offers-small : (trader count : ℕ) → trader ≤ 64 → count ≤ 10 → small (first_offers trader count) ≡ true
offers-small trader zero t c = refl
offers-small trader (suc done) t c =
    joined (first_offers trader done) (offer_lines trader (suc done)) (offers-small trader done t (omega (arith, c)))
    (offer-small trader (suc done) t (omega (arith, c)))

link-small : (label : List ℕ) (trader : ℕ) → small label ≡ true → trader < 2 ^ 64
    → small (link_line label trader) ≡ true
link-small label trader l t =
    joined (label_number label trader) (codes " always always\n") (counted-small label trader l t) refl

links-small : (count trader : ℕ) → 1 ≤ count → count ≤ 64 → small (link_lines count trader) ≡ true
links-small count trader least most =
    let next : next_after count trader ≤ 64 = omega (arith, least, most) in
    let chord : chord_after count trader ≤ 64 = omega (arith, least, most) in
    joined (link_line (codes "link next T") (next_after count trader))
    (link_line (codes "link chord T") (chord_after count trader))
    (link-small (codes "link next T") (next_after count trader) refl (omega (arith, next)))
    (link-small (codes "link chord T") (chord_after count trader) refl (omega (arith, chord)))

trader-small : (count trader : ℕ) → 1 ≤ count → count ≤ 64 → trader ≤ 64 → small (trader_lines count trader) ≡ true
trader-small count trader least most t =
    joined (trader_heading trader ++ first_offers trader 10) (link_lines count trader)
    (joined (trader_heading trader) (first_offers trader 10)
    (joined (label_number (codes "trader T") trader) (codes "\ntype Base -\nprop mandatory ulong Cost\ntype Sub - Base\n")
    (counted-small (codes "trader T") trader refl (omega (arith, t))) refl)
    (offers-small trader 10 t (omega arith)))
    (links-small count trader least most)

traders-small : (count done : ℕ) → 1 ≤ count → count ≤ 64 → done ≤ 64 → small (first_traders count done) ≡ true
traders-small count zero least most d = refl
traders-small count (suc done) least most d =
    joined (first_traders count done) (trader_lines count (suc done))
    (traders-small count done least most (omega (arith, d))) (trader-small count (suc done) least most d)

pub generated-octets : (count : ℕ) → 1 ≤ count → count ≤ 64 → AreOctets (generated_file count)
generated-octets count least most =
    small-octets (generated_file count)
    (joined (codes "address 127.0.0.1 2809\n") (first_traders count count) refl
    (traders-small count count least most most))
