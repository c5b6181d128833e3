-- How long a generated file is at most.
use Rattle.std.proofs.Common.{◌≡◌, ℕ, zero, suc, ◌+◌, ◌*◌, ◌%◌, nat_eq, ◌<◌, ◌≤◌, Bool, true, false, if◌then◌else◌}
use Rattle.std.proofs.Common.{List, [], ◌∷◌, ◌++◌, codes, length, refl, arith, length-append}
use Rattle.td_make.specs.Generated.{chord_after, cost, cost_line, first_offers, first_traders, generated_file}
use Rattle.td_make.specs.Generated.{trader_heading}
use Rattle.td_make.specs.Generated.{link_line, link_lines, next_after, offer_line, offer_lines, offer_type, trader_lines}
use Rattle.td_make_file_laws.proofs.AtMost.{counted-short}
use Rattle.td_forms.specs.Counted.{label_number}

joined : (m n : ℕ) (xs ys : List ℕ) → length xs ≤ m → length ys ≤ n → length (xs ++ ys) ≤ m + n
joined m n xs ys a b = omega (arith, a, b, length-append xs ys)

type-short : (b : Bool) → length (if b then codes "Base" else codes "Sub") ≤ 4
type-short true = omega arith
type-short false = omega arith

offer-lines-short : (trader number : ℕ) → trader ≤ 64 → number ≤ 64 → length (offer_lines trader number) ≤ 300
offer-lines-short trader number t n =
    let kind = type-short (nat_eq (number % 2) 1) in
    let reference = counted-short (codes " ref:IDL:Item:1.0,h,9,") trader t in
    let dotted = counted-short (codes ".") number n in
    let amount = counted-short (codes "with ulong Cost ") (cost trader number) (omega arith) in
    let target : List ℕ = label_number (codes " ref:IDL:Item:1.0,h,9,") trader in
    let dot : List ℕ = label_number (codes ".") number in
    let typed : List ℕ = codes "offer " ++ offer_type number in
    let line : length (offer_line trader number) ≤ (((6 + 4) + 87) + 66) + 1 =
    joined (((6 + 4) + 87) + 66) 1 (typed ++ target ++ dot) (codes "\n")
    (joined ((6 + 4) + 87) 66 (typed ++ target) dot
    (joined (6 + 4) 87 typed target (joined 6 4 (codes "offer ") (offer_type number) (omega arith) kind) reference)
    dotted)
    (omega arith) in
    let costs : length (cost_line trader number) ≤ 81 + 1 =
    joined 81 1 (label_number (codes "with ulong Cost ") (cost trader number)) (codes "\n") amount (omega arith) in
    let whole : length (offer_lines trader number) ≤ 164 + 82 =
    joined 164 82 (offer_line trader number) (cost_line trader number) line costs in
    omega (arith, whole)

offers-short : (trader done : ℕ) → trader ≤ 64 → done ≤ 64 → length (first_offers trader done) ≤ done * 300
offers-short trader zero t n = omega arith
offers-short trader (suc done) t n =
    let before = offers-short trader done t (omega (arith, n)) in
    let one = offer-lines-short trader (suc done) t n in
    omega (arith, before, one, length-append (first_offers trader done) (offer_lines trader (suc done)))

link-short : (label : List ℕ) (trader : ℕ) → trader ≤ 64 → length (link_line label trader) ≤ length label + 90
link-short label trader t =
    omega (arith, counted-short label trader t, length-append (label_number label trader) (codes " always always\n"))

trader-short : (count trader : ℕ) → 1 ≤ count → count ≤ 64 → trader ≤ 64 → length (trader_lines count trader) ≤ 4000
trader-short count trader least ring t =
    let first = counted-short (codes "trader T") trader t in
    let begun : length (trader_heading trader) ≤ 73 + 60 =
    joined 73 60 (label_number (codes "trader T") trader)
    (codes "\ntype Base -\nprop mandatory ulong Cost\ntype Sub - Base\n") first (omega arith) in
    let offers : length (first_offers trader 10) ≤ 3000 = offers-short trader 10 t (omega arith) in
    let next = link-short (codes "link next T") (next_after count trader) (omega (arith, least, ring)) in
    let chord = link-short (codes "link chord T") (chord_after count trader) (omega (arith, least, ring)) in
    let links : length (link_lines count trader) ≤ 101 + 102 =
    joined 101 102 (link_line (codes "link next T") (next_after count trader))
    (link_line (codes "link chord T") (chord_after count trader)) next chord in
    let whole : length (trader_lines count trader) ≤ (133 + 3000) + 203 =
    joined (133 + 3000) 203 (trader_heading trader ++ first_offers trader 10) (link_lines count trader)
    (joined 133 3000 (trader_heading trader) (first_offers trader 10) begun offers) links in
    omega (arith, whole)

traders-short : (count done : ℕ) → 1 ≤ count → count ≤ 64 → done ≤ 64 → length (first_traders count done) ≤ done * 4000
traders-short count zero least ring t = omega arith
traders-short count (suc done) least ring t =
    let before = traders-short count done least ring (omega (arith, t)) in
    let one = trader-short count (suc done) least ring t in
    omega (arith, before, one, length-append (first_traders count done) (trader_lines count (suc done)))

pub generated-short : (count : ℕ) → 1 ≤ count → count ≤ 64 → length (generated_file count) ≤ 67108864
generated-short count least ring =
    omega (
      arith,
      ring,
      traders-short count count least ring ring,
      length-append (codes "address 127.0.0.1 2809\n") (first_traders count count),
    )
