-- The text of a generated file: traders in a ring, numbered from 1, each with two types, ten offers and two links. A
-- line ends with its line feed.
use Rattle.std.specs.Prelude.{ℕ, zero, suc, ◌+◌, ◌*◌, ◌%◌, nat_eq, List, [], ◌++◌, codes, if◌then◌else◌}
use Rattle.td_forms.specs.Counted.{label_number}

-- ---- an offer, by the numbers of its trader and of itself

-- every second one has the subtype
abbrev pub offer_type : (number : ℕ) → List ℕ
offer_type number = if nat_eq (number % 2) 1 then codes "Base" else codes "Sub"

abbrev pub cost : (trader number : ℕ) → ℕ
cost trader number = (7 * trader + 3 * number) % 11

abbrev pub offer_line : (trader number : ℕ) → List ℕ
offer_line trader number =
    codes "offer " ++ offer_type number ++ label_number (codes " ref:IDL:Item:1.0,h,9,") trader
    ++ label_number (codes ".") number ++ codes "\n"

abbrev pub cost_line : (trader number : ℕ) → List ℕ
cost_line trader number = label_number (codes "with ulong Cost ") (cost trader number) ++ codes "\n"

abbrev pub offer_lines : (trader number : ℕ) → List ℕ
offer_lines trader number = offer_line trader number ++ cost_line trader number

-- the first so many
abbrev pub first_offers : (trader count : ℕ) → List ℕ
first_offers trader zero = []
first_offers trader (suc done) = first_offers trader done ++ offer_lines trader (suc done)

-- ---- the links of a trader in a ring of so many

-- one leads to the trader behind it
abbrev pub next_after : (count trader : ℕ) → ℕ
next_after count trader = trader % count + 1

-- the other one to the trader three places behind it
abbrev pub chord_after : (count trader : ℕ) → ℕ
chord_after count trader = (trader + 2) % count + 1

abbrev pub link_line : (label : List ℕ) → (trader : ℕ) → List ℕ
link_line label trader = label_number label trader ++ codes " always always\n"

abbrev pub link_lines : (count trader : ℕ) → List ℕ
link_lines count trader =
    link_line (codes "link next T") (next_after count trader)
    ++ link_line (codes "link chord T") (chord_after count trader)

-- ---- a trader, and the whole file

abbrev pub trader_heading : (trader : ℕ) → List ℕ
trader_heading trader =
    label_number (codes "trader T") trader
    ++ codes "\ntype Base -\nprop mandatory ulong Cost\ntype Sub - Base\n"

abbrev pub trader_lines : (count trader : ℕ) → List ℕ
trader_lines count trader = trader_heading trader ++ first_offers trader 10
    ++ link_lines count trader

-- the first so many traders of a ring
abbrev pub first_traders : (count done : ℕ) → List ℕ
first_traders count zero = []
first_traders count (suc done) = first_traders count done ++ trader_lines count (suc done)

-- the file of a ring of so many traders
abbrev pub generated_file : (count : ℕ) → List ℕ
generated_file count = codes "address 127.0.0.1 2809\n" ++ first_traders count count
