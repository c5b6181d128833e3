-- Worked examples, line by line.
use Rattle.std.specs.Prelude.{ℕ, List, [], ◌∷◌, ◌++◌, codes}

-- these lines, each with its line feed
abbrev pub file : List (List ℕ) → List ℕ
file [] = []
file (line ∷ lines) = line ++ 10 ∷ file lines

-- the first trader without its links
abbrev first_trader : List (List ℕ)
first_trader =
    codes "trader T1"
    ∷ codes "type Base -"
    ∷ codes "prop mandatory ulong Cost"
    ∷ codes "type Sub - Base"
    ∷ codes "offer Base ref:IDL:Item:1.0,h,9,1.1"
    ∷ codes "with ulong Cost 10"
    ∷ codes "offer Sub ref:IDL:Item:1.0,h,9,1.2"
    ∷ codes "with ulong Cost 2"
    ∷ codes "offer Base ref:IDL:Item:1.0,h,9,1.3"
    ∷ codes "with ulong Cost 5"
    ∷ codes "offer Sub ref:IDL:Item:1.0,h,9,1.4"
    ∷ codes "with ulong Cost 8"
    ∷ codes "offer Base ref:IDL:Item:1.0,h,9,1.5"
    ∷ codes "with ulong Cost 0"
    ∷ codes "offer Sub ref:IDL:Item:1.0,h,9,1.6"
    ∷ codes "with ulong Cost 3"
    ∷ codes "offer Base ref:IDL:Item:1.0,h,9,1.7"
    ∷ codes "with ulong Cost 6"
    ∷ codes "offer Sub ref:IDL:Item:1.0,h,9,1.8"
    ∷ codes "with ulong Cost 9"
    ∷ codes "offer Base ref:IDL:Item:1.0,h,9,1.9"
    ∷ codes "with ulong Cost 1"
    ∷ codes "offer Sub ref:IDL:Item:1.0,h,9,1.10"
    ∷ codes "with ulong Cost 4"
    ∷ []

-- the second trader without its links
abbrev second_trader : List (List ℕ)
second_trader =
    codes "trader T2"
    ∷ codes "type Base -"
    ∷ codes "prop mandatory ulong Cost"
    ∷ codes "type Sub - Base"
    ∷ codes "offer Base ref:IDL:Item:1.0,h,9,2.1"
    ∷ codes "with ulong Cost 6"
    ∷ codes "offer Sub ref:IDL:Item:1.0,h,9,2.2"
    ∷ codes "with ulong Cost 9"
    ∷ codes "offer Base ref:IDL:Item:1.0,h,9,2.3"
    ∷ codes "with ulong Cost 1"
    ∷ codes "offer Sub ref:IDL:Item:1.0,h,9,2.4"
    ∷ codes "with ulong Cost 4"
    ∷ codes "offer Base ref:IDL:Item:1.0,h,9,2.5"
    ∷ codes "with ulong Cost 7"
    ∷ codes "offer Sub ref:IDL:Item:1.0,h,9,2.6"
    ∷ codes "with ulong Cost 10"
    ∷ codes "offer Base ref:IDL:Item:1.0,h,9,2.7"
    ∷ codes "with ulong Cost 2"
    ∷ codes "offer Sub ref:IDL:Item:1.0,h,9,2.8"
    ∷ codes "with ulong Cost 5"
    ∷ codes "offer Base ref:IDL:Item:1.0,h,9,2.9"
    ∷ codes "with ulong Cost 8"
    ∷ codes "offer Sub ref:IDL:Item:1.0,h,9,2.10"
    ∷ codes "with ulong Cost 0"
    ∷ []

-- the address and a trader both of whose links lead back to itself
abbrev pub ring_of_one : List (List ℕ)
ring_of_one =
    codes "address 127.0.0.1 2809"
    ∷ first_trader ++ codes "link next T1 always always" ∷ codes "link chord T1 always always" ∷ []

-- of two, both links lead back to the first one from the second, and from it to the second
abbrev pub ring_of_two : List (List ℕ)
ring_of_two =
    codes "address 127.0.0.1 2809"
    ∷ first_trader ++ codes "link next T2 always always" ∷ codes "link chord T2 always always"
    ∷ second_trader ++ codes "link next T1 always always" ∷ codes "link chord T1 always always" ∷ []

-- the links of the third of five
abbrev pub chord_of_five : List (List ℕ)
chord_of_five = codes "link next T4 always always" ∷ codes "link chord T1 always always" ∷ []
