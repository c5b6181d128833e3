-- Worked examples of files.
use Rattle.std.specs.Prelude.{ℕ, List, [], ◌∷◌, ◌++◌, codes}

-- these lines, each with its line feed
abbrev pub file : List (List ℕ) → List ℕ
file [] = []
file (line ∷ lines) = line ++ 10 ∷ file lines

-- a type whose interface is missing
abbrev pub short_type : List ℕ
short_type = file (codes "address h 9" ∷ codes "trader A" ∷ codes "type Printer" ∷ [])

-- a property of no known type, behind its type in the fourth line
abbrev pub odd_property : List ℕ
odd_property =
    file (codes "address h 9" ∷ codes "trader A" ∷ [] ∷ codes "type B -" ∷ codes "# one"
    ∷ codes "prop normal float X" ∷ [])

-- no line but a comment
abbrev pub comment_alone : List ℕ
comment_alone = file (codes "# one" ∷ [] ∷ [])

-- an address with a version, and a version behind a trader
abbrev pub two_versions : List ℕ
two_versions = file (codes "address h 9" ∷ codes "iiop 1" ∷ codes "trader A" ∷ [])

abbrev pub late_version : List ℕ
late_version = file (codes "address h 9" ∷ codes "trader A" ∷ codes "iiop 1" ∷ [])

-- a trader with a link to one that isn't there yet, and an attribute that is set, without a last line feed
abbrev pub dangling_link : List ℕ
dangling_link =
    file (codes "address h 9" ∷ codes "trader A" ∷ codes "link l B local_only always" ∷ [])
    ++ codes "set max_list 7"
