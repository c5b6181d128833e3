-- Lines of names, of limits, of ids and of counts.
use Rattle.std.specs.Prelude.{ℕ, List, [], ◌∷◌, ◌++◌, codes, decimal}

-- ---- a line for each name

abbrev pub name_line : List ℕ → List ℕ
name_line name = name ++ codes "\n"

abbrev pub name_lines : List (List ℕ) → List ℕ
name_lines [] = []
name_lines (name ∷ names) = name_line name ++ name_lines names

-- ---- one line for all limits

abbrev pub limit_word : List ℕ → List ℕ
limit_word limit = codes " " ++ limit

abbrev pub limit_words : List (List ℕ) → List ℕ
limit_words [] = []
limit_words (limit ∷ limits) = limit_word limit ++ limit_words limits

abbrev pub limits_line : List (List ℕ) → List ℕ
limits_line limits = codes "limits" ++ (limit_words limits ++ codes "\n")

-- ---- single lines

abbrev pub total_line : ℕ → List ℕ
total_line count = codes "total " ++ (decimal count ++ codes "\n")

abbrev pub id_line : List ℕ → List ℕ
id_line id = codes "id " ++ (id ++ codes "\n")

abbrev pub exception_line : List ℕ → List ℕ
exception_line id = codes "exception " ++ (id ++ codes "\n")
