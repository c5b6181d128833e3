-- Worked examples of files.
use Rattle.std.specs.Prelude.{ℕ, List, [], ◌∷◌, codes, map, Result, Ok}
use Rattle.td_cdr.specs.Reading.{◌>>=◌}
use Rattle.td_lines.specs.Examples.{file}
use Rattle.td_lines.specs.declared.entry.Refused.{Refused}
use Rattle.td_trader.specs.PlainTraders.{PlainTrader}
use Rattle.td_file.specs.Files.{Opening}

-- a type twice, in the third and the fourth line
abbrev pub type_twice : List ℕ
type_twice = file (codes "address h 9" ∷ codes "trader A" ∷ codes "type B -" ∷ codes "type B -"
    ∷ [])

-- the same, in front of a line that is none
abbrev pub type_twice_and_more : List ℕ
type_twice_and_more =
    file (codes "address h 9" ∷ codes "trader A" ∷ codes "type B -" ∷ codes "type B -" ∷ codes "foo"
    ∷ [])

-- two traders, of which the second one sets how long its lists are
abbrev pub lists_of_seven : List ℕ
lists_of_seven =
    file (codes "address h 9" ∷ codes "trader A" ∷ codes "trader B" ∷ codes "set max_list 7" ∷ [])

-- how long each trader's lists are
abbrev pub lists_in : Result Opening Refused → Result (List ℕ) Refused
lists_in content = content >>= λ o.
    Ok (map (λ (t : PlainTrader). t.opening.attributes.max_list) o.traders)
