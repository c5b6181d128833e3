-- What a generated file opens.
use Rattle.std.specs.Prelude.{◌≡◌, ℕ, ◌≤◌, List, length, map, Ok}
use Rattle.td_file.specs.Files.{Opening, opening_of}
use Rattle.td_make.specs.Generated.{generated_file}
use Rattle.td_make_laws.specs.Said.{first_names}
use Rattle.td_out.specs.Texts.{longest_text}
use Rattle.td_trader.specs.PlainTraders.{PlainTrader, store_of}

-- The file of a ring of so many traders is refused nowhere, and is no longer than a file may be.
pub record GeneratedOpens (count : ℕ) : Type 0 where
  pub opening : Opening
  pub opened : opening_of (generated_file count) ≡ Ok opening
  pub names : map (λ (t : PlainTrader). t.name) opening.traders ≡ first_names count
  pub short : length (generated_file count) ≤ longest_text

abbrev pub GeneratedOpen : Type 0
GeneratedOpen = (count : ℕ) → 1 ≤ count → count ≤ 64 → GeneratedOpens count
