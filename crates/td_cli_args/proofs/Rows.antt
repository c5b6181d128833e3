-- Rows of a command, and those that a new one is added to.
use Rattle.std.proofs.Common.{◌≡◌, ◌∙◌, ◌&&◌, ◌||◌, cond, refl, sym, ap, ap₂, true, false, List, [], ◌∷◌, ◌++◌}
use Rattle.std.proofs.Common.{Some, None, Bool, append-nil, true≢false}
use Rattle.std.specs.List.{list_all}
use Rattle.std.specs.Str.{bytes_eq}
use Rattle.std.proofs.lemmas.List.Folds.{list_any-append}
use Rattle.std.proofs.lemmas.Slice.Eq.{bytes_eq-Decides}
use Rattle.clap.specs.Words.{Row, Text}
use Rattle.clap.specs.Walk.{has_row, with_values, without, at_row, more_values}
use Rattle.clap.specs.declared.parser.matches.ValueSource.{ValueSource}
use Rattle.clap.specs.declared.parser.matches.ValueSource.TheVariants.{CommandLine}
use Rattle.clap.specs.declared.builder.value_parser.Reading.TheVariants.{AsWritten}

-- ---- truth values

pub and_false : (b : Bool) → (b && false) ≡ false
and_false true = refl
and_false false = refl

pub first_half : (a b : Bool) → (a && b) ≡ true → a ≡ true
first_half true b e = refl
first_half false b e = e

pub second_half : (a b : Bool) → (a && b) ≡ true → b ≡ true
second_half true b e = e
second_half false b e = absurd (true≢false (sym e))

pub bytes_eq_refl : (t : Text) → bytes_eq t t ≡ true
bytes_eq_refl t = (bytes_eq-Decides t t).1 refl

pub all_pass : (vs : List Text) → list_all (λ (v : Text). true) vs ≡ true
all_pass [] = refl
all_pass (v ∷ vs) = all_pass vs

-- ---- rows

abbrev pub row : Text → ValueSource → List Text → Row
row name source values =
    record { id = name; values = values; count = None; source = Some source; reading = AsWritten }

-- of a word on the command line
abbrev pub word_row : Text → Text → Row
word_row name word = row name CommandLine (word ∷ [])

pub has_row_more : (name : Text) (xs ys : List Row) → has_row name xs ≡ false → has_row name ys ≡ false
    → has_row name (xs ++ ys) ≡ false
has_row_more name xs ys a b = list_any-append (λ (r : Row). bytes_eq r.id name) xs ys ∙ ap₂ (λ x y. x || y) a b

at_row_new : (name : Text) (change : Row → List Row) (missing rows : List Row) → has_row name rows ≡ false
    → at_row name change missing rows ≡ rows ++ missing
at_row_new name change missing [] e = refl
at_row_new name change missing (r ∷ rs) e = go (bytes_eq r.id name) e (at_row_new name change missing rs)
  where
    go : (b : Bool) → (b || has_row name rs) ≡ false
        → (has_row name rs ≡ false → at_row name change missing rs ≡ rs ++ missing)
        → cond b (change r ++ rs) (r ∷ at_row name change missing rs) ≡ r ∷ (rs ++ missing)
    go true e more = absurd (true≢false e)
    go false e more = ap (λ (t : List Row). r ∷ t) (more e)

-- with the values of an argument that has no row
pub added_new : (name : Text) (source : ValueSource) (values : List Text) (rows : List Row)
    → has_row name rows ≡ false
    → with_values name AsWritten source values rows ≡ rows ++ row name source values ∷ []
added_new name source values rows e = at_row_new name (more_values source values) (row name source values ∷ []) rows e

pub set_new : (name : Text) (source : ValueSource) (values : List Text) (rows : List Row) → has_row name rows ≡ false
    → with_values name AsWritten source values (without name rows) ≡ rows ++ row name source values ∷ []
set_new name source values rows e =
    ap (with_values name AsWritten source values) (at_row_new name (λ _. []) [] rows e ∙ append-nil rows)
    ∙ added_new name source values rows e
