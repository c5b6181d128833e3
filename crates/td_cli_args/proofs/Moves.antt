-- A subcommand's words as clap walks over them, one after the other.
use Rattle.std.proofs.Common.{◌≡◌, ◌∙◌, ◌&&◌, ap, ap₂, true, List, [], ◌∷◌, ℕ}
use Rattle.std.specs.List.{fold}
use Rattle.clap.specs.Words.{Shape, Text}
use Rattle.clap.specs.Walk.{Held, Walk, idle, positional, walked, to_positional, arg_by_index, value}
use Rattle.clap.specs.Takes.{turn_passes, step_passes, walk_passes}
use Rattle.td_cli_args.specs.Forms.{is_plain}
use Rattle.td_cli_args.proofs.Plain.{at, walked_idle, walked_more, passes_idle, passes_more}

-- from one place of the walk to a later one
pub record Moves (s : Shape) (w : Walk) (words : List Text) (v : Walk) (rest : List Text) : Type 0 where
  pub runs : fold (walked s.rules []) w words ≡ fold (walked s.rules []) v rest
  pub passes : walk_passes s [] v rest ≡ true → walk_passes s [] w words ≡ true

pub moves_on : (s : Shape) (u v w : Walk) (xs ys zs : List Text) → Moves s u xs v ys → Moves s v ys w zs
    → Moves s u xs w zs
moves_on s u v w xs ys zs a b = record { runs = a.runs ∙ b.runs; passes = λ e. a.passes (b.passes e) }

pub moves_step : (s : Shape) (w v : Walk) (word : Text) (rest : List Text) → walked s.rules [] w word ≡ v
    → turn_passes s [] w word ≡ true → Moves s w (word ∷ rest) v rest
unfolding walk_passes
moves_step s w v word rest is turn = record {
  runs = ap (λ (x : Walk). fold (walked s.rules []) x rest) is;
  passes = λ e. ap₂ (λ x y. x && y) turn (ap (λ (x : Walk). walk_passes s [] x rest) is ∙ e);
}

-- a word that stands in its place
pub place_step : (s : Shape) (i : ℕ) (h : Held) (v : Walk) (word : Text) (rest : List Text) → is_plain word ≡ true
    → to_positional s.rules (arg_by_index s.rules i) word (at idle i h) h ≡ v → step_passes s i h value ≡ true
    → Moves s (at idle i h) (word ∷ rest) v rest
place_step s i h v word rest plain is passes =
    moves_step s (at idle i h) v word rest (walked_idle s.rules i h word plain ∙ is)
    (passes_idle s i h word plain ∙ passes)

-- one more of the words that come any number of times
pub more_step : (s : Shape) (i : ℕ) (h : Held) (v : Walk) (word : Text) (rest : List Text) → is_plain word ≡ true
    → to_positional s.rules (arg_by_index s.rules i) word (at positional i h) h ≡ v → step_passes s i h value ≡ true
    → Moves s (at positional i h) (word ∷ rest) v rest
more_step s i h v word rest plain is passes =
    moves_step s (at positional i h) v word rest (walked_more s.rules i h word plain ∙ is)
    (passes_more s i h word plain ∙ passes)
