-- Words that stand in a command's places, one after the other, and then words that come any number of times.
use Rattle.std.proofs.Common.{◌≡◌, ◌≤◌, ◌+◌, refl, sym, ap, subst, true, false, map, min, length, suc, ℕ, Bool, Option}
use Rattle.std.proofs.Common.{List, [], ◌∷◌, ◌++◌, Some, None, append_assoc, append-nil, arith, le-leb, unwrap_or}
use Rattle.std.specs.List.{list_all}
use Rattle.clap.specs.Lexer.{usize_max}
use Rattle.clap.specs.Words.{Row, Rule, Shape, Text, all_of}
use Rattle.clap.specs.Simple.{filled, with_index}
use Rattle.clap.specs.Walk.{Held, Walk, idle, positional, arg_by_id, arg_by_index, has_row, is_pending, settled_rows}
use Rattle.clap.specs.Takes.{settle_passes, walk_passes}
use Rattle.clap.specs.declared.parser.matches.ValueSource.TheVariants.{CommandLine}
use Rattle.td_cli_args.specs.Forms.{is_plain}
use Rattle.td_cli_args.specs.Tool.{literal_word, many}
use Rattle.td_cli_args.proofs.Moves.{Moves, moves_on, place_step, more_step}
use Rattle.td_cli_args.proofs.Plain.{at}
use Rattle.td_cli_args.proofs.Rows.{added_new, all_pass, and_false, first_half, row, second_half, set_new, word_row}
use Rattle.td_cli_args.proofs.Rows.{bytes_eq_refl}

-- ---- what is held

abbrev pub holds : List Row → Text → List Text → ℕ → Held
holds rows name values skip = record { rows = rows; pending = Some (name, values); skip = skip }

-- what is held comes to these rows
pub record Stage (s : Shape) (rows : List Row) (h : Held) : Type 0 where
  pub settles : settled_rows s.rules h.pending h.rows ≡ rows
  pub passes : settle_passes s.rules s.args_override_self h ≡ true

-- an argument that has one word: its long name, its number, and whether it has to be there
abbrev pub word_rule : Option Text → Option ℕ → Bool → Text → Rule
word_rule long index required name =
    record (filled (literal_word name)) { long = long; index = index; required = required }

-- the word that was given to it comes to a row of its own
pub stage_word : (s : Shape) (long : Option Text) (index : Option ℕ) (required : Bool) (name word : Text)
    (rows : List Row) (skip : ℕ) → arg_by_id s.rules name ≡ Some (word_rule long index required name)
    → has_row name rows ≡ false → Stage s (rows ++ word_row name word ∷ []) (holds rows name (word ∷ []) skip)
stage_word s long index required name word rows skip is fresh = record {
  settles = rw is (set_new name CommandLine (word ∷ []) rows fresh);
  passes = rw (is, fresh) refl;
}

-- ---- one place

-- a word that has to stand there
abbrev pub place_rule : ℕ → Text → Rule
place_rule i name = word_rule None (Some i) true name

-- it is the argument with this name and with this number
abbrev pub IsPlace : Shape → ℕ → Text → Type 0
IsPlace s i name =
    (arg_by_index s.rules i ≡ Some (place_rule i name)) × (arg_by_id s.rules name ≡ Some (place_rule i name))
    × (min (i + 1) usize_max ≡ suc i)

place : (s : Shape) (i : ℕ) (name word : Text) (rest : List Text) (h : Held) (rows : List Row) → IsPlace s i name
    → is_plain word ≡ true → Stage s rows h
    → Moves s (at idle i h) (word ∷ rest) (at idle (suc i) (holds rows name (word ∷ []) h.skip)) rest
place s i name word rest h rows is plain stage =
    let apart = and_false (is_pending (place_rule i name) h.pending) in
    place_step s i h _ word rest plain (rw (is.0, apart, is.2, stage.settles) refl)
    (rw (is.0, apart, stage.passes) refl)

-- ---- places, each with its word

abbrev pub words_in : List (Text × Text) → List Text
words_in ps = map (λ p. p.1) ps

abbrev pub rows_in : List (Text × Text) → List Row
rows_in ps = map (λ p. word_row p.0 p.1) ps

-- they are the places from number i on, and none of them has a row before
abbrev pub ArePlaces : Shape → ℕ → List Row → List (Text × Text) → Type 0
ArePlaces s i rows [] = Unit {0}
ArePlaces s i rows (p ∷ ps) =
    IsPlace s i p.0 × (has_row p.0 rows ≡ false) × ArePlaces s (suc i) (rows ++ word_row p.0 p.1 ∷ []) ps

-- what is held behind them, and the number of the next place
abbrev pub held_behind : Held → List Row → List (Text × Text) → Held
held_behind h rows [] = h
held_behind h rows (p ∷ ps) =
    held_behind (holds rows p.0 (p.1 ∷ []) h.skip) (rows ++ word_row p.0 p.1 ∷ []) ps

abbrev pub next_place : ℕ → List (Text × Text) → ℕ
next_place i [] = i
next_place i (p ∷ ps) = next_place (suc i) ps

-- it stands there, with these rows
pub record Placed (s : Shape) (w : Walk) (words : List Text) (v : Walk) (rest : List Text) (rows : List Row)
    : Type 0 where
  pub stage : Stage s rows v.held
  pub moves : Moves s w words v rest

pub placed : (s : Shape) (i : ℕ) (h : Held) (rows : List Row) (ps : List (Text × Text)) (rest : List Text)
    → ArePlaces s i rows ps → list_all is_plain (words_in ps) ≡ true → Stage s rows h
    → Placed s (at idle i h) (words_in ps ++ rest) (at idle (next_place i ps) (held_behind h rows ps)) rest
    (rows ++ rows_in ps)
placed s i h rows [] rest are plain stage = record {
  stage = subst (λ (r : List Row). Stage s r h) (sym (append-nil rows)) stage;
  moves = record { runs = refl; passes = λ e. e };
}
placed s i h rows (p ∷ ps) rest are plain stage =
    let next = holds rows p.0 (p.1 ∷ []) h.skip in
    let later =
    placed s (suc i) next (rows ++ word_row p.0 p.1 ∷ []) ps rest are.2 (second_half (is_plain p.1) _ plain)
    (stage_word s None (Some i) true p.0 p.1 rows h.skip are.0.1 are.1) in
    record {
      stage = subst (λ (r : List Row). Stage s r (held_behind h rows (p ∷ ps)))
          (append_assoc rows (word_row p.0 p.1 ∷ []) (rows_in ps)) later.stage;
      moves = moves_on s _ _ _ _ _ _
          (place s i p.0 p.1 (words_in ps ++ rest) h rows are.0 (first_half _ _ plain) stage) later.moves;
    }

-- ---- words that come any number of times

abbrev pub many_rule : ℕ → Text → Rule
many_rule i name = with_index i (filled (many name))

abbrev pub AreMany : Shape → ℕ → Text → Type 0
AreMany s i name =
    (arg_by_index s.rules i ≡ Some (many_rule i name)) × (arg_by_id s.rules name ≡ Some (many_rule i name))

-- the row of the words, where there are any
abbrev pub many_rows : Text → List Text → List Row
many_rows name [] = []
many_rows name (v ∷ vs) = row name CommandLine (v ∷ vs) ∷ []

pub many_read : (name : Text) (ws : List Text) → unwrap_or (all_of name (many_rows name ws)) [] ≡ ws
many_read name [] = refl
many_read name (w ∷ ws) = rw (bytes_eq_refl name) refl

more : (s : Shape) (i : ℕ) (name : Text) (rows : List Row) (skip : ℕ) (vs ws : List Text) → AreMany s i name
    → list_all is_plain ws ≡ true
    → Moves s (at positional i (holds rows name vs skip)) ws (at positional i (holds rows name (vs ++ ws) skip)) []
unfolding walk_passes
more s i name rows skip vs [] are plain = record {
  runs = ap (λ (t : List Text). at positional i (holds rows name t skip)) (sym (append-nil vs));
  passes = λ e. refl;
}
more s i name rows skip vs (w ∷ ws) are plain =
    moves_on s _ _ _ _ _ _
    (more_step s i (holds rows name vs skip) (at positional i (holds rows name (vs ++ w ∷ []) skip)) w ws
    (first_half _ _ plain) (rw (are.0, bytes_eq_refl name) refl) (rw (are.0, bytes_eq_refl name) refl))
    (subst
    (λ (t : List Text). Moves s (at positional i (holds rows name (vs ++ w ∷ []) skip)) ws
    (at positional i (holds rows name t skip)) [])
    (append_assoc vs (w ∷ []) ws)
    (more s i name rows skip (vs ++ w ∷ []) ws are (second_half (is_plain w) _ plain)))

-- the walk to the end of the words
pub record Ended (s : Shape) (w : Walk) (words : List Text) (rows : List Row) : Type 0 where
  pub walk : Walk
  pub stage : Stage s rows walk.held
  pub moves : Moves s w words walk []

pub ended : (s : Shape) (i : ℕ) (name : Text) (h : Held) (rows : List Row) (ws : List Text) → AreMany s i name
    → is_pending (many_rule i name) h.pending ≡ false → has_row name rows ≡ false → list_all is_plain ws ≡ true
    → length ws ≤ usize_max → Stage s rows h → Ended s (at idle i h) ws (rows ++ many_rows name ws)
ended s i name h rows [] are other fresh plain short stage = record {
  walk = at idle i h;
  stage = subst (λ (r : List Row). Stage s r h) (sym (append-nil rows)) stage;
  moves = record { runs = refl; passes = λ e. e };
}
ended s i name h rows (w ∷ ws) are other fresh plain short stage = record {
  walk = at positional i (holds rows name (w ∷ ws) h.skip);
  stage = record {
    settles = rw are.1 (added_new name CommandLine (w ∷ ws) rows fresh);
    passes = rw (are.1, le-leb 0 (length (w ∷ ws)) (omega arith), le-leb (length (w ∷ ws)) usize_max short)
        (all_pass ws);
  };
  moves = moves_on s _ _ _ _ _ _
      (place_step s i h (at positional i (holds rows name (w ∷ []) h.skip)) w ws (first_half _ _ plain)
      (rw (are.0, other, stage.settles) refl) (rw (are.0, other, stage.passes) refl))
      (more s i name rows h.skip (w ∷ []) ws are (second_half (is_plain w) _ plain));
}
