-- A query's options as clap walks over them.
use Rattle.std.proofs.Common.{◌≡◌, ◌∙◌, ◌&&◌, ◌||◌, refl, sym, ap, ap₂, subst, true, false, not, codes, map}
use Rattle.std.proofs.Common.{List, [], ◌∷◌, ◌++◌, Some, None, ℕ, append_assoc, append-nil, ◌==◌}
use Rattle.std.specs.List.{find, list_any, list_all}
use Rattle.std.specs.Str.{bytes_eq}
use Rattle.std.proofs.lemmas.List.{map-append}
use Rattle.clap.specs.Words.{Row, Rule, Shape, Text}
use Rattle.clap.specs.Walk.{Held, idle, option, next, walked, arg_by_id, option_word, after_step, settled_rows}
use Rattle.clap.specs.Walk.{has_row, with_values, without}
use Rattle.clap.specs.Takes.{turn_passes, settle_passes}
use Rattle.clap.specs.declared.parser.matches.ValueSource.TheVariants.{CommandLine}
use Rattle.clap.specs.declared.builder.value_parser.Reading.TheVariants.{AsWritten}
use Rattle.td_cli_args.specs.Forms.{is_plain, OptionKind, how_many, hops, follow, id, Choice, given, exact, name_of}
use Rattle.td_cli_args.specs.Forms.{same_kind}
use Rattle.td_cli_args.specs.Forms.{same_choice, words_of, option_words, once, is_plain_choice}
use Rattle.td_cli_args.specs.Tool.{query_app}
use Rattle.td_cli_args.proofs.Moves.{Moves, moves_on, moves_step}
use Rattle.td_cli_args.proofs.Places.{Stage, holds, stage_word, word_rule}
use Rattle.td_cli_args.proofs.Plain.{at, is_other}
use Rattle.td_cli_args.proofs.Rows.{first_half, second_half, set_new, word_row}
use Rattle.td_cli_args.proofs.Subcommands.{leaf}

-- the query's command as it is built
abbrev pub Q : Shape
Q = leaf query_app

abbrev pub C : List Rule
C = Q.rules

-- ---- the rows of options

abbrev pub row_of_choice : Choice → Row
row_of_choice (given k v) = word_row (name_of k) v
row_of_choice exact = word_row (codes "exact") (codes "true")

abbrev pub chosen : List Choice → List Row
chosen cs = map row_of_choice cs

-- the choice's own row
abbrev pub id_of : Choice → Text
id_of (given k v) = name_of k
id_of exact = codes "exact"

abbrev AreAlike : (j k : OptionKind) → Type 0
AreAlike j k = (bytes_eq (name_of j) (name_of k) ≡ same_kind j k) × (bytes_eq (name_of k) (name_of j) ≡ same_kind j k)

pub alike : (j k : OptionKind) → AreAlike j k
alike how_many how_many = (refl, refl)
alike hops hops = (refl, refl)
alike follow follow = (refl, refl)
alike id id = (refl, refl)
alike _ _ = (refl, refl)

pub not_exact : (k : OptionKind) → (bytes_eq (codes "exact") (name_of k) ≡ false)
    × (bytes_eq (name_of k) (codes "exact") ≡ false)
not_exact how_many = (refl, refl)
not_exact hops = (refl, refl)
not_exact follow = (refl, refl)
not_exact id = (refl, refl)

same_id : (c d : Choice) → bytes_eq (row_of_choice d).id (id_of c) ≡ same_choice c d
same_id (given j v) (given k w) = (alike j k).1
same_id (given j v) exact = (not_exact j).0
same_id exact (given k w) = (not_exact k).1
same_id exact exact = refl

pub has_choice : (c : Choice) (cs : List Choice) → has_row (id_of c) (chosen cs) ≡ list_any (same_choice c) cs
has_choice c [] = refl
has_choice c (d ∷ ds) = ap₂ (λ x y. x || y) (same_id c d) (has_choice c ds)

-- ---- rows of other names

-- no option has this name
abbrev pub IsOther : Text → Type 0
IsOther name = ((k : OptionKind) → bytes_eq (name_of k) name ≡ false) × (bytes_eq (codes "exact") name ≡ false)

other_row : (name : Text) → IsOther name → (c : Choice) → bytes_eq (row_of_choice c).id name ≡ false
other_row name other (given k v) = other.0 k
other_row name other exact = other.1

pub no_choice : (name : Text) → IsOther name → (cs : List Choice) → has_row name (chosen cs) ≡ false
no_choice name other [] = refl
no_choice name other (c ∷ cs) = rw (other_row name other c) (no_choice name other cs)

pub find_past : (name : Text) → IsOther name → (cs : List Choice) (rest : List Row)
    → find (λ r. bytes_eq r.id name) (chosen cs ++ rest) ≡ find (λ r. bytes_eq r.id name) rest
find_past name other [] rest = refl
find_past name other (c ∷ cs) rest = rw (other_row name other c) (find_past name other cs rest)

-- ---- one option

-- a word and its value
record IsOption (name word : Text) : Type 0 where
  met : (h : Held) → walked C [] (at idle 1 h) word
      ≡ at (option name) 1 (holds (settled_rows C h.pending h.rows) name [] h.skip)
  passes : (h : Held) → turn_passes Q [] (at idle 1 h) word ≡ (settle_passes C Q.args_override_self h && true)
  read : (h : Held) (v : Text) → option_word (arg_by_id C name) name v (record h { pending = Some (name, []) })
      ≡ (record h { pending = Some (name, v ∷ []) }, idle)
  by_id : arg_by_id C name ≡ Some (word_rule (Some name) None false name)

is_option : (k : OptionKind) → IsOption (name_of k) (codes "--" ++ name_of k)
unfolding walked
is_option how_many = record { met = λ h. refl; passes = λ h. refl; read = λ h v. refl; by_id = refl }
is_option hops = record { met = λ h. refl; passes = λ h. refl; read = λ h v. refl; by_id = refl }
is_option follow = record { met = λ h. refl; passes = λ h. refl; read = λ h v. refl; by_id = refl }
is_option id = record { met = λ h. refl; passes = λ h. refl; read = λ h v. refl; by_id = refl }

-- the word is the value of an option
value_word : (i : ℕ) (h : Held) (name word : Text) → is_plain word ≡ true
    → walked C [] (at (option name) i h) word
    ≡ after_step C word (at (option name) i h) (option_word (arg_by_id C name) name word h).0
    (next (option_word (arg_by_id C name) name word h).1)
unfolding walked
value_word i h name [] p = refl
value_word i h name (x ∷ xs) p = let e = is_other (x == 45) p in rw (e, e) refl

value_passes : (i : ℕ) (h : Held) (name word : Text) → is_plain word ≡ true
    → turn_passes Q [] (at (option name) i h) word ≡ true
value_passes i h name [] p = refl
value_passes i h name (x ∷ xs) p = let e = is_other (x == 45) p in rw (e, e) refl

-- what is held behind a choice
abbrev held_with : List Row → Choice → ℕ → Held
held_with rows (given k v) skip = holds rows (name_of k) (v ∷ []) skip
held_with rows exact skip = record { rows = rows ++ row_of_choice exact ∷ []; pending = None; skip = skip }

stage_choice : (c : Choice) (rows : List Row) (skip : ℕ) → has_row (id_of c) rows ≡ false
    → Stage Q (rows ++ row_of_choice c ∷ []) (held_with rows c skip)
stage_choice (given k v) rows skip fresh =
    stage_word Q (Some (name_of k)) None false (name_of k) v rows skip (is_option k).by_id fresh
stage_choice exact rows skip fresh = record { settles = refl; passes = refl }

moves_choice : (c : Choice) (rest : List Text) (h : Held) (rows : List Row) → is_plain_choice c ≡ true
    → has_row (id_of c) rows ≡ false → Stage Q rows h
    → Moves Q (at idle 1 h) (words_of c ++ rest) (at idle 1 (held_with rows c h.skip)) rest
unfolding walked
moves_choice (given k v) rest h rows plain fresh stage =
    let o = is_option k in
    let waiting = holds rows (name_of k) [] h.skip in
    moves_on Q _ _ _ _ _ _
    (moves_step Q (at idle 1 h) (at (option (name_of k)) 1 waiting) (codes "--" ++ name_of k) (v ∷ rest)
    (o.met h ∙ ap (λ (r : List Row). at (option (name_of k)) 1 (holds r (name_of k) [] h.skip)) stage.settles)
    (o.passes h ∙ ap (λ b. b && true) stage.passes))
    (moves_step Q (at (option (name_of k)) 1 waiting) (at idle 1 (holds rows (name_of k) (v ∷ []) h.skip)) v rest
    (value_word 1 waiting (name_of k) v plain
    ∙ ap (λ p. after_step C v (at (option (name_of k)) 1 waiting) p.0 (next p.1)) (o.read waiting v))
    (value_passes 1 waiting (name_of k) v plain))
moves_choice exact rest h rows plain fresh stage =
    moves_step Q _ _ (codes "--exact") rest
    (ap (λ (r : List Row). at idle 1 (record {
      rows = with_values (codes "exact") AsWritten CommandLine (codes "true" ∷ []) (without (codes "exact") r);
      pending = None;
      skip = h.skip;
    })) stage.settles
    ∙ ap (λ (r : List Row). at idle 1 (record { rows = r; pending = None; skip = h.skip }))
    (set_new (codes "exact") CommandLine (codes "true" ∷ []) rows fresh))
    (rw (stage.passes, stage.settles, fresh) refl)

-- ---- all of them

-- the walk is past the options
pub record Chosen (seen todo : List Choice) (h : Held) (rest : List Text) : Type 0 where
  pub held : Held
  pub stage : Stage Q (chosen (seen ++ todo)) held
  pub moves : Moves Q (at idle 1 h) (option_words todo ++ rest) (at idle 1 held) rest

pub choose : (seen todo : List Choice) (h : Held) (rest : List Text) → Stage Q (chosen seen) h
    → once seen todo ≡ true → list_all is_plain_choice todo ≡ true → Chosen seen todo h rest
choose seen [] h rest stage once plain = record {
  held = h;
  stage = subst (λ (cs : List Choice). Stage Q (chosen cs) h) (sym (append-nil seen)) stage;
  moves = record { runs = refl; passes = λ e. e };
}
choose seen (c ∷ todo) h rest stage apart plain =
    let fresh = has_choice c seen ∙ is_other (list_any (same_choice c) seen) (first_half _ _ apart) in
    let next = held_with (chosen seen) c h.skip in
    let later =
    choose (seen ++ c ∷ []) todo next rest
    (subst (λ (r : List Row). Stage Q r next) (sym (map-append row_of_choice seen (c ∷ [])))
    (stage_choice c (chosen seen) h.skip fresh))
    (second_half (not (list_any (same_choice c) seen)) _ apart) (second_half (is_plain_choice c) _ plain) in
    record {
      held = later.held;
      stage = subst (λ (cs : List Choice). Stage Q (chosen cs) later.held) (append_assoc seen (c ∷ []) todo)
          later.stage;
      moves = subst (λ (ws : List Text). Moves Q (at idle 1 h) ws (at idle 1 later.held) rest)
          (sym (append_assoc (words_of c) (option_words todo) rest))
          (moves_on Q _ _ _ _ _ _
          (moves_choice c (option_words todo ++ rest) h (chosen seen) (first_half _ _ plain) fresh stage) later.moves);
    }
