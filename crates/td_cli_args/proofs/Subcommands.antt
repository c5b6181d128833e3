-- A subcommand's words, behind its name, as the whole program takes and reads them.
use Rattle.std.proofs.Common.{◌≡◌, ◌∙◌, ◌&&◌, refl, sym, ap, ap₂, true, false, List, [], ◌∷◌, ◌++◌, Some, Bool}
use Rattle.std.proofs.Common.{append_assoc, append-nil, cond}
use Rattle.std.specs.List.{find, fold, list_all}
use Rattle.clap.specs.Words.{App, Row, Rule, Shape, Text, built, subcommand_of, takes}
use Rattle.clap.specs.Simple.{built_leaf, entered, inherited, label_of, marked_built, names_of, with_leaf_noted}
use Rattle.clap.specs.Walk.{Names, Walk, answers_to, finished, has_row, is_empty, nothing_held, walk, walk_from, walked}
use Rattle.clap.specs.Walk.{with_default}
use Rattle.clap.specs.Takes.{default_passes, is_valid, level_passes, settle_passes, turn_passes}
use Rattle.clap.specs.Takes.{walk_passes}
use Rattle.clap.proofs.SimpleLemmas.{is_nil}
use Rattle.td_cli_args.specs.Matches.{read_matches}
use Rattle.td_cli_args.specs.Tool.{tool_app}
use Rattle.td_cli_args.specs.Wishes.{CommandWords}
use Rattle.td_cli_args.proofs.Places.{Ended}
use Rattle.td_cli_args.proofs.Rows.{first_half, second_half}

-- the program as it is built, and each of its subcommands
abbrev pub T : App
T = built tool_app

abbrev pub leaf : App → Shape
leaf a = built_leaf (inherited (with_leaf_noted (marked_built tool_app.top)) a.top)

-- ---- after the subcommand's name all words are its own

abbrev pub stopped_at : Walk → Text → List Text → Walk
stopped_at w name words = record w { stopped = Some (name, words) }

stopped_runs : (c : List Rule) (names : Names) (w : Walk) (name : Text) (before words : List Text)
    → fold (walked c names) (stopped_at w name before) words ≡ stopped_at w name (before ++ words)
unfolding walked
stopped_runs c names w name before [] = ap (stopped_at w name) (sym (append-nil before))
stopped_runs c names w name before (x ∷ xs) = stopped_runs c names w name (before ++ x ∷ []) xs
    ∙ ap (stopped_at w name) (append_assoc before (x ∷ []) xs)

stopped_passes : (s : Shape) (names : Names) (w : Walk) (name : Text) (before words : List Text)
    → walk_passes s names (stopped_at w name before) words ≡ true
unfolding walked walk_passes
stopped_passes s names w name before [] = refl
stopped_passes s names w name before (x ∷ xs) = stopped_passes s names w name (before ++ x ∷ []) xs

-- the name is this subcommand's
pub record IsNamed (name : Text) (s : Shape) : Type 0 where
  pub found : find (λ x. answers_to name (label_of x)) T.subs ≡ Some s
  pub stops : walked T.top.rules (names_of T) (walk_from nothing_held) name ≡ stopped_at (walk_from nothing_held) name []
  pub passes : turn_passes T.top (names_of T) (walk_from nothing_held) name ≡ true

module _ (name : Text) (s : Shape) (words : List Text) (is : IsNamed name s) where
  top_runs : walk T.top.rules (names_of T) nothing_held (name ∷ words)
      ≡ stopped_at (walk_from nothing_held) name words
  top_runs =
      ap (λ (w : Walk). fold (walked T.top.rules (names_of T)) w words) is.stops
      ∙ stopped_runs T.top.rules (names_of T) (walk_from nothing_held) name [] words

  top_passes : walk_passes T.top (names_of T) (walk_from nothing_held) (name ∷ words) ≡ true
  unfolding walk_passes
  top_passes =
      ap₂ (λ x y. x && y) is.passes (ap (λ (w : Walk). walk_passes T.top (names_of T) w words) is.stops
      ∙ stopped_passes T.top (names_of T) (walk_from nothing_held) name [] words)

  enters : subcommand_of tool_app (name ∷ words)
      ≡ Some (s.name, finished s.rules (walk s.rules [] nothing_held words).held)
  enters = ap (λ (w : Walk). entered T w.stopped) top_runs ∙ rw is.found refl

  taken : level_passes s [] nothing_held words false ≡ true → takes tool_app (name ∷ words) ≡ true
  taken below = rw (top_runs, top_passes, is.found, below) refl

-- ---- defaults

-- an argument without a default leaves the rows
skips : (rows : List Row) (a : Rule) → a.defaults ≡ [] → with_default rows a ≡ rows
skips rows a none = rw none (go (has_row a.id rows))
  where
    go : (b : Bool) → cond b rows rows ≡ rows
    go true = refl
    go false = refl

pub skip_all : (c : List Rule) (rows : List Row) → list_all (λ (a : Rule). is_empty a.defaults) c ≡ true
    → fold with_default rows c ≡ rows
skip_all [] rows e = refl
skip_all (a ∷ c) rows e =
    ap (λ (r : List Row). fold with_default r c) (skips rows a (is_nil a.defaults (first_half _ _ e)))
    ∙ skip_all c rows (second_half (is_empty a.defaults) _ e)

-- ---- a subcommand takes its words

-- the rows that come of these by the defaults are complete
pub record IsComplete (s : Shape) (rows last : List Row) : Type 0 where
  pub defaults : list_all default_passes s.rules ≡ true
  pub filled : fold with_default rows s.rules ≡ last
  pub valid : is_valid s last false ≡ true

module _ (s : Shape) (words : List Text) (rows last : List Row) (e : Ended s (walk_from nothing_held) words rows)
    (c : IsComplete s rows last) where
  finishes : finished s.rules (walk s.rules [] nothing_held words).held ≡ last
  finishes =
      ap (λ (w : Walk). finished s.rules w.held) e.moves.runs
      ∙ ap (λ (r : List Row). fold with_default r s.rules) e.stage.settles ∙ c.filled

  level : level_passes s [] nothing_held words false ≡ true
  unfolding walk_passes
  level =
      ap₂ (λ x y. x && y) (e.moves.passes refl)
      (ap₂ (λ x y. x && y)
      (ap (λ (w : Walk). settle_passes s.rules s.args_override_self w.held) e.moves.runs ∙ e.stage.passes)
      (ap₂ (λ x y. x && y) c.defaults (ap (λ (r : List Row). is_valid s r false) finishes ∙ c.valid)))

-- ---- what is made of the words

-- the program takes the words, and reads of them what is asked
abbrev pub Reads : Text → List Text → CommandWords → Type 0
Reads name words asked =
    (takes tool_app (name ∷ words) ≡ true) × (read_matches (subcommand_of tool_app (name ∷ words)) ≡ Some asked)

pub reads : (name : Text) (s : Shape) (words : List Text) (rows last : List Row) (asked : CommandWords) → IsNamed name s
    → Ended s (walk_from nothing_held) words rows → IsComplete s rows last
    → read_matches (Some (s.name, last)) ≡ Some asked → Reads name words asked
reads name s words rows last asked is e c read = (
  taken name s words is (level s words rows last e c),
  ap read_matches (enters name s words is)
      ∙ (ap (λ (r : List Row). read_matches (Some (s.name, r))) (finishes s words rows last e c) ∙ read),
)
