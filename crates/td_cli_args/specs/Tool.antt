-- The program with its subcommands, as clap reads them.
use Rattle.std.specs.Prelude.{◌≡◌, false, true, codes, map, List, [], ◌∷◌, Option, None, Some, option_map}
use Rattle.clap.specs.Words.{App, Rule, Text, app_of, new_app, new_rule, with_rule, with_subcommand}
use Rattle.clap.specs.Simple.{on_top}
use Rattle.td_cli_args.specs.Wishes.{Usage, usages}
use Rattle.td_cli_args.specs.declared.usages.Usage.{Usage as Told}
use Rattle.clap.specs.Lexer.{usize_max}
use Rattle.clap.specs.declared.builder.action.ArgAction.TheVariants.{SetTrue, Set}
use Rattle.clap.specs.declared.builder.command.Command.{Command}
use Rattle.clap.specs.declared.builder.command.Command.TheViews.{out-Command}

-- a command with these arguments and subcommands, none of them global
pub record IsCommand (a : App) (c : Command) : Type 0 where
  pub app : app_of c ≡ a
  pub local : (out-Command c).has_globals ≡ false

-- ---- arguments

-- a word that has to stand there
abbrev pub literal_word : Text → Rule
literal_word id = record (new_rule id) { required = true; action = Some Set }

-- words that come any number of times
abbrev pub many : Text → Rule
many id = record (new_rule id)
    { range = Some (record { start_inclusive = 0; end_inclusive = usize_max }) }

-- `--name VALUE`
abbrev pub option_word : Text → Rule
option_word id = record (new_rule id) { long = Some id; action = Some Set }

-- `--name`
abbrev pub flag : Text → Rule
flag id = record (new_rule id) { long = Some id; action = Some SetTrue }

-- ---- subcommands: their options, and then the words that stand in their places

abbrev pub with_options : App → App
with_options a =
    with_rule (with_rule (with_rule (with_rule (with_rule a
    (option_word (codes "how-many"))) (option_word (codes "hops"))) (option_word (codes "follow")))
    (option_word (codes "id"))) (flag (codes "exact"))

abbrev pub with_places : App → App
with_places a =
    with_rule (with_rule (with_rule (with_rule (with_rule a
    (literal_word (codes "ref"))) (literal_word (codes "type")))
    (literal_word (codes "constraint")))
    (literal_word (codes "preference"))) (many (codes "name"))

abbrev pub query_app : App
query_app = with_places (with_options (new_app (codes "query")))

-- ---- those without options, by their words

abbrev pub with_words : App → List Text → App
with_words a [] = a
with_words a (id ∷ ids) = with_words (with_rule a (literal_word id)) ids

abbrev pub with_more : App → Option Text → App
with_more a None = a
with_more a (Some id) = with_rule a (many id)

abbrev pub app_in : (name : Text) (places : List Text) (more : Option Text) → App
app_in name places more = with_more (with_words (new_app name) places) more

abbrev pub usage_app : Usage → App
usage_app u = app_in u.name u.places u.more

-- as the code has it
abbrev pub usage_in : Told → App
usage_in u =
    app_in u.name.now (map (λ w. w.id.now) u.places.now) (option_map (λ w. w.id.now) u.more)

-- ---- the whole program

-- the first word is a subcommand's name
abbrev pub top_app : App
top_app =
    on_top (λ s. record s { no_binary_name = true; subcommand_required = true })
    (new_app (codes "tradecli"))

abbrev pub with_apps : App → List App → App
with_apps a [] = a
with_apps a (b ∷ bs) = with_apps (with_subcommand a b.top) bs

abbrev pub tool_app : App
tool_app = with_apps (with_subcommand top_app query_app.top) (map usage_app usages)
