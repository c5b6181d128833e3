-- The documented form of the words: a subcommand's name, its options, each at most once, and then the words that stand
-- in their places, none of which begins with `-`.
use Rattle.std.specs.Prelude.{◌≡◌, Bool, true, false, not, ◌==◌, ◌&&◌, ◌||◌, List, [], ◌∷◌, ◌++◌, Option, Some, None}
use Rattle.std.specs.Prelude.{codes, if◌then◌else◌, is_some, length}
use Rattle.std.specs.List.{list_any, list_all}
use Rattle.clap.specs.Words.{Text}
use Rattle.clap.specs.Walk.{is_empty}
use Rattle.td_cli_args.specs.Wishes.{CommandWords, IsAmongUsages, Usage, query, usages}

-- the word doesn't begin with `-`
abbrev pub is_plain : Text → Bool
is_plain [] = true
is_plain (x ∷ xs) = not (x == 45)

-- ---- the options of a query

-- those that have a value
pub data OptionKind : Type 0 where
  how_many : OptionKind
  hops : OptionKind
  follow : OptionKind
  id : OptionKind

abbrev pub name_of : OptionKind → Text
name_of how_many = codes "how-many"
name_of hops = codes "hops"
name_of follow = codes "follow"
name_of id = codes "id"

abbrev pub same_kind : OptionKind → OptionKind → Bool
same_kind how_many how_many = true
same_kind hops hops = true
same_kind follow follow = true
same_kind id id = true
same_kind _ _ = false

-- an option with its value, or `--exact`
pub data Choice : Type 0 where
  given : OptionKind → Text → Choice
  exact : Choice

abbrev pub same_choice : Choice → Choice → Bool
same_choice (given j v) (given k w) = same_kind j k
same_choice exact exact = true
same_choice _ _ = false

abbrev pub words_of : Choice → List Text
words_of (given k v) = (codes "--" ++ name_of k) ∷ v ∷ []
words_of exact = codes "--exact" ∷ []

abbrev pub option_words : List Choice → List Text
option_words [] = []
option_words (c ∷ cs) = words_of c ++ option_words cs

-- none of the options was there before, and none comes twice
abbrev pub once : List Choice → List Choice → Bool
once seen [] = true
once seen (c ∷ cs) = not (list_any (same_choice c) seen) && once (seen ++ c ∷ []) cs

abbrev pub is_plain_choice : Choice → Bool
is_plain_choice (given k v) = is_plain v
is_plain_choice exact = true

abbrev pub value_given : OptionKind → List Choice → Option Text
value_given k [] = None
value_given k (given j v ∷ cs) = if same_kind j k then Some v else value_given k cs
value_given k (exact ∷ cs) = value_given k cs

abbrev pub is_exact : List Choice → Bool
is_exact [] = false
is_exact (given j v ∷ cs) = is_exact cs
is_exact (exact ∷ cs) = true

-- ---- the words, and what they ask for

pub data SpellsWords : List Text → CommandWords → Type 0 where
  of_query : (choices : List Choice) (reference service constraint preference : Text)
      (names : List Text)
      → once [] choices ≡ true → list_all is_plain_choice choices ≡ true
      → is_plain reference ≡ true → is_plain service ≡ true → is_plain constraint ≡ true
      → is_plain preference ≡ true → list_all is_plain names ≡ true
      → SpellsWords (codes "query" ∷ (option_words choices
      ++ (reference ∷ service ∷ constraint ∷ preference ∷ names))) (query (record {
        reference = reference;
        service = service;
        constraint = constraint;
        preference = preference;
        names = names;
        how_many = value_given how_many choices;
        hops = value_given hops choices;
        follow = value_given follow choices;
        id = value_given id choices;
        exact = is_exact choices;
      }))
  -- of the others as many words as they have places, and more only where they may come
  of_usage : (u : Usage) (words more : List Text) (asked : CommandWords)
      → IsAmongUsages u usages → length words ≡ length u.places
      → (is_some u.more || is_empty more) ≡ true
      → list_all is_plain words ≡ true → list_all is_plain more ≡ true
      → u.asks words more ≡ Some asked
      → SpellsWords (u.name ∷ (words ++ more)) asked
