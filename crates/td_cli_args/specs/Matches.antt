-- What clap's matches ask for.
use Rattle.std.specs.Prelude.{Bool, false, List, [], ◌∷◌, Option, None, Some, codes, find, if◌then◌else◌}
use Rattle.std.specs.Prelude.{option_and_then, option_map, unwrap_or}
use Rattle.std.specs.Option.{option_map_or}
use Rattle.std.specs.Str.{bytes_eq}
use Rattle.clap.specs.Words.{Row, Text, first_of, all_of}
use Rattle.td_cli_args.specs.Wishes.{CommandWords, AskedQuery, Usage, query, usages}

-- the flag was given
abbrev pub says_true : Option Text → Bool
says_true o = option_map_or (λ t. bytes_eq t (codes "true")) o false

-- ---- query

abbrev pub read_query : List Row → Option AskedQuery
read_query rows =
    option_and_then (λ reference.
    option_and_then (λ service. option_and_then (λ constraint. option_map (λ preference.
    record {
      reference = reference;
      service = service;
      constraint = constraint;
      preference = preference;
      names = unwrap_or (all_of (codes "name") rows) [];
      how_many = first_of (codes "how-many") rows;
      hops = first_of (codes "hops") rows;
      follow = first_of (codes "follow") rows;
      id = first_of (codes "id") rows;
      exact = says_true (first_of (codes "exact") rows);
    })
    (first_of (codes "preference") rows)) (first_of (codes "constraint") rows))
    (first_of (codes "type") rows)) (first_of (codes "ref") rows)

-- ---- the others, by their words

abbrev pub words_at : List Text → List Row → Option (List Text)
words_at [] rows = Some []
words_at (id ∷ ids) rows =
    option_and_then (λ w. option_map (λ ws. w ∷ ws) (words_at ids rows)) (first_of id rows)

abbrev pub words_behind : Option Text → List Row → List Text
words_behind None rows = []
words_behind (Some id) rows = unwrap_or (all_of id rows) []

abbrev pub read_usage : Usage → List Row → Option CommandWords
read_usage u rows =
    option_and_then (λ ws. u.asks ws (words_behind u.more rows)) (words_at u.places rows)

-- ---- by the subcommand's name

abbrev pub read_named : Text → List Row → Option CommandWords
read_named name rows =
    if bytes_eq name (codes "query") then option_map (λ q. query q) (read_query rows)
    else option_and_then (λ u. read_usage u rows) (find (λ u. bytes_eq name u.name) usages)

abbrev pub read_matches : Option (Text × List Row) → Option CommandWords
read_matches m = option_and_then (λ p. read_named p.0 p.1) m
