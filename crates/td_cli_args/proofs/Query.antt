-- What a query's words come to.
use Rattle.std.proofs.Common.{◌≡◌, ◌∙◌, ◌≤◌, ◌||◌, cond, refl, sym, ap, ap₂, subst, true, false, codes, length, take}
use Rattle.std.proofs.Common.{drop, List, [], ◌∷◌, ◌++◌, Some, None, Bool, append_assoc, append-nil, unwrap_or}
use Rattle.std.specs.List.{find, fold, list_all, list_any}
use Rattle.std.specs.Option.{option_map_or}
use Rattle.std.specs.Prelude.{option_and_then, option_map, slice_get}
use Rattle.std.specs.Str.{bytes_eq}
use Rattle.std.proofs.lemmas.List.Folds.{list_any-append}
use Rattle.clap.specs.Lexer.{usize_max}
use Rattle.clap.specs.Words.{Row, Rule, Text, first_of, all_of}
use Rattle.clap.specs.Simple.{filled, with_index}
use Rattle.clap.specs.Walk.{has_row, is_empty, with_default, walk_from, walked, nothing_held}
use Rattle.clap.specs.Takes.{is_given, is_valid}
use Rattle.clap.specs.Facts.{explicit_source}
use Rattle.clap.specs.declared.parser.matches.ValueSource.TheVariants.{DefaultValue}
use Rattle.td_cli_args.specs.Forms.{is_plain, OptionKind, how_many, hops, follow, id, Choice, given, exact, name_of}
use Rattle.td_cli_args.specs.Forms.{same_kind}
use Rattle.td_cli_args.specs.Forms.{same_choice, option_words, once, is_plain_choice, value_given, is_exact}
use Rattle.td_cli_args.specs.Matches.{read_matches, says_true}
use Rattle.td_cli_args.specs.Tool.{flag}
use Rattle.td_cli_args.specs.Wishes.{CommandWords, query}
use Rattle.td_cli_args.proofs.Moves.{moves_on}
use Rattle.td_cli_args.proofs.Options.{C, IsOther, Q, alike, choose, chosen, find_past, has_choice, no_choice}
use Rattle.td_cli_args.proofs.Options.{not_exact}
use Rattle.td_cli_args.proofs.Places.{Ended, Stage, ended, held_behind, many_rows, placed, rows_in, words_in}
use Rattle.td_cli_args.proofs.Rows.{added_new, has_row_more, row, word_row}
use Rattle.td_cli_args.proofs.Subcommands.{Reads, reads, skip_all}

-- ---- the words behind the options

abbrev places : Text → Text → Text → Text → List (Text × Text)
places a b c d =
    (codes "ref", a) ∷ (codes "type", b) ∷ (codes "constraint", c) ∷ (codes "preference", d) ∷ []

abbrev body : Text → Text → Text → Text → List Text → List Row
body a b c d names = rows_in (places a b c d) ++ many_rows (codes "name") names

other : (name : Text) → bytes_eq (name_of how_many) name ≡ false → bytes_eq (name_of hops) name ≡ false
    → bytes_eq (name_of follow) name ≡ false → bytes_eq (name_of id) name ≡ false
    → bytes_eq (codes "exact") name ≡ false → IsOther name
other name a b c d e = (λ k. by_kind k, e)
  where
    by_kind : (k : OptionKind) → bytes_eq (name_of k) name ≡ false
    by_kind how_many = a
    by_kind hops = b
    by_kind follow = c
    by_kind id = d

other_ref : IsOther (codes "ref")
other_ref = other (codes "ref") refl refl refl refl refl

other_type : IsOther (codes "type")
other_type = other (codes "type") refl refl refl refl refl

other_constraint : IsOther (codes "constraint")
other_constraint = other (codes "constraint") refl refl refl refl refl

other_preference : IsOther (codes "preference")
other_preference = other (codes "preference") refl refl refl refl refl

other_name : IsOther (codes "name")
other_name = other (codes "name") refl refl refl refl refl

-- the walk to the end of the words
walks : (cs : List Choice) (a b c d : Text) (names : List Text) → once [] cs ≡ true
    → list_all is_plain_choice cs ≡ true → list_all is_plain (words_in (places a b c d)) ≡ true
    → list_all is_plain names ≡ true → length names ≤ usize_max
    → Ended Q (walk_from nothing_held) (option_words cs ++ (a ∷ b ∷ c ∷ d ∷ names)) (chosen cs ++ body a b c d names)
walks cs a b c d names apart plain placed_plain named short =
    let ps = places a b c d in
    let first =
    choose [] cs nothing_held (a ∷ b ∷ c ∷ d ∷ names) (record { settles = refl; passes = refl }) apart plain in
    let r0 = chosen cs in
    let r1 = r0 ++ word_row (codes "ref") a ∷ [] in
    let r2 = r1 ++ word_row (codes "type") b ∷ [] in
    let then =
    placed Q 1 first.held r0 ps names (
      (refl, refl, refl),
      no_choice _ other_ref cs,
      (
        (refl, refl, refl),
        has_row_more _ r0 _ (no_choice _ other_type cs) refl,
        (
          (refl, refl, refl),
          has_row_more _ r1 _ (has_row_more _ r0 _ (no_choice _ other_constraint cs) refl) refl,
          (
            (refl, refl, refl),
            has_row_more _ r2 _ (has_row_more _ r1 _
                (has_row_more _ r0 _ (no_choice _ other_preference cs) refl) refl) refl,
            tt,
          ),
        ),
      ),
    )
    placed_plain first.stage in
    let last =
    ended Q 5 (codes "name") (held_behind first.held r0 ps) (r0 ++ rows_in ps) names (refl, refl) refl
    (has_row_more _ r0 _ (no_choice _ other_name cs) refl) named short then.stage in
    record {
      walk = last.walk;
      stage = subst (λ (r : List Row). Stage Q r last.walk.held)
          (append_assoc r0 (rows_in ps) (many_rows (codes "name") names)) last.stage;
      moves = moves_on Q _ _ _ _ _ _ first.moves (moves_on Q _ _ _ _ _ _ then.moves last.moves);
    }

-- ---- the row of `--exact`, which has a default

fold_split : (xs ys : List Rule) (rows : List Row)
    → fold with_default rows (xs ++ ys) ≡ fold with_default (fold with_default rows xs) ys
fold_split [] ys rows = refl
fold_split (x ∷ xs) ys rows = fold_split xs ys (with_default rows x)

-- one argument has a default, and those on both sides have none
one_default : (c xs ys : List Rule) (a : Rule) (rows : List Row) → c ≡ xs ++ (a ∷ ys)
    → list_all (λ (a : Rule). is_empty a.defaults) xs ≡ true → list_all (λ (a : Rule). is_empty a.defaults) ys ≡ true
    → fold with_default rows c ≡ with_default rows a
one_default c xs ys a rows parts left right =
    ap (λ (r : List Rule). fold with_default rows r) parts ∙ fold_split xs (a ∷ ys) rows
    ∙ ap (λ (r : List Row). fold with_default (with_default r a) ys) (skip_all xs rows left)
    ∙ skip_all ys (with_default rows a) right

abbrev E : Rule
E = with_index 1 (filled (flag (codes "exact")))

abbrev extra : Bool → List Row
extra true = []
extra false = row (codes "exact") DefaultValue (codes "false" ∷ []) ∷ []

any_exact : (cs : List Choice) → list_any (same_choice exact) cs ≡ is_exact cs
any_exact [] = refl
any_exact (given k v ∷ cs) = any_exact cs
any_exact (exact ∷ cs) = refl

not_in_body : (a b c d : Text) (names : List Text) → has_row (codes "exact") (body a b c d names) ≡ false
not_in_body a b c d [] = refl
not_in_body a b c d (n ∷ ns) = refl

has_exact : (cs : List Choice) (a b c d : Text) (names : List Text)
    → has_row (codes "exact") (chosen cs ++ body a b c d names) ≡ (is_exact cs || false)
has_exact cs a b c d names =
    list_any-append (λ (r : Row). bytes_eq r.id (codes "exact")) (chosen cs) (body a b c d names)
    ∙ ap₂ (λ x y. x || y) (has_choice exact cs ∙ any_exact cs) (not_in_body a b c d names)

-- the rows at the end
abbrev rows_of : List Choice → Text → Text → Text → Text → List Text → List Row
rows_of cs a b c d names = chosen cs ++ (body a b c d names ++ extra (is_exact cs))

defaulted : (cs : List Choice) (a b c d : Text) (names : List Text)
    → fold with_default (chosen cs ++ body a b c d names) C ≡ rows_of cs a b c d names
defaulted cs a b c d names =
    one_default C (take 4 C) (drop 5 C) E (chosen cs ++ body a b c d names) refl refl refl
    ∙ go (is_exact cs) (has_exact cs a b c d names)
  where
    go : (x : Bool) → has_row (codes "exact") (chosen cs ++ body a b c d names) ≡ (x || false)
        → with_default (chosen cs ++ body a b c d names) E ≡ chosen cs ++ (body a b c d names ++ extra x)
    go true e = rw e (ap (λ (r : List Row). chosen cs ++ r) (sym (append-nil (body a b c d names))))
    go false e =
        rw e (added_new (codes "exact") DefaultValue (codes "false" ∷ []) (chosen cs ++ body a b c d names) e
        ∙ append_assoc (chosen cs) (body a b c d names) (extra false))

-- ---- what is read

given_past : (name : Text) → IsOther name → (cs : List Choice) (rest : List Row) → is_given name rest ≡ true
    → is_given name (chosen cs ++ rest) ≡ true
given_past name is cs rest e =
    ap (λ o. option_map_or (λ (r : Row). explicit_source r.source) o false) (find_past name is cs rest) ∙ e

first_past : (name : Text) → IsOther name → (cs : List Choice) (rest : List Row)
    → first_of name (chosen cs ++ rest) ≡ first_of name rest
first_past name is cs rest = ap (λ o. option_and_then (λ (r : Row). slice_get r.values 0) o) (find_past name is cs rest)

valid : (cs : List Choice) (a b c d : Text) (names : List Text) → is_valid Q (rows_of cs a b c d names) false ≡ true
valid cs a b c d names =
    let rest = body a b c d names ++ extra (is_exact cs) in
    rw (
      given_past (codes "ref") other_ref cs rest refl,
      given_past (codes "type") other_type cs rest refl,
      given_past (codes "constraint") other_constraint cs rest refl,
      given_past (codes "preference") other_preference cs rest refl,
    ) refl

value_read : (k : OptionKind) (cs : List Choice) (rest : List Row)
    → first_of (name_of k) rest ≡ None → first_of (name_of k) (chosen cs ++ rest) ≡ value_given k cs
value_read k [] rest none = none
value_read k (given j v ∷ cs) rest none = rw (alike j k).0 (go (same_kind j k) (value_read k cs rest none))
  where
    go : (b : Bool) → first_of (name_of k) (chosen cs ++ rest) ≡ value_given k cs
        → option_and_then (λ (r : Row). slice_get r.values 0)
        (cond b (Some (word_row (name_of j) v)) (find (λ r. bytes_eq r.id (name_of k)) (chosen cs ++ rest)))
        ≡ cond b (Some v) (value_given k cs)
    go true e = refl
    go false e = e
value_read k (exact ∷ cs) rest none = rw (not_exact k).0 (value_read k cs rest none)

-- no option's value stands behind the options
no_value : (k : OptionKind) (a b c d : Text) (names : List Text) (x : Bool)
    → first_of (name_of k) (body a b c d names ++ extra x) ≡ None
no_value how_many a b c d [] true = refl
no_value hops a b c d [] true = refl
no_value follow a b c d [] true = refl
no_value id a b c d [] true = refl
no_value how_many a b c d (n ∷ ns) true = refl
no_value hops a b c d (n ∷ ns) true = refl
no_value follow a b c d (n ∷ ns) true = refl
no_value id a b c d (n ∷ ns) true = refl
no_value _ a b c d _ _ = refl

exact_read : (cs : List Choice) (rest : List Row) → says_true (first_of (codes "exact") (chosen cs ++ rest))
    ≡ (is_exact cs || says_true (first_of (codes "exact") rest))
exact_read [] rest = refl
exact_read (given k v ∷ cs) rest = rw (not_exact k).1 (exact_read cs rest)
exact_read (exact ∷ cs) rest = refl

exact_is : (cs : List Choice) (a b c d : Text) (names : List Text)
    → says_true (first_of (codes "exact") (rows_of cs a b c d names)) ≡ is_exact cs
exact_is cs a b c d names = exact_read cs (body a b c d names ++ extra (is_exact cs)) ∙ go (is_exact cs) names
  where
    go : (x : Bool) (ns : List Text) → (x || says_true (first_of (codes "exact") (body a b c d ns ++ extra x))) ≡ x
    go true ns = refl
    go false [] = refl
    go false (n ∷ ns) = refl

names_read : (cs : List Choice) (a b c d : Text) (names : List Text)
    → unwrap_or (all_of (codes "name") (rows_of cs a b c d names)) [] ≡ names
names_read cs a b c d names =
    ap (λ o. unwrap_or (option_map (λ (r : Row). r.values) o) [])
    (find_past (codes "name") other_name cs (body a b c d names ++ extra (is_exact cs))) ∙ go names (is_exact cs)
  where
    go : (ns : List Text) (y : Bool) → unwrap_or (all_of (codes "name") (body a b c d ns ++ extra y)) [] ≡ ns
    go [] true = refl
    go [] false = refl
    go (n ∷ ns) true = refl
    go (n ∷ ns) false = refl

module _ (cs : List Choice) (a b c d : Text) (names : List Text) where
  abbrev asked : CommandWords
  asked = query (record {
    reference = a;
    service = b;
    constraint = c;
    preference = d;
    names = names;
    how_many = value_given how_many cs;
    hops = value_given hops cs;
    follow = value_given follow cs;
    id = value_given id cs;
    exact = is_exact cs;
  })

  read : read_matches (Some (codes "query", rows_of cs a b c d names)) ≡ Some asked
  read =
      let rest = body a b c d names ++ extra (is_exact cs) in
      let value = λ (k : OptionKind). value_read k cs rest (no_value k a b c d names (is_exact cs)) in
      rw (
        first_past (codes "ref") other_ref cs rest,
        first_past (codes "type") other_type cs rest,
        first_past (codes "constraint") other_constraint cs rest,
        first_past (codes "preference") other_preference cs rest,
      )
      (λ i. Some (query (record {
        reference = a;
        service = b;
        constraint = c;
        preference = d;
        names = names_read cs a b c d names i;
        how_many = value how_many i;
        hops = value hops i;
        follow = value follow i;
        id = value id i;
        exact = exact_is cs a b c d names i;
      })))

-- the documented words of a query
pub query_words : (cs : List Choice) (a b c d : Text) (names : List Text) → once [] cs ≡ true
    → list_all is_plain_choice cs ≡ true
    → is_plain a ≡ true → is_plain b ≡ true → is_plain c ≡ true → is_plain d ≡ true
    → list_all is_plain names ≡ true → length names ≤ usize_max
    → Reads (codes "query") (option_words cs ++ (a ∷ b ∷ c ∷ d ∷ names)) (asked cs a b c d names)
unfolding walked
query_words cs a b c d names apart plain pa pb pc pd pn short =
    reads (codes "query") Q (option_words cs ++ (a ∷ b ∷ c ∷ d ∷ names)) (chosen cs ++ body a b c d names)
    (rows_of cs a b c d names) (asked cs a b c d names) (record { found = refl; stops = refl; passes = refl })
    (walks cs a b c d names apart plain (rw (pa, pb, pc, pd) refl) pn short)
    (record { defaults = refl; filled = defaulted cs a b c d names; valid = valid cs a b c d names })
    (read cs a b c d names)
