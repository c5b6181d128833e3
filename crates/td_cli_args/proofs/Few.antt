-- The subcommands without options: their words stand in places, and behind those of some more words may stand. What has
-- to hold of each of them is one equation of lists, which computes.
use Rattle.std.proofs.Common.{◌≡◌, ◌≤◌, ◌∙◌, ◌&&◌, ◌||◌, ◌+◌, refl, ap, ap₂, sym, subst, inl, inr, true, false, not, codes}
use Rattle.std.proofs.Common.{map, min, length, suc, ℕ, Bool, Option, List, [], ◌∷◌, ◌++◌, Some, None, cond}
use Rattle.std.proofs.Common.{append-nil, append_assoc, arith, true≢false, unwrap_or}
use Rattle.std.specs.List.{find, list_all, list_any}
use Rattle.std.specs.Option.{option_map_or}
use Rattle.std.specs.Prelude.{is_some, option_map}
use Rattle.std.specs.Str.{bytes_eq}
use Rattle.std.proofs.lemmas.List.{map-append}
use Rattle.clap.specs.Facts.{explicit_source}
use Rattle.clap.specs.Lexer.{usize_max}
use Rattle.clap.specs.Words.{Row, Rule, Shape, Text, all_of, first_of}
use Rattle.clap.specs.Simple.{label_of, names_of}
use Rattle.clap.specs.Walk.{Held, Walk, answers_to, arg_by_id, arg_by_index, has_row, idle, is_empty, is_pending}
use Rattle.clap.specs.Walk.{nothing_held, walk_from, walked}
use Rattle.clap.specs.Takes.{default_passes, is_given, is_valid, turn_passes}
use Rattle.clap.proofs.SimpleLemmas.{is_nil}
use Rattle.td_cli_args.specs.Forms.{is_plain}
use Rattle.td_cli_args.specs.Matches.{read_matches, words_at, words_behind}
use Rattle.td_cli_args.specs.Tool.{usage_app}
use Rattle.td_cli_args.specs.Wishes.{CommandWords, IsAmongUsages, Usage, usages}
use Rattle.td_cli_args.proofs.Places.{AreMany, ArePlaces, Ended, Stage, ended, held_behind, holds, many_read, many_rows}
use Rattle.td_cli_args.proofs.Places.{many_rule, next_place, place_rule, placed, rows_in, words_in}
use Rattle.td_cli_args.proofs.Moves.{Moves, moves_on}
use Rattle.td_cli_args.proofs.Plain.{at, is_other}
use Rattle.td_cli_args.proofs.Rows.{and_false, bytes_eq_refl, first_half, second_half, word_row}
use Rattle.td_cli_args.proofs.Subcommands.{IsComplete, IsNamed, Reads, T, leaf, reads, skip_all, stopped_at}

-- ---- words in places, and more words

-- nothing has a default, and what has to be there is
record Ends (s : Shape) (rows : List Row) : Type 0 where
  passes : list_all default_passes s.rules ≡ true
  none : list_all (λ a. is_empty a.defaults) s.rules ≡ true
  valid : is_valid s rows false ≡ true

complete : (s : Shape) (rows : List Row) → Ends s rows → IsComplete s rows rows
complete s rows e = record { defaults = e.passes; filled = skip_all s.rules rows e.none; valid = e.valid }

none_held : (s : Shape) → Stage s [] nothing_held
none_held s = record { settles = refl; passes = refl }

few : (name : Text) (s : Shape) (ps : List (Text × Text)) (asked : CommandWords) → IsNamed name s → ArePlaces s 1 [] ps
    → Ends s (rows_in ps) → read_matches (Some (s.name, rows_in ps)) ≡ Some asked
    → list_all is_plain (words_in ps) ≡ true → Reads name (words_in ps) asked
few name s ps asked named are ends read plain =
    let then = placed s 1 nothing_held [] ps [] are plain (none_held s) in
    let last = at idle (next_place 1 ps) (held_behind nothing_held [] ps) in
    let end : Ended s (walk_from nothing_held) (words_in ps) (rows_in ps) = record {
      walk = last;
      stage = then.stage;
      moves = subst (λ (ws : List Text). Moves s (walk_from nothing_held) ws last []) (append-nil (words_in ps))
          then.moves;
    } in
    reads name s (words_in ps) (rows_in ps) (rows_in ps) asked named end (complete s (rows_in ps) ends) read

some : (name : Text) (s : Shape) (ps : List (Text × Text)) (more : Text) (ws : List Text) (asked : CommandWords)
    → IsNamed name s → ArePlaces s 1 [] ps → AreMany s (next_place 1 ps) more
    → is_pending (many_rule (next_place 1 ps) more) (held_behind nothing_held [] ps).pending ≡ false
    → has_row more (rows_in ps) ≡ false → Ends s (rows_in ps ++ many_rows more ws)
    → read_matches (Some (s.name, rows_in ps ++ many_rows more ws)) ≡ Some asked
    → list_all is_plain (words_in ps) ≡ true → list_all is_plain ws ≡ true → length ws ≤ usize_max
    → Reads name (words_in ps ++ ws) asked
some name s ps more ws asked named are many other fresh ends read plain plains short =
    let rows = rows_in ps ++ many_rows more ws in
    let then = placed s 1 nothing_held [] ps ws are plain (none_held s) in
    let last =
    ended s (next_place 1 ps) more (held_behind nothing_held [] ps) (rows_in ps) ws many other fresh plains short
    then.stage in
    let end : Ended s (walk_from nothing_held) (words_in ps ++ ws) rows = record {
      walk = last.walk;
      stage = last.stage;
      moves = moves_on s _ _ _ _ _ _ then.moves last.moves;
    } in
    reads name s (words_in ps ++ ws) rows rows asked named end (complete s rows ends) read

-- ---- names of words

abbrev ids_in : List (Text × Text) → List Text
ids_in ps = map (λ p. p.0) ps

abbrev ids_of : List Row → List Text
ids_of rows = map (λ (r : Row). r.id) rows

abbrev is_in : Text → List Text → Bool
is_in id ids = list_any (λ x. bytes_eq x id) ids

-- none of them was there before, and none comes twice
abbrev is_apart : List Text → List Text → Bool
is_apart before [] = true
is_apart before (id ∷ ids) = not (is_in id before) && is_apart (before ++ id ∷ []) ids

first_false : (a b : Bool) → (a || b) ≡ false → a ≡ false
first_false true b e = e
first_false false b e = refl

second_false : (a b : Bool) → (a || b) ≡ false → b ≡ false
second_false true b e = absurd (true≢false e)
second_false false b e = e

has_id : (id : Text) (rows : List Row) → has_row id rows ≡ is_in id (ids_of rows)
has_id id [] = refl
has_id id (r ∷ rs) = ap (λ x. bytes_eq r.id id || x) (has_id id rs)

ids_of_words : (ps : List (Text × Text)) → ids_of (rows_in ps) ≡ ids_in ps
ids_of_words [] = refl
ids_of_words (p ∷ ps) = ap (λ (t : List Text). p.0 ∷ t) (ids_of_words ps)

-- ---- what is found behind rows of other names

find_behind : (id : Text) (before rest : List Row) → has_row id before ≡ false
    → find (λ (r : Row). bytes_eq r.id id) (before ++ rest) ≡ find (λ (r : Row). bytes_eq r.id id) rest
find_behind id [] rest e = refl
find_behind id (r ∷ rs) rest e =
    rw (first_false (bytes_eq r.id id) (has_row id rs) e)
    (find_behind id rs rest (second_false (bytes_eq r.id id) (has_row id rs) e))

first_behind : (id word : Text) (before rest : List Row) → has_row id before ≡ false
    → first_of id (before ++ (word_row id word ∷ rest)) ≡ Some word
first_behind id word before rest e = rw (find_behind id before (word_row id word ∷ rest) e, bytes_eq_refl id) refl

words_found : (before : List Row) (ps : List (Text × Text)) (rest : List Row)
    → is_apart (ids_of before) (ids_in ps) ≡ true
    → words_at (ids_in ps) (before ++ (rows_in ps ++ rest)) ≡ Some (words_in ps)
words_found before [] rest apart = refl
words_found before (p ∷ ps) rest apart =
    let new = word_row p.0 p.1 in
    let fresh = has_id p.0 before ∙ is_other (is_in p.0 (ids_of before)) (first_half _ _ apart) in
    let later =
    words_found (before ++ new ∷ []) ps rest
    (subst (λ (t : List Text). is_apart t (ids_in ps) ≡ true) (sym (map-append (λ (r : Row). r.id) before (new ∷ [])))
    (second_half (not (is_in p.0 (ids_of before))) _ apart)) in
    let same =
    ap (λ (rows : List Row). words_at (ids_in ps) rows) (append_assoc before (new ∷ []) (rows_in ps ++ rest)) in
    rw (first_behind p.0 p.1 before (rows_in ps ++ rest) fresh, sym same ∙ later) refl

more_found : (id : Text) (ps : List (Text × Text)) (words : List Text) → is_in id (ids_in ps) ≡ false
    → unwrap_or (all_of id (rows_in ps ++ many_rows id words)) [] ≡ words
more_found id ps words e =
    ap (λ o. unwrap_or (option_map (λ (r : Row). r.values) o) [])
    (find_behind id (rows_in ps) (many_rows id words)
    (has_id id (rows_in ps) ∙ ap (is_in id) (ids_of_words ps) ∙ e))
    ∙ many_read id words

-- ---- what has to be there

given_in : (id : Text) (ps : List (Text × Text)) (rest : List Row) → is_in id (ids_in ps) ≡ true
    → is_given id (rows_in ps ++ rest) ≡ true
given_in id [] rest e = absurd (true≢false (sym e))
given_in id (p ∷ ps) rest e = go (bytes_eq p.0 id) e (given_in id ps rest)
  where
    go : (b : Bool) → (b || is_in id (ids_in ps)) ≡ true
        → (is_in id (ids_in ps) ≡ true → is_given id (rows_in ps ++ rest) ≡ true)
        → option_map_or (λ (r : Row). explicit_source r.source)
        (cond b (Some (word_row p.0 p.1)) (find (λ (r : Row). bytes_eq r.id id) (rows_in ps ++ rest))) false ≡ true
    go true e f = refl
    go false e f = f e

either : (a b c : Bool) → (b ≡ true → c ≡ true) → (a || b) ≡ true → (a || c) ≡ true
either true b c f e = refl
either false b c f e = f e

all_given : (c : List Rule) (ps : List (Text × Text)) (rest : List Row)
    → list_all (λ (a : Rule). not a.required || is_in a.id (ids_in ps)) c ≡ true
    → list_all (λ (a : Rule). not a.required || is_given a.id (rows_in ps ++ rest)) c ≡ true
all_given [] ps rest e = refl
all_given (a ∷ c) ps rest e =
    ap₂ (λ x y. x && y)
    (either (not a.required) _ _ (given_in a.id ps rest) (first_half _ _ e))
    (all_given c ps rest (second_half (not a.required || is_in a.id (ids_in ps)) _ e))

-- ---- places

abbrev looked_up : Shape → ℕ → List Text → List (Option Rule × Option Rule × ℕ)
looked_up s i [] = []
looked_up s i (id ∷ ids) =
    (arg_by_index s.rules i, arg_by_id s.rules id, min (i + 1) usize_max) ∷ looked_up s (suc i) ids

abbrev ruled : ℕ → List Text → List (Option Rule × Option Rule × ℕ)
ruled i [] = []
ruled i (id ∷ ids) = (Some (place_rule i id), Some (place_rule i id), suc i) ∷ ruled (suc i) ids

abbrev first_or : {A : Type 0} → A → List A → A
first_or a [] = a
first_or a (x ∷ xs) = x

abbrev others : {A : Type 0} → List A → List A
others [] = []
others (x ∷ xs) = xs

are_places : (s : Shape) (i : ℕ) (rows : List Row) (ps : List (Text × Text))
    → looked_up s i (ids_in ps) ≡ ruled i (ids_in ps) → is_apart (ids_of rows) (ids_in ps) ≡ true
    → ArePlaces s i rows ps
are_places s i rows [] e apart = tt
are_places s i rows (p ∷ ps) e apart =
    let one = ap (first_or (None, None, 0)) e in
    let new = word_row p.0 p.1 in (
      (
        ap (λ (x : Option Rule × Option Rule × ℕ). x.0) one,
        ap (λ (x : Option Rule × Option Rule × ℕ). x.1) one,
        ap (λ (x : Option Rule × Option Rule × ℕ). x.2) one,
      ),
      has_id p.0 rows ∙ is_other (is_in p.0 (ids_of rows)) (first_half _ _ apart),
      are_places s (suc i) (rows ++ new ∷ []) ps (ap others e)
          (subst (λ (t : List Text). is_apart t (ids_in ps) ≡ true)
          (sym (map-append (λ (r : Row). r.id) rows (new ∷ [])))
          (second_half (not (is_in p.0 (ids_of rows))) _ apart)),
    )

-- the number of the place behind them
abbrev place_behind : ℕ → List Text → ℕ
place_behind i [] = i
place_behind i (id ∷ ids) = place_behind (suc i) ids

next_is : (i : ℕ) (ps : List (Text × Text)) → next_place i ps ≡ place_behind i (ids_in ps)
next_is i [] = refl
next_is i (p ∷ ps) = next_is (suc i) ps

other_pending : (a : Rule) (h : Held) (rows : List Row) (ps : List (Text × Text)) → is_pending a h.pending ≡ false
    → is_in a.id (ids_in ps) ≡ false → is_pending a (held_behind h rows ps).pending ≡ false
other_pending a h rows [] none e = none
other_pending a h rows (p ∷ ps) none e =
    other_pending a (holds rows p.0 (p.1 ∷ []) h.skip) (rows ++ word_row p.0 p.1 ∷ []) ps
    (first_false (bytes_eq p.0 a.id) _ e) (second_false (bytes_eq p.0 a.id) _ e)

-- ---- what computes of each subcommand

abbrev more_at : Shape → ℕ → Option Text → Option Rule × Option Rule
more_at s i None = (None, None)
more_at s i (Some id) = (arg_by_index s.rules i, arg_by_id s.rules id)

abbrev more_ruled : ℕ → Option Text → Option Rule × Option Rule
more_ruled i None = (None, None)
more_ruled i (Some id) = (Some (many_rule i id), Some (many_rule i id))

abbrev is_other_word : Option Text → List Text → Bool
is_other_word None ids = false
is_other_word (Some id) ids = is_in id ids

record Seen : Type 0 where
  found : Option Shape
  stops : Walk
  turns : Bool
  name : Text
  is_query : Bool
  named : Option Usage
  places : List (Option Rule × Option Rule × ℕ)
  apart : Bool
  more : Option Rule × Option Rule
  more_among : Bool
  defaults : Bool
  no_default : Bool
  helps : Bool
  wants_one : Bool
  free : Bool
  given : Bool

abbrev seen : Usage → Seen
seen u =
    let s = leaf (usage_app u) in record {
      found = find (λ x. answers_to u.name (label_of x)) T.subs;
      stops = walked T.top.rules (names_of T) (walk_from nothing_held) u.name;
      turns = turn_passes T.top (names_of T) (walk_from nothing_held) u.name;
      name = s.name;
      is_query = bytes_eq u.name (codes "query");
      named = find (λ (v : Usage). bytes_eq u.name v.name) usages;
      places = looked_up s 1 u.places;
      apart = is_apart [] u.places;
      more = more_at s (place_behind 1 u.places) u.more;
      more_among = is_other_word u.more u.places;
      defaults = list_all default_passes s.rules;
      no_default = list_all (λ (a : Rule). is_empty a.defaults) s.rules;
      helps = s.arg_required_else_help;
      wants_one = s.subcommand_required;
      free = list_all (λ (a : Rule). a.is_free) s.rules;
      given = list_all (λ (a : Rule). not a.required || is_in a.id u.places) s.rules;
    }

abbrev wanted : Usage → Seen
wanted u = record {
  found = Some (leaf (usage_app u));
  stops = stopped_at (walk_from nothing_held) u.name [];
  turns = true;
  name = u.name;
  is_query = false;
  named = Some u;
  places = ruled 1 u.places;
  apart = true;
  more = more_ruled (place_behind 1 u.places) u.more;
  more_among = false;
  defaults = true;
  no_default = true;
  helps = false;
  wants_one = false;
  free = true;
  given = true;
}

all_seen : map seen usages ≡ map wanted usages
unfolding walked
all_seen = refl

of_each : (f g : Usage → Seen) (u : Usage) (us : List Usage) → map f us ≡ map g us → IsAmongUsages u us → f u ≡ g u
of_each f g u [] e among = absurd among
of_each f g u (v ∷ vs) e (inl is) = subst (λ (x : Usage). f x ≡ g x) (sym is) (ap (first_or (f v)) e)
of_each f g u (v ∷ vs) e (inr later) = of_each f g u vs (ap others e) later

-- ---- the words of each of them

module _ (u : Usage) (ps : List (Text × Text)) (among : IsAmongUsages u usages) (ids : ids_in ps ≡ u.places) where
  abbrev s : Shape
  s = leaf (usage_app u)

  is : seen u ≡ wanted u
  is = of_each seen wanted u usages all_seen among

  named : IsNamed u.name s
  named = record {
    found = ap (λ (x : Seen). x.found) is;
    stops = ap (λ (x : Seen). x.stops) is;
    passes = ap (λ (x : Seen). x.turns) is;
  }

  apart : is_apart [] (ids_in ps) ≡ true
  apart = subst (λ (t : List Text). is_apart [] t ≡ true) (sym ids) (ap (λ (x : Seen). x.apart) is)

  places : ArePlaces s 1 [] ps
  places =
      are_places s 1 [] ps
      (subst (λ (t : List Text). looked_up s 1 t ≡ ruled 1 t) (sym ids) (ap (λ (x : Seen). x.places) is)) apart

  ends : (rest : List Row) → Ends s (rows_in ps ++ rest)
  ends rest = record {
    passes = ap (λ (x : Seen). x.defaults) is;
    none = ap (λ (x : Seen). x.no_default) is;
    valid = rw (
      ap (λ (x : Seen). x.helps) is,
      ap (λ (x : Seen). x.wants_one) is,
      ap (λ (x : Seen). x.free) is,
      and_false s.subcommand_negates_reqs,
      all_given s.rules ps rest
          (subst
          (λ (t : List Text). list_all (λ (a : Rule). not a.required || is_in a.id t) s.rules ≡ true)
          (sym ids) (ap (λ (x : Seen). x.given) is)),
    ) refl;
  }

  read : (rest : List Row) (more : List Text) (asked : CommandWords)
      → words_behind u.more (rows_in ps ++ rest) ≡ more → u.asks (words_in ps) more ≡ Some asked
      → read_matches (Some (s.name, rows_in ps ++ rest)) ≡ Some asked
  read rest more asked behind asks =
      let words : words_at u.places (rows_in ps ++ rest) ≡ Some (words_in ps) =
      subst (λ (t : List Text). words_at t (rows_in ps ++ rest) ≡ Some (words_in ps)) ids (words_found [] ps rest apart) in
      rw (
        ap (λ (x : Seen). x.name) is,
        ap (λ (x : Seen). x.is_query) is,
        ap (λ (x : Seen). x.named) is,
        words,
        behind,
      ) asks

  reads_words : (m : Option Text) (more : List Text) (asked : CommandWords) → u.more ≡ m
      → (is_some m || is_empty more) ≡ true → list_all is_plain (words_in ps) ≡ true
      → list_all is_plain more ≡ true → length more ≤ usize_max → u.asks (words_in ps) more ≡ Some asked
      → Reads u.name (words_in ps ++ more) asked
  reads_words None more asked none takes plain plains short asks =
      let empty = is_nil more takes in
      let same = append-nil (rows_in ps) in
      subst (λ (t : List Text). Reads u.name (words_in ps ++ t) asked) (sym empty)
      (subst (λ (t : List Text). Reads u.name t asked) (sym (append-nil (words_in ps)))
      (few u.name s ps asked named places (subst (λ (r : List Row). Ends s r) same (ends []))
      (subst (λ (r : List Row). read_matches (Some (s.name, r)) ≡ Some asked) same
      (read [] [] asked (ap (λ (m : Option Text). words_behind m (rows_in ps ++ [])) none)
      (subst (λ (t : List Text). u.asks (words_in ps) t ≡ Some asked) empty asks)))
      plain))
  reads_words (Some id) more asked one takes plain plains short asks =
      let other : is_in id (ids_in ps) ≡ false =
      subst (λ (t : List Text). is_in id t ≡ false) (sym ids)
      (subst (λ (m : Option Text). is_other_word m u.places ≡ false) one (ap (λ (x : Seen). x.more_among) is)) in
      let i = next_place 1 ps in
      let place : i ≡ place_behind 1 u.places = next_is 1 ps ∙ ap (place_behind 1) ids in
      let many : AreMany s i id =
      subst (λ (n : ℕ). AreMany s n id) (sym place)
      (let both = subst
      (λ (m : Option Text). more_at s (place_behind 1 u.places) m ≡ more_ruled (place_behind 1 u.places) m) one
      (ap (λ (x : Seen). x.more) is) in
      (ap (λ (x : Option Rule × Option Rule). x.0) both, ap (λ (x : Option Rule × Option Rule). x.1) both)) in
      some u.name s ps id more asked named places many
      (other_pending (many_rule i id) nothing_held [] ps refl other)
      (has_id id (rows_in ps) ∙ ap (is_in id) (ids_of_words ps) ∙ other) (ends (many_rows id more))
      (read (many_rows id more) more asked
      (subst (λ (m : Option Text). words_behind m (rows_in ps ++ many_rows id more) ≡ more) (sym one)
      (more_found id ps more other)) asks)
      plain plains short

-- ---- as many words as places

abbrev paired : List Text → List Text → List (Text × Text)
paired (id ∷ ids) (w ∷ ws) = (id, w) ∷ paired ids ws
paired _ _ = []

paired_ids : (ids ws : List Text) → length ws ≡ length ids → ids_in (paired ids ws) ≡ ids
paired_ids [] [] e = refl
paired_ids (id ∷ ids) (w ∷ ws) e = ap (λ (t : List Text). id ∷ t) (paired_ids ids ws (omega (arith, e)))
paired_ids [] (w ∷ ws) e = absurd (omega (arith, e))
paired_ids (id ∷ ids) [] e = absurd (omega (arith, e))

paired_words : (ids ws : List Text) → length ws ≡ length ids → words_in (paired ids ws) ≡ ws
paired_words [] [] e = refl
paired_words (id ∷ ids) (w ∷ ws) e = ap (λ (t : List Text). w ∷ t) (paired_words ids ws (omega (arith, e)))
paired_words [] (w ∷ ws) e = absurd (omega (arith, e))
paired_words (id ∷ ids) [] e = absurd (omega (arith, e))

pub usage_words : (u : Usage) (ws more : List Text) (asked : CommandWords) → IsAmongUsages u usages
    → length ws ≡ length u.places → (is_some u.more || is_empty more) ≡ true → list_all is_plain ws ≡ true
    → list_all is_plain more ≡ true → length more ≤ usize_max → u.asks ws more ≡ Some asked
    → Reads u.name (ws ++ more) asked
usage_words u ws more asked among count takes plain plains short asks =
    let ps = paired u.places ws in
    let words = paired_words u.places ws count in
    subst (λ (t : List Text). Reads u.name (t ++ more) asked) words
    (reads_words u ps among (paired_ids u.places ws count) u.more more asked refl takes
    (subst (λ (t : List Text). list_all is_plain t ≡ true) (sym words) plain) plains short
    (subst (λ (t : List Text). u.asks t more ≡ Some asked) (sym words) asks))
