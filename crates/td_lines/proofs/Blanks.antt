-- The words of a line, from its cuts at blanks.
use Rattle.std.proofs.Common.{◌≡◌, ℕ, zero, suc, ◌+◌, ◌<◌, ◌==◌, Bool, true, false, not, List, [], ◌∷◌, ◌++◌, length}
use Rattle.std.proofs.Common.{get_or, slice_index, take, drop, Option, Some, None, refl, sym, ap, ◌∙◌, arith, add-one}
use Rattle.std.proofs.Common.{drop-cons, length-drop, append_assoc, append-nil}
use Rattle.std.specs.List.{position, slice_split, filter}
use Rattle.std.specs.Option.{unwrap_or}
use Rattle.std.proofs.lemmas.Bool.{false≢true, eqb-true}
use Rattle.std.proofs.lemmas.Grind.{common_steps}
use Rattle.std.proofs.lemmas.List.Splits.{slice_split-cons_yes}
use Rattle.std.proofs.lemmas.List.Quantifiers.{position-Some}
use Rattle.td_forms.proofs.Splitting.{split-None, split-Some}
use Rattle.td_lines.specs.Words.{is_blank, is_empty, words, cut_at, cut_front, cut_word, word_list}

words-nil : words [] ≡ []
unfolding words
words-nil = refl

-- a blank in front is in no word
words-blank : (b : ℕ) (line : List ℕ) → is_blank b ≡ true → words (b ∷ line) ≡ words line
unfolding words
words-blank b line e = ap (filter (λ w. not (is_empty w))) (slice_split-cons_yes is_blank b line e)

filter-kept : (word : List ℕ) (parts : List (List ℕ)) → 0 < length word
    → filter (λ w. not (is_empty w)) (word ∷ parts) ≡ word ∷ filter (λ w. not (is_empty w)) parts
filter-kept [] parts h = absurd (omega arith)
filter-kept (b ∷ bytes) parts h = refl

-- a line that isn't empty and has no blank is one word
words-one : (line : List ℕ) → position is_blank line ≡ None → 0 < length line → words line ≡ line ∷ []
unfolding words
words-one line e h =
    ap (filter (λ w. not (is_empty w))) (split-None is_blank line e) ∙ filter-kept line [] h

-- the first blank ends the first word, where that isn't empty
words-cut : (line : List ℕ) (i : ℕ) → position is_blank line ≡ Some i → 0 < i
    → words line ≡ take i line ∷ words (drop (i + 1) line)
unfolding words
words-cut line i e h =
    let found = position-Some is_blank line i 0 e in
    ap (filter (λ w. not (is_empty w))) (split-Some is_blank line i e)
    ∙ filter-kept (take i line) (slice_split is_blank (drop (i + 1) line)) (grind (arith, common_steps))

cut-cons : (line : List ℕ) (i : ℕ) → i < length line → drop i line ≡ get_or line i 0 ∷ drop (i + 1) line
cut-cons line i h = rw (add-one, drop-cons line i 0)

-- the same, with the blank left in what follows
words-cut_before : (line : List ℕ) (i : ℕ) → position is_blank line ≡ Some i → 0 < i
    → words line ≡ take i line ∷ words (drop i line)
words-cut_before line i e h =
    let found = position-Some is_blank line i 0 e in
    let same : words (drop i line) ≡ words (drop (i + 1) line) =
    ap words (cut-cons line i found.0) ∙ words-blank (get_or line i 0) (drop (i + 1) line) found.1 in
    rw same (words-cut line i e h)

words-all : (line : List ℕ) → position is_blank line ≡ None → 0 < length line
    → words line ≡ take (length line) line ∷ words (drop (length line) line)
words-all line e h =
    let whole : take (length line) line ≡ line = grind (arith, common_steps) in
    let left : drop (length line) line ≡ [] = grind (arith, common_steps) in
    rw (whole, left, words-nil) (words-one line e h)

starts-later : (line : List ℕ) (i : ℕ) → is_blank (get_or line 0 0) ≡ false → is_blank (get_or line i 0) ≡ true → 0 < i
starts-later line zero first e = absurd (false≢true (sym first ∙ e))
starts-later line (suc i) first e = omega arith

words-front_case : (line : List ℕ) (place : Option ℕ) → position is_blank line ≡ place → 0 < length line
    → is_blank (get_or line 0 0) ≡ false → words line ≡ word_list (Some (cut_at (unwrap_or place (length line)) line))
words-front_case line None e some first = words-all line e some
words-front_case line (Some i) e some first =
    let found = position-Some is_blank line i 0 e in
    words-cut_before line i e (starts-later line i first found.1)

-- ---- the first word

pub cut-blank : (b : ℕ) (line : List ℕ) → is_blank b ≡ true → cut_word (b ∷ line) ≡ cut_word line
unfolding cut_word
cut-blank b line e = rw e refl

cut-word : (b : ℕ) (line : List ℕ) → is_blank b ≡ false → cut_word (b ∷ line) ≡ Some (cut_front (b ∷ line))
unfolding cut_word
cut-word b line e = rw e refl

cut-nil : cut_word [] ≡ None
unfolding cut_word
cut-nil = refl

words-listed_case : (b : ℕ) (line : List ℕ) (blank : Bool) → is_blank b ≡ blank → words line ≡ word_list (cut_word line)
    → words (b ∷ line) ≡ word_list (cut_word (b ∷ line))
words-listed_case b line true e more =
    words-blank b line e ∙ more ∙ ap word_list (sym (cut-blank b line e))
words-listed_case b line false e more =
    words-front_case (b ∷ line) (position is_blank (b ∷ line)) refl (omega arith) e
    ∙ ap word_list (sym (cut-word b line e))

-- the words of a line are its first word, and those of what stands behind it
pub words-listed : (line : List ℕ) → words line ≡ word_list (cut_word line)
words-listed [] = words-nil ∙ ap word_list (sym cut-nil)
words-listed (b ∷ line) = words-listed_case b line (is_blank b) refl (words-listed line)

-- ---- what the calls answer

pub skip-more : (whole line others : List ℕ) (first : ℕ) → cut_word line ≡ cut_word whole → line ≡ first ∷ others
    → is_blank first ≡ true → cut_word others ≡ cut_word whole
skip-more whole line others first same parts blank =
    sym (cut-blank first others blank) ∙ ap cut_word (sym parts) ∙ same

pub cut-empty : (whole line : List ℕ) → cut_word line ≡ cut_word whole → (length line == 0) ≡ true
    → cut_word whole ≡ None
cut-empty whole [] same e = sym same ∙ cut-nil
cut-empty whole (b ∷ line) same e = absurd (omega (arith, eqb-true _ _ e))

pub some-left : (line : List ℕ) → (length line == 0) ≡ false → 0 < length line
some-left [] e = absurd (false≢true (sym e))
some-left (b ∷ line) e = omega arith

pub cut-found : (whole line : List ℕ) → cut_word line ≡ cut_word whole
    → (0 < length line → is_blank (slice_index line 0) ≡ false) → 0 < length line
    → cut_word whole ≡ Some (cut_front line)
cut-found whole [] same first some = absurd (omega arith)
cut-found whole (b ∷ line) same first some = sym same ∙ cut-word b line (first some)

front-shorter_case : (line : List ℕ) (place : Option ℕ) → position is_blank line ≡ place → 0 < length line
    → is_blank (get_or line 0 0) ≡ false → length (drop (unwrap_or place (length line)) line) < length line
front-shorter_case line None e some first = omega (arith, length-drop (length line) line)
front-shorter_case line (Some i) e some first =
    let found = position-Some is_blank line i 0 e in
    let later : 0 < i = starts-later line i first found.1 in
    omega (arith, length-drop i line, later, found.0)

pub front-shorter : (line : List ℕ) → 0 < length line → is_blank (get_or line 0 0) ≡ false
    → length (cut_front line).1 < length line
front-shorter line some first = front-shorter_case line (position is_blank line) refl some first

-- one word more of a line
pub found-more : (found : List (List ℕ)) (line word others : List ℕ) (all : List (List ℕ))
    → found ++ words line ≡ all → Some (word, others) ≡ cut_word line → (found ++ word ∷ []) ++ words others ≡ all
found-more found line word others all same e =
    let here : words line ≡ word ∷ words others = words-listed line ∙ ap word_list (sym e) in
    append_assoc found (word ∷ []) (words others) ∙ ap (λ x. found ++ x) (sym here) ∙ same

pub found-all : (found : List (List ℕ)) (line : List ℕ) (all : List (List ℕ)) → found ++ words line ≡ all
    → None ≡ cut_word line → found ≡ all
found-all found line all same e =
    let here : words line ≡ [] = words-listed line ∙ ap word_list (sym e) in
    sym (append-nil found) ∙ ap (λ x. found ++ x) (sym here) ∙ same
