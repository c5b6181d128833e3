-- The first of the words that are left, and those behind it.
use Rattle.std.proofs.Common.{◌≡◌, refl, ℕ, ◌+◌, ◌≤◌, List, length, get_or, drop, sym, ap, ◌∙◌, add_comm, add-zero}
use Rattle.std.proofs.Common.{arith}
use Rattle.std.proofs.lemmas.List.{get_or-drop, drop-drop, drop_all}

pub first_word : (words : List ℕ) (place : ℕ) → get_or words place 0 ≡ get_or (drop place words) 0 0
first_word words place = sym (get_or-drop place words 0 0 ∙ ap (λ i. get_or words i 0) (add-zero place))

pub later_word : (words : List ℕ) (place k : ℕ)
    → get_or (drop (place + 1) words) k 0 ≡ get_or (drop place words) (k + 1) 0
later_word words place k =
    let same : place + 1 + k ≡ place + (k + 1) = omega arith in
    get_or-drop (place + 1) words k 0 ∙ ap (λ i. get_or words i 0) same ∙ sym (get_or-drop place words (k + 1) 0)

swapped : (words : List ℕ) (place : ℕ) → drop 1 (drop place words) ≡ drop (1 + place) words
swapped words place = drop-drop 1 place words ∙ ap (λ n. drop n words) (add_comm place 1)

pub words_behind : (words : List ℕ) (place : ℕ) → drop (place + 1) words ≡ drop 1 (drop place words)
words_behind words place = ap (λ n. drop n words) (add_comm place 1) ∙ sym (swapped words place)

pub no_word : (words : List ℕ) (place k : ℕ) → length words ≤ place → 0 ≡ get_or (drop place words) k 0
no_word words place k h = rw (drop_all place words h) refl

pub ruleset by_place = (first_word, later_word, words_behind, no_word)
