-- The numbers of a text, word by word.
use Rattle.std.proofs.Common.{◌≡◌, ℕ, ◌+◌, List, [], ◌∷◌, ◌++◌, take, drop, Option, Some, None, refl, sym, ap, ◌∙◌}
use Rattle.std.proofs.Common.{nat_eq, append_assoc}
use Rattle.std.specs.List.{position, slice_split}
use Rattle.std.specs.Option.{option_map}
use Rattle.td_forms.proofs.Splitting.{split-None, split-Some}
use Rattle.td_ior.specs.Keys.{◌>>=◌}
use Rattle.td_ior.specs.Number.{number_of}
use Rattle.td_log.specs.Words.{cut_word, each_number, numbers_of, with_number}

-- these numbers stand in front of those that a text spells
abbrev pub behind : (front : List ℕ) → Option (List ℕ) → Option (List ℕ)
behind front numbers = option_map (λ ns. front ++ ns) numbers

pub behind-none : (numbers : Option (List ℕ)) → behind [] numbers ≡ numbers
behind-none (Some ns) = refl
behind-none None = refl

-- what stands in front of a place, and behind it
abbrev parts-at : List ℕ → ℕ → List ℕ × List ℕ
parts-at text i = (take i text, drop (i + 1) text)

abbrev cut-at : List ℕ → ℕ → Option (List ℕ × List ℕ)
cut-at text i = Some (parts-at text i)

by-place : (text word rest : List ℕ) (place : Option ℕ) → position (λ b. nat_eq b 32) text ≡ place
    → (place >>= cut-at text) ≡ Some (word, rest)
    → numbers_of text ≡ with_number (number_of word) (numbers_of rest)
unfolding numbers_of
by-place text word rest (Some i) e cut =
    let both : parts-at text i ≡ (word, rest) = cc in
    let w : take i text ≡ word = ap (λ (p : List ℕ × List ℕ). p.0) both in
    let r : drop (i + 1) text ≡ rest = ap (λ (p : List ℕ × List ℕ). p.1) both in
    ap each_number (split-Some (λ b. nat_eq b 32) text i e)
    ∙ ap
    (λ (x : List ℕ). with_number (number_of x) (each_number (slice_split (λ b. nat_eq b 32) (drop (i + 1) text)))) w
    ∙ ap (λ (x : List ℕ). with_number (number_of word) (each_number (slice_split (λ b. nat_eq b 32) x))) r
by-place text word rest None e cut = cc

-- a word, and those behind it
pub numbers-cut : (text word rest : List ℕ) → cut_word text ≡ Some (word, rest)
    → numbers_of text ≡ with_number (number_of word) (numbers_of rest)
unfolding cut_word
numbers-cut text word rest cut = by-place text word rest (position (λ b. nat_eq b 32) text) refl cut

by-no-place : (text : List ℕ) (place : Option ℕ) → position (λ b. nat_eq b 32) text ≡ place
    → (place >>= cut-at text) ≡ None
    → numbers_of text ≡ with_number (number_of text) (Some [])
unfolding numbers_of
by-no-place text (Some i) e cut = cc
by-no-place text None e cut = ap each_number (split-None (λ b. nat_eq b 32) text e)

-- the last word
pub numbers-last : (text : List ℕ) → cut_word text ≡ None → numbers_of text ≡ with_number (number_of text) (Some [])
unfolding cut_word
numbers-last text cut = by-no-place text (position (λ b. nat_eq b 32) text) refl cut

-- ---- the steps of the loop

next : (front : List ℕ) (n : ℕ) (more : Option (List ℕ))
    → behind (front ++ n ∷ []) more ≡ behind front (with_number (Some n) more)
next front n (Some ns) = ap Some (append_assoc front (n ∷ []) ns)
next front n None = refl

-- a word that spells a number
pub numbers-next : (front text word rest : List ℕ) (n : ℕ) (all : Option (List ℕ)) → cut_word text ≡ Some (word, rest)
    → number_of word ≡ Some n → behind front (numbers_of text) ≡ all
    → behind (front ++ n ∷ []) (numbers_of rest) ≡ all
numbers-next front text word rest n all cut e h =
    next front n (numbers_of rest)
    ∙ ap (λ (m : Option ℕ). behind front (with_number m (numbers_of rest))) (sym e)
    ∙ ap (behind front) (sym (numbers-cut text word rest cut)) ∙ h

-- a word that spells none
pub numbers-stop : (front text word rest : List ℕ) (all : Option (List ℕ)) → cut_word text ≡ Some (word, rest)
    → number_of word ≡ None → behind front (numbers_of text) ≡ all → None ≡ all
numbers-stop front text word rest all cut e h =
    ap (λ (m : Option ℕ). behind front (with_number m (numbers_of rest))) (sym e)
    ∙ ap (behind front) (sym (numbers-cut text word rest cut)) ∙ h

last : (front : List ℕ) (n : Option ℕ)
    → behind front (with_number n (Some [])) ≡ option_map (λ m. front ++ m ∷ []) n
last front (Some n) = refl
last front None = refl

pub numbers-end : (front text : List ℕ) (all : Option (List ℕ)) → cut_word text ≡ None
    → behind front (numbers_of text) ≡ all → option_map (λ m. front ++ m ∷ []) (number_of text) ≡ all
numbers-end front text all cut h =
    sym (last front (number_of text)) ∙ ap (behind front) (sym (numbers-last text cut)) ∙ h
