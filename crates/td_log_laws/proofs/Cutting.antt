-- Words and lines that were put together are cut again.
use Rattle.std.proofs.Common.{◌≡◌, ℕ, zero, suc, ◌+◌, ◌<◌, ◌&&◌, nat_eq, nat_lt, Bool, true, false, not, List, [], ◌∷◌}
use Rattle.std.proofs.Common.{◌++◌, length, take, drop, Option, Some, None, refl, sym, ap, ◌∙◌, arith, if◌then◌else◌}
use Rattle.std.proofs.Common.{slice_index}
use Rattle.std.proofs.lemmas.Bool.{lt-ltb}
use Rattle.std.proofs.lemmas.List.{length-append, take_at, drop_at, drop-drop}
use Rattle.std.specs.List.{list_all, position, position_or_len, slice_split}
use Rattle.td_audit.specs.Making.{text_of_lines}
use Rattle.td_ior.specs.Keys.{◌>>=◌}
use Rattle.td_ior.proofs.Numbers.{and-left, and-right}
use Rattle.td_log.specs.Words.{cut_word, lines_of, one_word, two_words, without_end}

-- ---- texts in which a byte doesn't stand

abbrev pub is_other : (b : ℕ) → (x : ℕ) → Bool
is_other b x = not (nat_eq x b)

abbrev pub lacks : (b : ℕ) → List ℕ → Bool
lacks b text = list_all (is_other b) text

other-is : (b x : ℕ) → is_other b x ≡ true → nat_eq x b ≡ false
other-is b x e = by (nat_eq x b) e where
  by : (t : Bool) → not t ≡ true → t ≡ false
  by true e = absurd cc
  by false e = refl

is-other : (b x : ℕ) → nat_eq x b ≡ false → is_other b x ≡ true
is-other b x e = ap not e

both : (s t : Bool) → s ≡ true → t ≡ true → (s && t) ≡ true
both true t e f = f
both false t e f = e

pub lacks-append : (b : ℕ) (xs ys : List ℕ) → lacks b xs ≡ true → lacks b ys ≡ true → lacks b (xs ++ ys) ≡ true
lacks-append b [] ys h k = k
lacks-append b (x ∷ xs) ys h k =
    both (is_other b x) (lacks b (xs ++ ys)) (and-left (is_other b x) (lacks b xs) h)
    (lacks-append b xs ys (and-right (is_other b x) (lacks b xs) h) k)

-- bytes of a kind of which b isn't one
pub lacks-kind : (b : ℕ) (p : ℕ → Bool) → ((x : ℕ) → p x ≡ true → nat_eq x b ≡ false) → (xs : List ℕ)
    → list_all p xs ≡ true → lacks b xs ≡ true
lacks-kind b p other [] h = refl
lacks-kind b p other (x ∷ xs) h =
    both (is_other b x) (lacks b xs) (is-other b x (other x (and-left (p x) (list_all p xs) h)))
    (lacks-kind b p other xs (and-right (p x) (list_all p xs) h))

-- no item of such a text is b, nor is what stands for an item that isn't there
pub index-other : (b : ℕ) (xs : List ℕ) (i : ℕ) → lacks b xs ≡ true → nat_eq 0 b ≡ false
    → nat_eq (slice_index xs i) b ≡ false
index-other b [] i h z = z
index-other b (x ∷ xs) zero h z = other-is b x (and-left (is_other b x) (lacks b xs) h)
index-other b (x ∷ xs) (suc i) h z = index-other b xs i (and-right (is_other b x) (lacks b xs) h) z

-- ---- words

abbrev is_space : ℕ → Bool
is_space b = nat_eq b 32

abbrev some : {A : Type 0} → A → Option A
some x = Some x

space-place : (word rest : List ℕ) → lacks 32 word ≡ true → position_or_len is_space (word ++ 32 ∷ rest) ≡ length word
space-place [] rest e = refl
space-place (x ∷ word) rest e =
    let other = other-is 32 x (and-left (is_other 32 x) (lacks 32 word) e) in
    let later = space-place word rest (and-right (is_other 32 x) (lacks 32 word) e) in
    rw other (omega (arith, later))

no-space : (word : List ℕ) → lacks 32 word ≡ true → position_or_len is_space word ≡ length word
no-space [] e = refl
no-space (x ∷ word) e =
    let other = other-is 32 x (and-left (is_other 32 x) (lacks 32 word) e) in
    let later = no-space word (and-right (is_other 32 x) (lacks 32 word) e) in
    rw other (omega (arith, later))

placed : (xs : List ℕ) (i : ℕ) → position_or_len is_space xs ≡ i → i < length xs → position is_space xs ≡ Some i
placed xs i e h =
    ap (λ (n : ℕ). if nat_lt n (length xs) then some n else None) e
    ∙ ap (λ (t : Bool). if t then some i else None) (lt-ltb i (length xs) h)

nowhere : (xs : List ℕ) → position_or_len is_space xs ≡ length xs → position is_space xs ≡ None
nowhere xs e =
    let no : nat_lt (length xs) (length xs) ≡ false = grind (arith) in
    ap (λ (n : ℕ). if nat_lt n (length xs) then some n else None) e
    ∙ ap (λ (t : Bool). if t then some (length xs) else None) no

-- the first word
pub word-cut : (word rest : List ℕ) → lacks 32 word ≡ true → cut_word (word ++ 32 ∷ rest) ≡ Some (word, rest)
unfolding cut_word
word-cut word rest e =
    let whole : List ℕ = word ++ 32 ∷ rest in
    let lt : length word < length whole = omega (arith, length-append word (32 ∷ rest)) in
    let place = placed whole (length word) (space-place word rest e) lt in
    let front = take_at word (32 ∷ rest) (length word) refl in
    let back : drop (length word + 1) whole ≡ rest =
    sym (drop-drop 1 (length word) whole) ∙ ap (drop 1) (drop_at word (32 ∷ rest) (length word) refl) in
    ap (λ (o : Option ℕ). o >>= λ (i : ℕ). some (take i whole, drop (i + 1) whole)) place
    ∙ ap (λ (x : List ℕ). some (x, drop (length word + 1) whole)) front ∙ ap (λ (x : List ℕ). some (word, x)) back

pub word-alone : (word : List ℕ) → lacks 32 word ≡ true → cut_word word ≡ None
unfolding cut_word
word-alone word e =
    ap (λ (o : Option ℕ). o >>= λ (i : ℕ). some (take i word, drop (i + 1) word)) (nowhere word (no-space word e))

pub one-is : (word : List ℕ) → lacks 32 word ≡ true → one_word word ≡ Some word
one-is word e = rw (word-alone word e) refl

pub two-are : (first second : List ℕ) → lacks 32 first ≡ true → lacks 32 second ≡ true
    → two_words (first ++ 32 ∷ second) ≡ Some (first, second)
unfolding two_words
two-are first second e f = rw (word-cut first second e, word-alone second f) refl

-- ---- lines

abbrev pub is_feed : ℕ → Bool
is_feed b = nat_eq b 10

-- each line lacks a line feed
abbrev pub AreLines : List (List ℕ) → Type 0
AreLines [] = Unit {0}
AreLines (line ∷ lines) = (lacks 10 line ≡ true) × AreLines lines

pub lines-append : (xs ys : List (List ℕ)) → AreLines xs → AreLines ys → AreLines (xs ++ ys)
lines-append [] ys h k = k
lines-append (x ∷ xs) ys h k = (h.0, lines-append xs ys h.1 k)

split-line : (line rest : List ℕ) → lacks 10 line ≡ true
    → slice_split is_feed (line ++ 10 ∷ rest) ≡ line ∷ slice_split is_feed rest
split-line [] rest e = refl
split-line (x ∷ line) rest e =
    let other = other-is 10 x (and-left (is_other 10 x) (lacks 10 line) e) in
    let later = split-line line rest (and-right (is_other 10 x) (lacks 10 line) e) in
    rw (other, later) refl

split-lines : (lines : List (List ℕ)) → AreLines lines → slice_split is_feed (text_of_lines lines) ≡ lines ++ [] ∷ []
split-lines [] h = refl
split-lines (line ∷ lines) h =
    split-line line (text_of_lines lines) h.0 ∙ ap (λ (x : List (List ℕ)). line ∷ x) (split-lines lines h.1)

end-left : (lines : List (List ℕ)) → without_end (lines ++ [] ∷ []) ≡ lines
end-left [] = refl
end-left (line ∷ []) = refl
end-left (line ∷ next ∷ lines) = ap (λ (x : List (List ℕ)). line ∷ x) (end-left (next ∷ lines))

-- what was told line by line is cut into these lines
pub lines-read : (lines : List (List ℕ)) → AreLines lines → lines_of (text_of_lines lines) ≡ lines
unfolding lines_of
lines-read lines h = ap without_end (split-lines lines h) ∙ end-left lines
