-- What the lexer finds in front of a text is spelled there, and where it finds nothing its fault is the one of the
-- text.
use Rattle.std.proofs.Common.{◌≡◌, ℕ, zero, suc, ◌+◌, ◌≤◌, nat_lt, Bool, true, false, not, ◌&&◌, ◌||◌, ◌==◌}
use Rattle.std.proofs.Common.{if◌then◌else◌, List, [], ◌∷◌, ◌++◌, length, take, drop, Ok, Err, inl, inr, refl, sym, ap}
use Rattle.std.proofs.Common.{◌∙◌, arith}
use Rattle.std.specs.Prelude.{codes}
use Rattle.std.specs.Str.{bytes_eq}
use Rattle.std.proofs.lemmas.Bool.{ltb-false, eqb-true, not-false}
use Rattle.std.proofs.lemmas.Bool.Decides.{nat_tests}
use Rattle.std.proofs.lemmas.List.{length-take-le}
use Rattle.std.proofs.lemmas.Slice.Eq.{bytes_eq-Decides}
use Rattle.td_cdr.specs.Names.{is_letter, is_digit, is_word, IsIdentifier}
use Rattle.td_lang.specs.declared.expr.Op.TheVariants as op
use Rattle.td_lang.specs.declared.token.Keyword.TheVariants as keyword
use Rattle.td_lang.specs.declared.token.Token.{Token}
use Rattle.td_lang.specs.declared.token.Token.TheVariants as token
use Rattle.td_lang.specs.declared.fault.LangFault.TheVariants as fault
use Rattle.td_lang.specs.Lexing.{NextToken, lead, plain_word, word_token, byte_at, word_at, own_name_at}
use Rattle.td_lang.specs.Spelling.{SpellsToken, EndsWord, Apart, BeginsWithToken, is_float, token_fault}
use Rattle.td_lang.proofs.Words.{lead_within, name_front}

-- the token stands in front, and takes so many bytes
pub record Takes (t : Token) (size : ℕ) (text : List ℕ) : Type 0 where
  pub front : BeginsWithToken t text
  pub size_is : size ≡ length front.spelling

abbrev pub Found : ℕ → List ℕ → NextToken → Type 0
Found place text (Ok r) = Takes r.0 r.1 text
Found place text (Err f) = f ≡ token_fault place text

pub found_if : (b : Bool) (place : ℕ) (text : List ℕ) (x y : NextToken) → (b ≡ true → Found place text x)
    → (b ≡ false → Found place text y) → Found place text (if b then x else y)
found_if true place text x y h k = h refl
found_if false place text x y h k = k refl

pub syntax_fault : (place : ℕ) (text : List ℕ) → is_float text ≡ false → fault.Syntax place ≡ token_fault place text
syntax_fault place text h = rw h refl

pub float_fault : (place : ℕ) (text : List ℕ) → is_float text ≡ true → fault.Float place ≡ token_fault place text
float_fault place text h = rw h refl

pub no_float : (p q r s : Bool) → p ≡ false → r ≡ false → ((p && q) || (r && s)) ≡ false
no_float p q r s h k = rw h (rw k refl)

-- neither a digit nor a point in front
pub plain_fault : (place : ℕ) (text : List ℕ) → is_digit (byte_at text 0) ≡ false → (byte_at text 0 == 46) ≡ false
    → fault.Syntax place ≡ token_fault place text
plain_fault place text h k =
    let next = byte_at text (lead is_digit text) in
    syntax_fault place text (no_float (is_digit (byte_at text 0)) ((next == 46) || ((next == 101) || (next == 69)))
    (byte_at text 0 == 46) (is_digit (byte_at text 1)) h k)

pub letter_plain : (b : ℕ) → is_letter b ≡ true → (is_digit b ≡ false) × ((b == 46) ≡ false)
letter_plain b h = (grind (arith, nat_tests), grind (arith, nat_tests))

pub digit_plain : (b : ℕ) → is_digit b ≡ true → (b == 46) ≡ false
digit_plain b h = grind (arith, nat_tests)

-- what is at the end of the bytes of a kind
pub next_not : (p : ℕ → Bool) (bs : List ℕ) → p 0 ≡ false → p (byte_at (drop (lead p bs) bs) 0) ≡ false
next_not p [] h = h
next_not p (b ∷ bs) h = next_if p b bs (p b) refl (next_not p bs h)
  where
    next_if : (p : ℕ → Bool) (b : ℕ) (bs : List ℕ) (t : Bool) → p b ≡ t → p (byte_at (drop (lead p bs) bs) 0) ≡ false
        → p (byte_at (drop (if t then lead p bs + 1 else 0) (b ∷ bs)) 0) ≡ false
    next_if p b bs true is k =
        let same : lead p bs + 1 ≡ suc (lead p bs) = omega arith in
        ap (λ (n : ℕ). p (byte_at (drop n (b ∷ bs)) 0)) same ∙ k
    next_if p b bs false is k = is

pub byte_drop : (n : ℕ) (bs : List ℕ) → byte_at bs n ≡ byte_at (drop n bs) 0
byte_drop zero bs = refl
byte_drop (suc n) [] = refl
byte_drop (suc n) (b ∷ bs) = byte_drop n bs

pub take_drop : (n : ℕ) (bs : List ℕ) → bs ≡ take n bs ++ drop n bs
take_drop zero bs = refl
take_drop (suc n) [] = refl
take_drop (suc n) (b ∷ bs) = ap (λ (xs : List ℕ). b ∷ xs) (take_drop n bs)

-- what stands in front of bytes of a kind
abbrev pub Stands : Token → List ℕ → List ℕ → Type 0
Stands t spelling more = SpellsToken t spelling × Apart t more

pub taken_front : (t : Token) (size : ℕ) (text : List ℕ) → size ≤ length text
    → Stands t (take size text) (drop size text) → Takes t size text
taken_front t size text h k = record {
  front =
      record {
        spelling = take size text;
        more = drop size text;
        text_is = take_drop size text;
        spells = k.0;
        apart = k.1;
      };
  size_is = sym (length-take-le size text h);
}

-- words
is_same : (w v : List ℕ) → bytes_eq w v ≡ true → w ≡ v
is_same w v h = (bytes_eq-Decides w v).0 h

plain_stands : (w more : List ℕ) (p q r s t u v : Bool) → EndsWord more → (p ≡ true → w ≡ codes "min")
    → (q ≡ true → w ≡ codes "max") → (r ≡ true → w ≡ codes "first") → (s ≡ true → w ≡ codes "random")
    → (t ≡ true → w ≡ codes "with") → (u ≡ true → w ≡ codes "TRUE") → (v ≡ true → w ≡ codes "FALSE")
    → (p ≡ false → q ≡ false → r ≡ false → s ≡ false → t ≡ false → u ≡ false → v ≡ false → SpellsToken (token.Name w) w)
    → Stands (if p then token.Keyword keyword.Min else if q then token.Keyword keyword.Max
    else if r then token.Keyword keyword.First else if s then token.Keyword keyword.Random
    else if t then token.Keyword keyword.With else if u then token.Truth true else if v then token.Truth false
    else token.Name w)
    w more
plain_stands w more true q r s t u v ends a b c d e f g h = (a refl, ends)
plain_stands w more false true r s t u v ends a b c d e f g h = (b refl, ends)
plain_stands w more false false true s t u v ends a b c d e f g h = (c refl, ends)
plain_stands w more false false false true t u v ends a b c d e f g h = (d refl, ends)
plain_stands w more false false false false true u v ends a b c d e f g h = (e refl, ends)
plain_stands w more false false false false false true v ends a b c d e f g h = (f refl, ends)
plain_stands w more false false false false false false true ends a b c d e f g h = (g refl, ends)
plain_stands w more false false false false false false false ends a b c d e f g h =
    (h refl refl refl refl refl refl refl, ends)

word_stands : (w more : List ℕ) (p q r s t : Bool) (x : Token) → EndsWord more → (p ≡ true → w ≡ codes "and")
    → (q ≡ true → w ≡ codes "or") → (r ≡ true → w ≡ codes "not") → (s ≡ true → w ≡ codes "in")
    → (t ≡ true → w ≡ codes "exist") → (p ≡ false → q ≡ false → r ≡ false → s ≡ false → t ≡ false → Stands x w more)
    → Stands (if p then token.Operator op.And else if q then token.Operator op.Or else if r then token.Not
    else if s then token.Within else if t then token.Exist else x)
    w more
word_stands w more true q r s t x ends a b c d e f = (a refl, ends)
word_stands w more false true r s t x ends a b c d e f = (b refl, ends)
word_stands w more false false true s t x ends a b c d e f = (c refl, ends)
word_stands w more false false false true t x ends a b c d e f = (d refl, ends)
word_stands w more false false false false true x ends a b c d e f = (e refl, ends)
word_stands w more false false false false false x ends a b c d e f = f refl refl refl refl refl

word_is : (w more : List ℕ) → IsIdentifier w → EndsWord more → Stands (word_token w) w more
word_is w more i ends =
    word_stands w more (bytes_eq w (codes "and")) (bytes_eq w (codes "or")) (bytes_eq w (codes "not"))
    (bytes_eq w (codes "in")) (bytes_eq w (codes "exist")) (plain_word w) ends
    (is_same w (codes "and")) (is_same w (codes "or")) (is_same w (codes "not")) (is_same w (codes "in"))
    (is_same w (codes "exist"))
    (λ a b c d e. plain_stands w more (bytes_eq w (codes "min")) (bytes_eq w (codes "max")) (bytes_eq w (codes "first"))
    (bytes_eq w (codes "random")) (bytes_eq w (codes "with")) (bytes_eq w (codes "TRUE"))
    (bytes_eq w (codes "FALSE")) ends
    (is_same w (codes "min")) (is_same w (codes "max")) (is_same w (codes "first")) (is_same w (codes "random"))
    (is_same w (codes "with")) (is_same w (codes "TRUE")) (is_same w (codes "FALSE"))
    (λ f g h j k l m. (
      i,
      inr
          (refl, rw a (rw b (rw c (rw d (rw e (rw f (rw g (rw h (rw j (rw k (rw l (rw m refl)))))))))))),
    )))

pub word_found : (place : ℕ) (text : List ℕ) → is_letter (byte_at text 0) ≡ true → Found place text (word_at place text)
unfolding word_at
word_found place text letter =
    let size = lead is_word text in
    let plain = letter_plain (byte_at text 0) letter in
    found_if (nat_lt 256 size) place text (Err (fault.Syntax place)) (Ok (word_token (take size text), size))
    (λ h. plain_fault place text plain.0 plain.1)
    (λ h. taken_front (word_token (take size text)) size text (lead_within is_word text)
    (word_is (take size text) (drop size text) (name_front text letter (ltb-false 256 size h))
    (next_not is_word text refl)))

-- a name behind a backslash
pub own_name_found : (place : ℕ) (text : List ℕ) → (byte_at text 0 == 92) ≡ true
    → Found place text (own_name_at place text)
unfolding own_name_at
own_name_found place [] slash = absurd (cc)
own_name_found place (b ∷ name) slash =
    let size = lead is_word name in
    let is : b ≡ 92 = eqb-true b 92 slash in
    let refused : fault.Syntax place ≡ token_fault place (b ∷ name) =
    plain_fault place (b ∷ name) (rw is refl) (rw is refl) in
    found_if (not (is_letter (byte_at name 0))) place (b ∷ name) (Err (fault.Syntax place))
    (if nat_lt 256 size then Err (fault.Syntax place) else Ok (token.Name (take size name), size + 1))
    (λ h. refused)
    (λ letter. found_if (nat_lt 256 size) place (b ∷ name) (Err (fault.Syntax place))
    (Ok (token.Name (take size name), size + 1)) (λ h. refused)
    (λ h. record {
      front = record {
        spelling = 92 ∷ take size name;
        more = drop size name;
        text_is = ap (λ (x : ℕ). x ∷ name) is ∙ ap (λ (xs : List ℕ). 92 ∷ xs) (take_drop size name);
        spells = (name_front name (not-false (is_letter (byte_at name 0)) letter) (ltb-false 256 size h), inl refl);
        apart = next_not is_word name refl;
      };
      size_is = omega (arith, length-take-le size name (lead_within is_word name));
    }))
