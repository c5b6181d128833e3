-- A token that is spelled in front of a text is found there.
use Rattle.std.proofs.Common.{◌≡◌, ℕ, ◌+◌, ◌*◌, ◌-◌, ◌^◌, ◌<◌, ◌≤◌, nat_le, Bool, true, false, ◌&&◌, ◌||◌, ◌==◌}
use Rattle.std.proofs.Common.{if◌then◌else◌, List, [], ◌∷◌, ◌++◌, length, take, Option, Some, Ok, ◌⊎◌, inl, inr, refl}
use Rattle.std.proofs.Common.{sym, ap, ◌∙◌, append_assoc, arith}
use Rattle.std.specs.Prelude.{codes}
use Rattle.std.specs.Str.{bytes_eq}
use Rattle.std.specs.List.{list_all}
use Rattle.std.specs.Char.{digit_value}
use Rattle.std.specs.Str.Parse.{AllDigits, digits_value, digits_value_after}
use Rattle.std.proofs.lemmas.Bool.{lt-ltb, le-ltb, leb-true, and_parts, or_parts}
use Rattle.std.proofs.lemmas.Bool.Decides.{nat_tests}
use Rattle.std.proofs.lemmas.List.{take_at, append-nil, length-append}
use Rattle.std.proofs.lemmas.Str.{digit_value_digit}
use Rattle.std.proofs.lemmas.Str.Parse.{digit_from_value}
use Rattle.td_cdr.specs.Names.{is_letter, is_digit, is_word, IsIdentifier}
use Rattle.td_lang.specs.declared.expr.Op.{Op}
use Rattle.td_lang.specs.declared.expr.Op.TheVariants as op
use Rattle.td_lang.specs.declared.token.Keyword.TheVariants as keyword
use Rattle.td_lang.specs.declared.token.Token.{Token}
use Rattle.td_lang.specs.declared.token.Token.TheVariants as token
use Rattle.td_lang.specs.Lexing.{lead, word_token, byte_at, word_at, own_name_at, value_of, number_at, quoted_from}
use Rattle.td_lang.specs.Lexing.{quoted_of, quoted_at, comparison_at, sign_at, token_at}
use Rattle.td_lang.specs.Spelling.{operator_word, is_reserved, needs_backslash, inside_quotes, SpellsToken, EndsWord}
use Rattle.td_lang.specs.Spelling.{Apart}
use Rattle.td_lang.proofs.Words.{word_letter}

lead_exact : (p : ℕ → Bool) (w more : List ℕ) → list_all p w ≡ true → p (byte_at more 0) ≡ false
    → lead p (w ++ more) ≡ length w
lead_exact p [] [] a h = refl
lead_exact p [] (b ∷ more) a h = rw h refl
lead_exact p (b ∷ w) more a h =
    let k = and_parts (p b) (list_all p w) a in rw k.0 (rw (lead_exact p w more k.1 h) (omega arith))

-- what an identifier consists of
pub record PropertyName (w : List ℕ) : Type 0 where
  pub first : ℕ
  pub others : List ℕ
  pub is : w ≡ first ∷ others
  pub letter : is_letter first ≡ true
  pub words : list_all is_word w ≡ true
  pub short : length w ≤ 256

pub named : (w : List ℕ) → IsIdentifier w → PropertyName w
named [] i = absurd (cc)
named (b ∷ bs) i =
    let k = and_parts (is_letter b && nat_le (length bs) 255) (list_all is_word bs) i in
    let m = and_parts (is_letter b) (nat_le (length bs) 255) k.0 in
    let short : length bs ≤ 255 = leb-true (length bs) 255 m.1 in
    record {
      first = b;
      others = bs;
      is = refl;
      letter = m.0;
      words = rw (word_letter b m.0) k.1;
      short = omega (arith, short);
    }

letter_front : (w more : List ℕ) (n : PropertyName w) → is_letter (byte_at (w ++ more) 0) ≡ true
letter_front w more n = ap (λ (xs : List ℕ). is_letter (byte_at (xs ++ more) 0)) n.is ∙ n.letter

word_taken : (place : ℕ) (text : List ℕ) → is_letter (byte_at text 0) ≡ true → lead is_word text ≤ 256
    → token_at place text ≡ Ok (word_token (take (lead is_word text) text), lead is_word text)
unfolding token_at word_at
word_taken place text letter short = rw letter (rw (le-ltb 256 (lead is_word text) short) refl)

word_again : (place : ℕ) (w more : List ℕ) → IsIdentifier w → EndsWord more
    → token_at place (w ++ more) ≡ Ok (word_token w, length w)
word_again place w more i ends =
    let n = named w i in
    let size : lead is_word (w ++ more) ≡ length w = lead_exact is_word w more n.words ends in
    word_taken place (w ++ more) (letter_front w more n) (omega (arith, size, n.short))
    ∙ ap (λ (k : ℕ). Ok (word_token (take k (w ++ more)), k)) size
    ∙ ap (λ (xs : List ℕ). Ok (word_token xs, length w)) (take_at w more (length w) refl)

own_taken : (place : ℕ) (name : List ℕ) → is_letter (byte_at name 0) ≡ true → lead is_word name ≤ 256
    → token_at place (92 ∷ name) ≡ Ok (token.Name (take (lead is_word name) name), lead is_word name + 1)
unfolding token_at own_name_at
own_taken place name letter short = rw letter (rw (le-ltb 256 (lead is_word name) short) refl)

own_again : (place : ℕ) (w more : List ℕ) → IsIdentifier w → EndsWord more
    → token_at place (92 ∷ (w ++ more)) ≡ Ok (token.Name w, length (92 ∷ w))
own_again place w more i ends =
    let n = named w i in
    let size : lead is_word (w ++ more) ≡ length w = lead_exact is_word w more n.words ends in
    let longer : length w + 1 ≡ length (92 ∷ w) = omega arith in
    own_taken place (w ++ more) (letter_front w more n) (omega (arith, size, n.short))
    ∙ ap (λ (k : ℕ). Ok (token.Name (take k (w ++ more)), k + 1)) size
    ∙ ap (λ (xs : List ℕ). Ok (token.Name xs, length w + 1)) (take_at w more (length w) refl)
    ∙ ap (λ (k : ℕ). Ok (token.Name w, k)) longer

none_reserved : (a b c d e f g h i j k l : Bool) (w : List ℕ)
    → (a || (b || (c || (d || (e || (f || (g || (h || (i || (j || (k || (l || false)))))))))))) ≡ false
    → (if a then token.Operator op.And else if b then token.Operator op.Or else if c then token.Not
    else if d then token.Within else if e then token.Exist else if f then token.Keyword keyword.Min
    else if g then token.Keyword keyword.Max else if h then token.Keyword keyword.First
    else if i then token.Keyword keyword.Random else if j then token.Keyword keyword.With
    else if k then token.Truth true else if l then token.Truth false else token.Name w)
    ≡ token.Name w
none_reserved false false false false false false false false false false false false w none = refl
none_reserved true b c d e f g h i j k l w none = absurd (cc)
none_reserved false true c d e f g h i j k l w none = absurd (cc)
none_reserved false false true d e f g h i j k l w none = absurd (cc)
none_reserved false false false true e f g h i j k l w none = absurd (cc)
none_reserved false false false false true f g h i j k l w none = absurd (cc)
none_reserved false false false false false true g h i j k l w none = absurd (cc)
none_reserved false false false false false false true h i j k l w none = absurd (cc)
none_reserved false false false false false false false true i j k l w none = absurd (cc)
none_reserved false false false false false false false false true j k l w none = absurd (cc)
none_reserved false false false false false false false false false true k l w none = absurd (cc)
none_reserved false false false false false false false false false false true l w none = absurd (cc)
none_reserved false false false false false false false false false false false true w none = absurd (cc)

name_token : (w : List ℕ) → is_reserved w ≡ false → word_token w ≡ token.Name w
name_token w none =
    none_reserved (bytes_eq w (codes "and")) (bytes_eq w (codes "or")) (bytes_eq w (codes "not"))
    (bytes_eq w (codes "in")) (bytes_eq w (codes "exist")) (bytes_eq w (codes "min")) (bytes_eq w (codes "max"))
    (bytes_eq w (codes "first")) (bytes_eq w (codes "random")) (bytes_eq w (codes "with"))
    (bytes_eq w (codes "TRUE")) (bytes_eq w (codes "FALSE")) w none

name_again : (place : ℕ) (w spelling more : List ℕ) → IsIdentifier w
    → (spelling ≡ 92 ∷ w) ⊎ ((spelling ≡ w) × (is_reserved w ≡ false)) → EndsWord more
    → token_at place (spelling ++ more) ≡ Ok (token.Name w, length spelling)
name_again place w spelling more i (inl is) ends = rw is (own_again place w more i ends)
name_again place w spelling more i (inr is) ends =
    rw is.0 (word_again place w more i ends ∙ ap (λ (t : Token). Ok (t, length w)) (name_token w is.1))

-- numbers
digit_range : (c : ℕ) → digit_value c < 10 → (is_digit c ≡ true) × (is_letter c ≡ false)
digit_range c h = let r = digit_from_value c h in (grind (arith, nat_tests), grind (arith, nat_tests))

all_digits : (ds : List ℕ) → AllDigits 10 ds → list_all is_digit ds ≡ true
all_digits [] a = refl
all_digits (c ∷ cs) a = rw (digit_range c a.0).0 (all_digits cs a.1)

grows : (ds : List ℕ) (n : ℕ) → n ≤ digits_value_after 10 n ds
grows [] n = omega arith
grows (c ∷ cs) n = omega (arith, grows cs (n * 10 + digit_value c))

value_again : (ds : List ℕ) (n : ℕ) → AllDigits 10 ds → digits_value_after 10 n ds < 2 ^ 63
    → value_of n ds ≡ Some (digits_value_after 10 n ds)
value_again [] n a h = refl
value_again (c ∷ cs) n a h =
    let range = digit_from_value c a.0 in
    let is : digit_value c ≡ c - 48 = omega (arith, digit_value_digit c range) in
    let low : n * 10 + (c - 48) < 2 ^ 63 = omega (arith, is, h, grows cs (n * 10 + digit_value c)) in
    rw (lt-ltb (n * 10 + (c - 48)) (2 ^ 63) low)
    (ap (λ (k : ℕ). value_of (n * 10 + k) cs) (sym is) ∙ value_again cs (n * 10 + digit_value c) a.1 h)

number_taken : (place size next n : ℕ) (text : List ℕ) → is_letter (byte_at text 0) ≡ false
    → is_digit (byte_at text 0) ≡ true → lead is_digit text ≡ size → byte_at text size ≡ next → is_word next ≡ false
    → ((next == 46) || ((next == 101) || (next == 69))) ≡ false → value_of 0 (take size text) ≡ Some n
    → token_at place text ≡ Ok (token.Number n, size)
unfolding token_at number_at
number_taken place size next n text letter digit len at ends none value =
    rw letter (rw digit (rw len (rw at (rw none (rw ends (rw value refl))))))

no_exponent : (b : ℕ) → is_word b ≡ false → (b == 46) ≡ false → ((b == 46) || ((b == 101) || (b == 69))) ≡ false
no_exponent b h k = grind (arith, nat_tests)

next_byte : (ds more : List ℕ) → byte_at (ds ++ more) (length ds) ≡ byte_at more 0
next_byte [] more = refl
next_byte (c ∷ cs) more = next_byte cs more

digit_ends : (b : ℕ) → is_word b ≡ false → is_digit b ≡ false
digit_ends b h = grind (arith, nat_tests)

number_again : (place n : ℕ) (ds more : List ℕ) → 0 < length ds → AllDigits 10 ds → digits_value 10 ds ≡ n → n < 2 ^ 63
    → EndsWord more → (byte_at more 0 == 46) ≡ false → token_at place (ds ++ more) ≡ Ok (token.Number n, length ds)
number_again place n [] more some all value small ends point = absurd (omega arith)
number_again place n (c ∷ cs) more some all value small ends point =
    let ds = c ∷ cs in
    let range = digit_range c all.0 in
    let low : digits_value_after 10 0 ds < 2 ^ 63 = omega (arith, value, small) in
    let read : value_of 0 (take (length ds) (ds ++ more)) ≡ Some n =
    ap (λ (xs : List ℕ). value_of 0 xs) (take_at ds more (length ds) refl) ∙ value_again ds 0 all low
    ∙ ap (λ (x : ℕ). Some x) value in
    number_taken place (length ds) (byte_at more 0) n (ds ++ more) range.1 range.0
    (lead_exact is_digit ds more (all_digits ds all) (digit_ends (byte_at more 0) ends)) (next_byte ds more) ends
    (no_exponent (byte_at more 0) ends point) read

-- texts in quotes
byte_again : (c : Bool) (b : ℕ) (t own : List ℕ) (k n : ℕ) (more : List ℕ) → needs_backslash b ≡ c
    → n ≡ k + length (inside_quotes (b ∷ t)) + 1
    → ((m : ℕ) → n ≡ m + length (inside_quotes t) + 1
    → quoted_from false (own ++ b ∷ []) m (inside_quotes t ++ 39 ∷ more) ≡ Some ((own ++ b ∷ []) ++ t, n))
    → quoted_from false own k (inside_quotes (b ∷ t) ++ 39 ∷ more) ≡ Some ((own ++ b ∷ []) ++ t, n)
byte_again true b t own k n more is size rest =
    let spelled : inside_quotes (b ∷ t) ≡ 92 ∷ b ∷ inside_quotes t = rw is refl in
    rw spelled (rw is (rest (k + 1 + 1) (omega (arith, size, ap (length {A = ℕ}) spelled))))
byte_again false b t own k n more is size rest =
    let parts = or_parts (b == 39) (b == 92) is in
    let spelled : inside_quotes (b ∷ t) ≡ b ∷ inside_quotes t = rw is refl in
    rw spelled (rw parts.0 (rw parts.1 (rest (k + 1) (omega (arith, size, ap (length {A = ℕ}) spelled)))))

inside_again : (t own : List ℕ) (k n : ℕ) (more : List ℕ) → n ≡ k + length (inside_quotes t) + 1
    → quoted_from false own k (inside_quotes t ++ 39 ∷ more) ≡ Some (own ++ t, n)
inside_again [] own k n more size =
    let here : k + 1 ≡ n = omega (arith, size) in
    ap (λ (m : ℕ). Some (own, m)) here ∙ ap (λ (xs : List ℕ). Some (xs, n)) (sym (append-nil own))
inside_again (b ∷ t) own k n more size =
    byte_again (needs_backslash b) b t own k n more refl size (λ m is. inside_again t (own ++ b ∷ []) m n more is)
    ∙ ap (λ (xs : List ℕ). Some (xs, n)) (append_assoc own (b ∷ []) t)

quoted_taken : (place : ℕ) (bs : List ℕ) → token_at place (39 ∷ bs) ≡ quoted_of place (quoted_from false [] 1 bs)
unfolding token_at quoted_at
quoted_taken place bs = refl

quoted_again : (place : ℕ) (t more : List ℕ)
    → token_at place ((39 ∷ (inside_quotes t ++ 39 ∷ [])) ++ more)
    ≡ Ok (token.Quoted t, length (39 ∷ (inside_quotes t ++ 39 ∷ [])))
quoted_again place t more =
    let size = length (39 ∷ (inside_quotes t ++ 39 ∷ [])) in
    ap (λ (xs : List ℕ). token_at place (39 ∷ xs)) (append_assoc (inside_quotes t) (39 ∷ []) more)
    ∙ quoted_taken place (inside_quotes t ++ 39 ∷ more)
    ∙ ap (λ (o : Option (List ℕ × ℕ)). quoted_of place o)
    (inside_again t [] 1 size more (omega (arith, length-append (inside_quotes t) (39 ∷ []))))

-- signs
operator_again : (o : Op) (place : ℕ) (more : List ℕ) → Apart (token.Operator o) more
    → token_at place (operator_word o ++ more) ≡ Ok (token.Operator o, length (operator_word o))
unfolding token_at sign_at comparison_at
operator_again op.Or place more h = word_again place (codes "or") more refl h
operator_again op.And place more h = word_again place (codes "and") more refl h
operator_again op.Eq place more h = refl
operator_again op.Ne place more h = refl
operator_again op.Lt place more h = rw h refl
operator_again op.Le place more h = refl
operator_again op.Gt place more h = rw h refl
operator_again op.Ge place more h = refl
operator_again op.Twiddle place more h = refl
operator_again op.Add place more h = refl
operator_again op.Sub place more h = refl
operator_again op.Mul place more h = refl
operator_again op.Div place more h = refl

parenthesis_open : (place : ℕ) (more : List ℕ) → token_at place (40 ∷ more) ≡ Ok (token.Open, 1)
unfolding token_at sign_at
parenthesis_open place more = refl

parenthesis_close : (place : ℕ) (more : List ℕ) → token_at place (41 ∷ more) ≡ Ok (token.Close, 1)
unfolding token_at sign_at
parenthesis_close place more = refl

-- each token
pub token_again : (t : Token) (place : ℕ) (spelling more : List ℕ) → SpellsToken t spelling → Apart t more
    → token_at place (spelling ++ more) ≡ Ok (t, length spelling)
token_again (token.Operator o) place spelling more s h = rw s (operator_again o place more h)
token_again token.Within place spelling more s h = rw s (word_again place (codes "in") more refl h)
token_again token.Not place spelling more s h = rw s (word_again place (codes "not") more refl h)
token_again token.Exist place spelling more s h = rw s (word_again place (codes "exist") more refl h)
token_again token.Open place spelling more s h = rw s (parenthesis_open place more)
token_again token.Close place spelling more s h = rw s (parenthesis_close place more)
token_again (token.Name w) place spelling more s h = name_again place w spelling more s.0 s.1 h
token_again (token.Number n) place spelling more s h = number_again place n spelling more s.0 s.1 s.2 s.3 h.0 h.1
token_again (token.Quoted t) place spelling more s h = rw s (quoted_again place t more)
token_again (token.Truth true) place spelling more s h = rw s (word_again place (codes "TRUE") more refl h)
token_again (token.Truth false) place spelling more s h = rw s (word_again place (codes "FALSE") more refl h)
token_again (token.Keyword keyword.First) place spelling more s h = rw s (word_again place (codes "first") more refl h)
token_again (token.Keyword keyword.Random) place spelling more s h =
    rw s (word_again place (codes "random") more refl h)
token_again (token.Keyword keyword.Min) place spelling more s h = rw s (word_again place (codes "min") more refl h)
token_again (token.Keyword keyword.Max) place spelling more s h = rw s (word_again place (codes "max") more refl h)
token_again (token.Keyword keyword.With) place spelling more s h = rw s (word_again place (codes "with") more refl h)
