-- Numbers, texts in quotes and signs are spelled where the lexer finds them; and so is each token.
use Rattle.std.proofs.Common.{◌≡◌, ℕ, suc, ◌+◌, ◌*◌, ◌-◌, ◌^◌, ◌<◌, ◌≤◌, nat_lt, Bool, true, false, ◌&&◌, ◌||◌, ◌==◌}
use Rattle.std.proofs.Common.{if◌then◌else◌, List, [], ◌∷◌, ◌++◌, length, take, drop, Option, None, Some, Ok, Err, refl}
use Rattle.std.proofs.Common.{sym, ap, subst, ◌∙◌, append_assoc, arith}
use Rattle.std.specs.Prelude.{IfSome}
use Rattle.std.specs.List.{list_all}
use Rattle.std.specs.Char.{digit_value}
use Rattle.std.specs.Str.Parse.{AllDigits, digits_value, digits_value_after}
use Rattle.std.proofs.lemmas.Bool.{ltb-true, leb-true, eqb-true, and_parts, and_from, or_parts, or_left, or_right}
use Rattle.std.proofs.lemmas.List.{length-take-le, append-nil, length-append}
use Rattle.std.proofs.lemmas.Str.{digit_value_digit}
use Rattle.td_cdr.specs.Names.{is_letter, is_digit, is_word}
use Rattle.td_lang.specs.declared.expr.Op.{Op}
use Rattle.td_lang.specs.declared.expr.Op.TheVariants as op
use Rattle.td_lang.specs.declared.token.Token.{Token}
use Rattle.td_lang.specs.declared.token.Token.TheVariants as token
use Rattle.td_lang.specs.declared.fault.LangFault.TheVariants as fault
use Rattle.td_lang.specs.Lexing.{NextToken, lead, byte_at, word_at, own_name_at, onward, value_of, number_of, number_at}
use Rattle.td_lang.specs.Lexing.{quoted_from, quoted_of, quoted_at, with_equal, comparison_at, sign_at, token_at}
use Rattle.td_lang.specs.Spelling.{operator_word, needs_backslash, inside_quotes, SpellsToken, EndsWord, Apart}
use Rattle.td_lang.specs.Spelling.{token_fault}
use Rattle.td_lang.proofs.Words.{lead_within, all_lead}
use Rattle.td_lang.proofs.LexerAnswers.{Takes, Found, found_if, syntax_fault, float_fault, plain_fault, digit_plain}
use Rattle.td_lang.proofs.LexerAnswers.{byte_drop, taken_front, word_found, own_name_found}

-- digits, in the words of std
digit_low : (c : ℕ) → is_digit c ≡ true → (digit_value c < 10) × (digit_value c ≡ c - 48)
digit_low c h =
    let range = and_parts _ _ h in
    let low : 48 ≤ c = leb-true 48 c range.0 in
    let high : c ≤ 57 = leb-true c 57 range.1 in
    let is : digit_value c + 48 ≡ c = digit_value_digit c (low, high) in
    (omega (arith, is, high), omega (arith, is, low))

pub all_digits : (ds : List ℕ) → list_all is_digit ds ≡ true → AllDigits 10 ds
all_digits [] h = tt
all_digits (c ∷ cs) h =
    let k = and_parts (is_digit c) (list_all is_digit cs) h in ((digit_low c k.0).0, all_digits cs k.1)

small_or : (t : Bool) (n v : ℕ) (cs : List ℕ) → (t ≡ true → IfSome (value_of n cs) (λ x. (x ≡ v) × (x < 2 ^ 63)))
    → IfSome (onward (if t then Some n else None) (λ m. value_of m cs)) (λ x. (x ≡ v) × (x < 2 ^ 63))
small_or true n v cs h = h refl
small_or false n v cs h = tt

value_is : (ds : List ℕ) (n : ℕ) → list_all is_digit ds ≡ true → n < 2 ^ 63
    → IfSome (value_of n ds) (λ x. (x ≡ digits_value_after 10 n ds) × (x < 2 ^ 63))
value_is [] n a small = (refl, small)
value_is (c ∷ cs) n a small =
    let k = and_parts (is_digit c) (list_all is_digit cs) a in
    let more = n * 10 + (c - 48) in
    let same : more ≡ n * 10 + digit_value c = omega (arith, (digit_low c k.0).1) in
    small_or (nat_lt more (2 ^ 63)) more (digits_value_after 10 (n * 10 + digit_value c) cs) cs
    (λ is. subst (λ (v : ℕ). IfSome (value_of more cs) (λ x. (x ≡ digits_value_after 10 v cs) × (x < 2 ^ 63))) same
    (value_is cs more k.1 (ltb-true more (2 ^ 63) is)))

some_of : (place size : ℕ) (text : List ℕ) (o : Option ℕ) → size ≤ length text → 0 < length (take size text)
    → AllDigits 10 (take size text) → EndsWord (drop size text) → (byte_at (drop size text) 0 == 46) ≡ false
    → fault.Syntax place ≡ token_fault place text
    → IfSome o (λ x. (x ≡ digits_value 10 (take size text)) × (x < 2 ^ 63)) → Found place text (number_of place size o)
some_of place size text (Some n) within some all ends point refused h =
    taken_front (token.Number n) size text within ((some, all, sym h.0, h.1), (ends, point))
some_of place size text None within some all ends point refused h = refused

leads : (text : List ℕ) → is_digit (byte_at text 0) ≡ true → 0 < lead is_digit text
leads [] h = absurd (cc)
leads (b ∷ bs) h = let is : lead is_digit (b ∷ bs) ≡ lead is_digit bs + 1 = rw h refl in omega (arith, is)

-- where no fraction and no exponent follow, the fault of too many digits, or of a letter behind them
number_refused : (place : ℕ) (text : List ℕ) → is_digit (byte_at text 0) ≡ true
    → ((byte_at text (lead is_digit text) == 46)
    || ((byte_at text (lead is_digit text) == 101) || (byte_at text (lead is_digit text) == 69)))
    ≡ false
    → fault.Syntax place ≡ token_fault place text
number_refused place text digit none =
    syntax_fault place text (rw none (rw digit (rw (digit_plain (byte_at text 0) digit) refl)))

pub number_found : (place : ℕ) (text : List ℕ) → is_digit (byte_at text 0) ≡ true
    → Found place text (number_at place text)
unfolding number_at
number_found place text digit =
    let size = lead is_digit text in
    let next = byte_at text size in
    let value = value_of 0 (take size text) in
    let within : size ≤ length text = lead_within is_digit text in
    let some : 0 < length (take size text) = omega (arith, leads text digit, length-take-le size text within) in
    found_if ((next == 46) || ((next == 101) || (next == 69))) place text (Err (fault.Float place))
    (if is_word next then Err (fault.Syntax place) else number_of place size value)
    (λ h. float_fault place text (or_left _ _ (and_from _ _ digit h)))
    (λ none. found_if (is_word next) place text (Err (fault.Syntax place)) (number_of place size value)
    (λ h. number_refused place text digit none)
    (λ ends. some_of place size text value within some (all_digits (take size text) (all_lead is_digit text))
    (ap (λ (b : ℕ). is_word b) (sym (byte_drop size text)) ∙ ends)
    (ap (λ (b : ℕ). b == 46) (sym (byte_drop size text)) ∙ (or_parts _ _ none).0) (number_refused place text digit none)
    (value_is (take size text) 0 (all_lead is_digit text) (omega arith))))

-- texts in quotes
some_weaker : {A : Type 0} (o : Option A) (P Q : A → Type 0) → ((x : A) → P x → Q x) → IfSome o P → IfSome o Q
some_weaker None P Q f h = tt
some_weaker (Some x) P Q f h = f x h

some_if : {A : Type 0} (b : Bool) (o p : Option A) (P : A → Type 0) → (b ≡ true → IfSome o P) → (b ≡ false → IfSome p P)
    → IfSome (if b then o else p) P
some_if true o p P h k = h refl
some_if false o p P h k = k refl

-- what was read behind own and k bytes, with a `\` before the bytes or not
pub record Inside (front own : List ℕ) (k : ℕ) (bs : List ℕ) (r : List ℕ × ℕ) : Type 0 where
  pub text : List ℕ
  pub more : List ℕ
  pub bytes : front ++ bs ≡ inside_quotes text ++ 39 ∷ more
  pub own_is : r.0 ≡ own ++ text
  pub size : r.1 + length front ≡ k + length (inside_quotes text) + 1

abbrev slash : Bool → List ℕ
slash true = 92 ∷ []
slash false = []

ended : (own : List ℕ) (k b : ℕ) (bs : List ℕ) → (b == 39) ≡ true → Inside [] own k (b ∷ bs) (own, k + 1)
ended own k b bs is = record {
  text = [];
  more = bs;
  bytes = ap (λ (x : ℕ). x ∷ bs) (eqb-true b 39 is);
  own_is = sym (append-nil own);
  size = omega arith;
}

slashed : (own : List ℕ) (k b : ℕ) (bs : List ℕ) (r : List ℕ × ℕ) → (b == 92) ≡ true → Inside (92 ∷ []) own (k + 1) bs r
    → Inside [] own k (b ∷ bs) r
slashed own k b bs r is h = record {
  text = h.text;
  more = h.more;
  bytes = ap (λ (x : ℕ). x ∷ bs) (eqb-true b 92 is) ∙ h.bytes;
  own_is = h.own_is;
  size = omega (arith, h.size);
}

plainly : (own : List ℕ) (k b : ℕ) (bs : List ℕ) (r : List ℕ × ℕ) → needs_backslash b ≡ false
    → Inside [] (own ++ b ∷ []) (k + 1) bs r → Inside [] own k (b ∷ bs) r
plainly own k b bs r is h =
    let spelled : inside_quotes (b ∷ h.text) ≡ b ∷ inside_quotes h.text = rw is refl in
    record {
      text = b ∷ h.text;
      more = h.more;
      bytes = ap (λ (xs : List ℕ). b ∷ xs) h.bytes ∙ ap (λ (xs : List ℕ). xs ++ 39 ∷ h.more) (sym spelled);
      own_is = h.own_is ∙ append_assoc own (b ∷ []) h.text;
      size = omega (arith, h.size, ap (length {A = ℕ}) spelled);
    }

escaped : (own : List ℕ) (k b : ℕ) (bs : List ℕ) (r : List ℕ × ℕ) → needs_backslash b ≡ true
    → Inside [] (own ++ b ∷ []) (k + 1) bs r → Inside (92 ∷ []) own k (b ∷ bs) r
escaped own k b bs r is h =
    let spelled : inside_quotes (b ∷ h.text) ≡ 92 ∷ b ∷ inside_quotes h.text = rw is refl in
    record {
      text = b ∷ h.text;
      more = h.more;
      bytes = ap (λ (xs : List ℕ). 92 ∷ b ∷ xs) h.bytes ∙ ap (λ (xs : List ℕ). xs ++ 39 ∷ h.more) (sym spelled);
      own_is = h.own_is ∙ append_assoc own (b ∷ []) h.text;
      size = omega (arith, h.size, ap (length {A = ℕ}) spelled);
    }

inside : (bs : List ℕ) (t : Bool) (own : List ℕ) (k : ℕ) → IfSome (quoted_from t own k bs) (Inside (slash t) own k bs)
inside [] t own k = tt
inside (b ∷ bs) true own k =
    some_if (needs_backslash b) _ _ (Inside (92 ∷ []) own k (b ∷ bs))
    (λ is. some_weaker (quoted_from false (own ++ b ∷ []) (k + 1) bs) _ _ (λ r h. escaped own k b bs r is h)
    (inside bs false (own ++ b ∷ []) (k + 1)))
    (λ is. tt)
inside (b ∷ bs) false own k =
    some_if (b == 39) _ _ (Inside [] own k (b ∷ bs)) (λ is. ended own k b bs is)
    (λ no_quote. some_if (b == 92) _ _ (Inside [] own k (b ∷ bs))
    (λ is. some_weaker (quoted_from true own (k + 1) bs) _ _ (λ r h. slashed own k b bs r is h)
    (inside bs true own (k + 1)))
    (λ no_slash. some_weaker (quoted_from false (own ++ b ∷ []) (k + 1) bs) _ _
    (λ r h. plainly own k b bs r (rw no_quote (rw no_slash refl)) h) (inside bs false (own ++ b ∷ []) (k + 1))))

quoted_takes : (place : ℕ) (bs : List ℕ) (o : Option (List ℕ × ℕ)) → fault.Syntax place ≡ token_fault place (39 ∷ bs)
    → IfSome o (Inside [] [] 1 bs) → Found place (39 ∷ bs) (quoted_of place o)
quoted_takes place bs None refused h = refused
quoted_takes place bs (Some r) refused h =
    let spelling = inside_quotes h.text ++ 39 ∷ [] in
    let whole : 39 ∷ bs ≡ (39 ∷ spelling) ++ h.more =
    ap (λ (xs : List ℕ). 39 ∷ xs) (h.bytes ∙ sym (append_assoc (inside_quotes h.text) (39 ∷ []) h.more)) in
    record {
      front =
          record {
            spelling = 39 ∷ spelling;
            more = h.more;
            text_is = whole;
            spells = ap (λ (xs : List ℕ). 39 ∷ (inside_quotes xs ++ 39 ∷ [])) (sym h.own_is);
            apart = tt;
          };
      size_is = omega (arith, h.size, length-append (inside_quotes h.text) (39 ∷ []));
    }

pub quoted_found : (place : ℕ) (text : List ℕ) → (byte_at text 0 == 39) ≡ true → Found place text (quoted_at place text)
unfolding quoted_at
quoted_found place [] quote = absurd (cc)
quoted_found place (b ∷ bs) quote =
    let is : b ≡ 39 = eqb-true b 39 quote in
    subst (λ (x : ℕ). Found place (x ∷ bs) (quoted_of place (quoted_from false [] 1 bs))) (sym is)
    (quoted_takes place bs (quoted_from false [] 1 bs) (plain_fault place (39 ∷ bs) refl refl) (inside bs false [] 1))

-- signs
stands_one : (t : Token) (b c : ℕ) (bs : List ℕ) → (b == c) ≡ true → SpellsToken t (c ∷ []) → Apart t bs → Takes t 1 (b ∷ bs)
stands_one t b c bs is spells apart = record {
  front =
      record {
        spelling = c ∷ [];
        more = bs;
        text_is = ap (λ (x : ℕ). x ∷ bs) (eqb-true b c is);
        spells = spells;
        apart = apart;
      };
  size_is = refl;
}

stands_two : (t : Token) (b c d : ℕ) (bs : List ℕ) → (b == c) ≡ true → (byte_at bs 0 == suc d) ≡ true
    → SpellsToken t (c ∷ suc d ∷ []) → ((more : List ℕ) → Apart t more) → Takes t 2 (b ∷ bs)
stands_two t b c d [] is next spells apart = let no : 0 ≡ suc d = eqb-true 0 (suc d) next in absurd (omega (arith, no))
stands_two t b c d (x ∷ bs) is next spells apart = record {
  front =
      record {
        spelling = c ∷ suc d ∷ [];
        more = bs;
        text_is = ap (λ (y : ℕ). y ∷ x ∷ bs) (eqb-true b c is) ∙ ap (λ (y : ℕ). c ∷ y ∷ bs) (eqb-true x (suc d) next);
        spells = spells;
        apart = apart bs;
      };
  size_is = refl;
}

equal_found : (place b c : ℕ) (bs : List ℕ) (two one : Op) → (b == c) ≡ true → operator_word two ≡ c ∷ 61 ∷ []
    → operator_word one ≡ c ∷ [] → ((more : List ℕ) → Apart (token.Operator two) more)
    → ((byte_at bs 0 == 61) ≡ false → Apart (token.Operator one) bs)
    → Found place (b ∷ bs) (with_equal (byte_at bs 0) two one)
equal_found place b c bs two one is long short apart_two apart_one =
    found_if (byte_at bs 0 == 61) place (b ∷ bs) (Ok (token.Operator two, 2)) (Ok (token.Operator one, 1))
    (λ next. stands_two (token.Operator two) b c 60 bs is next (sym long) apart_two)
    (λ next. stands_one (token.Operator one) b c bs is (sym short) (apart_one next))

comparison_found : (place b : ℕ) (bs : List ℕ) → is_digit b ≡ false
    → Found place (b ∷ bs) (comparison_at place (b ∷ bs))
unfolding comparison_at
comparison_found place b bs digit =
    let text = b ∷ bs in
    let next = byte_at bs 0 in
    let point : NextToken = if (b == 46) && is_digit next then Err (fault.Float place) else Err (fault.Syntax place) in
    let unequal : NextToken = if (b == 33) && (next == 61) then Ok (token.Operator op.Ne, 2) else point in
    let equal : NextToken = if (b == 61) && (next == 61) then Ok (token.Operator op.Eq, 2) else unequal in
    let greater : NextToken = if b == 62 then with_equal next op.Ge op.Gt else equal in
    let no_digits : lead is_digit text ≡ 0 = rw digit refl in
    found_if (b == 60) place text (with_equal next op.Le op.Lt) greater
    (λ is. equal_found place b 60 bs op.Le op.Lt is refl refl (λ more. tt) (λ h. h))
    (λ a. found_if (b == 62) place text (with_equal next op.Ge op.Gt) equal
    (λ is. equal_found place b 62 bs op.Ge op.Gt is refl refl (λ more. tt) (λ h. h))
    (λ c. found_if ((b == 61) && (next == 61)) place text (Ok (token.Operator op.Eq, 2)) unequal
    (λ is. let k = and_parts (b == 61) (next == 61) is in
    stands_two (token.Operator op.Eq) b 61 60 bs k.0 k.1 refl (λ more. tt))
    (λ d. found_if ((b == 33) && (next == 61)) place text (Ok (token.Operator op.Ne, 2)) point
    (λ is. let k = and_parts (b == 33) (next == 61) is in
    stands_two (token.Operator op.Ne) b 33 60 bs k.0 k.1 refl (λ more. tt))
    (λ e. found_if ((b == 46) && is_digit next) place text (Err (fault.Float place)) (Err (fault.Syntax place))
    (λ is. float_fault place text (or_right _ _ is)) (λ is. syntax_fault place text (rw digit is))))))

sign_found : (place b : ℕ) (bs : List ℕ) → is_digit b ≡ false → Found place (b ∷ bs) (sign_at place (b ∷ bs))
unfolding sign_at
sign_found place b bs digit =
    let text = b ∷ bs in
    let seventh : NextToken = if b == 126 then Ok (token.Operator op.Twiddle, 1) else comparison_at place text in
    let sixth : NextToken = if b == 47 then Ok (token.Operator op.Div, 1) else seventh in
    let fifth : NextToken = if b == 42 then Ok (token.Operator op.Mul, 1) else sixth in
    let fourth : NextToken = if b == 45 then Ok (token.Operator op.Sub, 1) else fifth in
    let third : NextToken = if b == 43 then Ok (token.Operator op.Add, 1) else fourth in
    let second : NextToken = if b == 41 then Ok (token.Close, 1) else third in
    found_if (b == 40) place text (Ok (token.Open, 1)) second (λ is. stands_one token.Open b 40 bs is refl tt)
    (λ h. found_if (b == 41) place text (Ok (token.Close, 1)) third (λ is. stands_one token.Close b 41 bs is refl tt)
    (λ h. found_if (b == 43) place text (Ok (token.Operator op.Add, 1)) fourth
    (λ is. stands_one (token.Operator op.Add) b 43 bs is refl tt)
    (λ h. found_if (b == 45) place text (Ok (token.Operator op.Sub, 1)) fifth
    (λ is. stands_one (token.Operator op.Sub) b 45 bs is refl tt)
    (λ h. found_if (b == 42) place text (Ok (token.Operator op.Mul, 1)) sixth
    (λ is. stands_one (token.Operator op.Mul) b 42 bs is refl tt)
    (λ h. found_if (b == 47) place text (Ok (token.Operator op.Div, 1)) seventh
    (λ is. stands_one (token.Operator op.Div) b 47 bs is refl tt)
    (λ h. found_if (b == 126) place text (Ok (token.Operator op.Twiddle, 1)) (comparison_at place text)
    (λ is. stands_one (token.Operator op.Twiddle) b 126 bs is refl tt)
    (λ h. comparison_found place b bs digit)))))))

pub token_found : (place b : ℕ) (bs : List ℕ) → Found place (b ∷ bs) (token_at place (b ∷ bs))
unfolding token_at
token_found place b bs =
    let text = b ∷ bs in
    let fourth : NextToken = if b == 39 then quoted_at place text else sign_at place text in
    let third : NextToken = if b == 92 then own_name_at place text else fourth in
    let second : NextToken = if is_digit b then number_at place text else third in
    found_if (is_letter b) place text (word_at place text) second (λ is. word_found place text is)
    (λ h. found_if (is_digit b) place text (number_at place text) third (λ is. number_found place text is)
    (λ digit. found_if (b == 92) place text (own_name_at place text) fourth (λ is. own_name_found place text is)
    (λ h. found_if (b == 39) place text (quoted_at place text) (sign_at place text) (λ is. quoted_found place text is)
    (λ h. sign_found place b bs digit))))
