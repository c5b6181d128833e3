-- Trading Object Service, appendix "OMG Constraint Language BNF", "Lexical Tokens".
-- The token in front of a text, and how many bytes it takes.
use Rattle.std.specs.Prelude.{◌≡◌, Bool, true, false, ◌&&◌, ◌||◌, ◌==◌, ℕ, ◌+◌, ◌-◌, ◌*◌, ◌^◌, ◌<◌, nat_lt}
use Rattle.std.specs.Prelude.{if◌then◌else◌, List, [], ◌∷◌, ◌++◌, take, drop, slice_index, not, Option, None, Some}
use Rattle.std.specs.Prelude.{Result, Ok, Err, codes}
use Rattle.std.specs.Str.{bytes_eq}
use Rattle.td_cdr.specs.Names.{is_letter, is_digit, is_word, IsIdentifier}
use Rattle.td_lang.specs.declared.expr.Op.{Op}
use Rattle.td_lang.specs.declared.expr.Op.TheVariants as op
use Rattle.td_lang.specs.declared.token.Keyword.TheVariants as keyword
use Rattle.td_lang.specs.declared.token.Token.{Token}
use Rattle.td_lang.specs.declared.token.Token.TheVariants as token
use Rattle.td_lang.specs.declared.fault.LangFault.{LangFault}
use Rattle.td_lang.specs.declared.fault.LangFault.TheVariants as fault

-- space, tab, CR and LF
abbrev pub is_blank : ℕ → Bool
is_blank b = (b == 32) || ((b == 9) || ((b == 13) || (b == 10)))

-- how many bytes in front are of this kind
abbrev pub lead : (ℕ → Bool) → List ℕ → ℕ
lead p [] = 0
lead p (b ∷ bs) = if p b then lead p bs + 1 else 0

-- the truth values; any other word is a name
abbrev pub truth_word : List ℕ → Token
truth_word w =
    if bytes_eq w (codes "TRUE") then token.Truth true
    else if bytes_eq w (codes "FALSE") then token.Truth false else token.Name w

-- the words that begin a preference
abbrev pub plain_word : List ℕ → Token
plain_word w =
    if bytes_eq w (codes "min") then token.Keyword keyword.Min
    else if bytes_eq w (codes "max") then token.Keyword keyword.Max
    else if bytes_eq w (codes "first") then token.Keyword keyword.First
    else if bytes_eq w (codes "random") then token.Keyword keyword.Random
    else if bytes_eq w (codes "with") then token.Keyword keyword.With else truth_word w

-- a word that isn't reserved is a name
abbrev pub word_token : List ℕ → Token
word_token w =
    if bytes_eq w (codes "and") then token.Operator op.And else if bytes_eq w (codes "or")
    then token.Operator op.Or
    else if bytes_eq w (codes "not") then token.Not
    else if bytes_eq w (codes "in") then token.Within else if bytes_eq w (codes "exist")
    then token.Exist
    else plain_word w

abbrev pub NextToken : Type 0
NextToken = Result (Token × ℕ) LangFault

-- the byte at a place, 0 past the end
abbrev pub byte_at : List ℕ → ℕ → ℕ
byte_at text at = slice_index text at

-- the word in front, whose first byte is at place
unfoldable pub word_at : ℕ → List ℕ → NextToken
word_at place text =
    let size = lead is_word text in
    if nat_lt 256 size then Err (fault.Syntax place) else Ok (word_token (take size text), size)

-- the name behind a `\` in front
unfoldable pub own_name_at : ℕ → List ℕ → NextToken
own_name_at place text =
    let name = drop 1 text in
    let size = lead is_word name in
    if not (is_letter (byte_at text 1)) then Err (fault.Syntax place)
    else if nat_lt 256 size then Err (fault.Syntax place) else Ok (
      token.Name (take size name),
      size
          + 1,
    )

-- a value with one digit more behind it, none from 2 ^ 63 on
abbrev pub with_digit : ℕ → ℕ → Option ℕ
with_digit n b = if nat_lt (n * 10 + (b - 48)) (2 ^ 63) then Some (n * 10 + (b - 48)) else None

abbrev pub onward : Option ℕ → (ℕ → Option ℕ) → Option ℕ
onward None f = None
onward (Some n) f = f n

-- the value of digits that stand behind those of n
abbrev pub value_of : ℕ → List ℕ → Option ℕ
value_of n [] = Some n
value_of n (b ∷ bs) = onward (with_digit n b) (λ m. value_of m bs)

abbrev pub number_of : ℕ → ℕ → Option ℕ → NextToken
number_of place size (Some n) = Ok (token.Number n, size)
number_of place size None = Err (fault.Syntax place)

-- the number in front; neither a fraction nor an exponent may follow
unfoldable pub number_at : ℕ → List ℕ → NextToken
number_at place text =
    let size = lead is_digit text in
    let next = byte_at text size in
    if (next == 46) || ((next == 101) || (next == 69)) then Err (fault.Float place)
    else if is_word next then Err (fault.Syntax place) else number_of place size
    (value_of 0 (take size text))

-- what stands in quotes behind own, of which a `\` was the last byte or not: the text, and the bytes up to the closing
-- quote with those of before, none where another byte follows a `\` or the end is missing
abbrev pub quoted_from : Bool → List ℕ → ℕ → List ℕ → Option (List ℕ × ℕ)
quoted_from escaped own size [] = None
quoted_from true own size (b ∷ bs) =
    if (b == 39) || (b == 92) then quoted_from false (own ++ b ∷ []) (size + 1) bs else None
quoted_from false own size (b ∷ bs) =
    if b == 39 then Some (own, size + 1) else if b == 92 then quoted_from true own (size + 1) bs
    else quoted_from false (own ++ b ∷ []) (size + 1) bs

abbrev pub quoted_of : ℕ → Option (List ℕ × ℕ) → NextToken
quoted_of place (Some r) = Ok (token.Quoted r.0, r.1)
quoted_of place None = Err (fault.Syntax place)

-- the text behind a quote in front
unfoldable pub quoted_at : ℕ → List ℕ → NextToken
quoted_at place text = quoted_of place (quoted_from false [] 1 (drop 1 text))

-- a sign that is `one`, or `two` where `=` follows
abbrev pub with_equal : ℕ → Op → Op → NextToken
with_equal next two one = if next == 61 then Ok (token.Operator two, 2) else Ok
    (token.Operator one, 1)

-- a sign that begins as a comparison
unfoldable pub comparison_at : ℕ → List ℕ → NextToken
comparison_at place text =
    let b = byte_at text 0 in
    let next = byte_at text 1 in
    if b == 60 then with_equal next op.Le op.Lt else if b == 62 then with_equal next op.Ge op.Gt
    else if (b == 61) && (next == 61) then Ok (token.Operator op.Eq, 2)
    else if (b == 33) && (next == 61) then Ok (token.Operator op.Ne, 2)
    else if (b == 46) && is_digit next then Err (fault.Float place) else Err (fault.Syntax place)

-- any other sign
unfoldable pub sign_at : ℕ → List ℕ → NextToken
sign_at place text =
    let b = byte_at text 0 in
    if b == 40 then Ok (token.Open, 1) else if b == 41 then Ok (token.Close, 1)
    else if b == 43 then Ok (token.Operator op.Add, 1)
    else if b == 45 then Ok (token.Operator op.Sub, 1) else if b == 42 then Ok
    (token.Operator op.Mul, 1)
    else if b == 47 then Ok (token.Operator op.Div, 1)
    else if b == 126 then Ok (token.Operator op.Twiddle, 1) else comparison_at place text

-- the token in front of a text whose first byte is at place
unfoldable pub token_at : ℕ → List ℕ → NextToken
token_at place text =
    let first = byte_at text 0 in
    if is_letter first then word_at place text else if is_digit first then number_at place text
    else if first == 92 then own_name_at place text else if first == 39 then quoted_at place text
    else sign_at place text

-- what a token may hold: names are identifiers, numbers lie below 2 ^ 63
abbrev pub HasSpelling : Token → Type 0
HasSpelling (token.Name n) = IsIdentifier n
HasSpelling (token.Number n) = n < 2 ^ 63
HasSpelling t = Unit {0}

abbrev pub AllSpelled : List Token → Type 0
AllSpelled [] = Unit {0}
AllSpelled (t ∷ ts) = HasSpelling t × AllSpelled ts

-- What a call answered is what the definition gives, unless memory ran out.
abbrev pub GivesFault : {X Y : Type 0} → (X → Y) → Result X LangFault → Result Y LangFault → Type 0
GivesFault view (Ok x) r = r ≡ Ok (view x)
GivesFault view (Err fault.Memory) r = Unit {0}
GivesFault view (Err e) r = r ≡ Err e
