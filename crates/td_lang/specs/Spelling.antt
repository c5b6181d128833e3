-- Trading Object Service, appendix "OMG Constraint Language BNF", "Lexical Tokens".
-- How a token may be spelled, and which tokens a text consists of.
use Rattle.std.specs.Prelude.{◌≡◌, ℕ, ◌+◌, ◌^◌, ◌<◌, Bool, true, false, ◌&&◌, ◌||◌, ◌==◌, if◌then◌else◌, List, [], ◌∷◌}
use Rattle.std.specs.Prelude.{◌++◌, length, ◌⊎◌, IsTrue, codes}
use Rattle.std.specs.List.{list_all, list_any}
use Rattle.std.specs.Str.{bytes_eq}
use Rattle.std.specs.Str.Parse.{AllDigits, digits_value}
use Rattle.td_cdr.specs.Names.{is_digit, is_word, IsIdentifier}
use Rattle.td_lang.specs.declared.expr.Op.{Op}
use Rattle.td_lang.specs.declared.expr.Op.TheVariants as op
use Rattle.td_lang.specs.declared.token.Keyword.{Keyword}
use Rattle.td_lang.specs.declared.token.Keyword.TheVariants as keyword
use Rattle.td_lang.specs.declared.token.Token.{Token}
use Rattle.td_lang.specs.declared.token.Token.TheVariants as token
use Rattle.td_lang.specs.declared.fault.LangFault.{LangFault}
use Rattle.td_lang.specs.declared.fault.LangFault.TheVariants as fault
use Rattle.td_lang.specs.Lexing.{is_blank, lead, byte_at}
use Rattle.td_lang.specs.Tape.{Tape, Over, Broken, Spot}

abbrev pub operator_word : Op → List ℕ
operator_word op.Or = codes "or"
operator_word op.And = codes "and"
operator_word op.Eq = codes "=="
operator_word op.Ne = codes "!="
operator_word op.Lt = codes "<"
operator_word op.Le = codes "<="
operator_word op.Gt = codes ">"
operator_word op.Ge = codes ">="
operator_word op.Twiddle = codes "~"
operator_word op.Add = codes "+"
operator_word op.Sub = codes "-"
operator_word op.Mul = codes "*"
operator_word op.Div = codes "/"

abbrev pub preference_word : Keyword → List ℕ
preference_word keyword.First = codes "first"
preference_word keyword.Random = codes "random"
preference_word keyword.Min = codes "min"
preference_word keyword.Max = codes "max"
preference_word keyword.With = codes "with"

abbrev pub operator_words : List (List ℕ)
operator_words = codes "and" ∷ codes "or" ∷ codes "not" ∷ codes "in" ∷ codes "exist" ∷ []

abbrev pub preference_words : List (List ℕ)
preference_words = codes "min" ∷ codes "max" ∷ codes "first" ∷ codes "random" ∷ codes "with" ∷ []

abbrev pub truth_words : List (List ℕ)
truth_words = codes "TRUE" ∷ codes "FALSE" ∷ []

-- the reserved words, which are no names
abbrev pub is_reserved : List ℕ → Bool
is_reserved w = list_any (bytes_eq w) (operator_words ++ (preference_words ++ truth_words))

-- a `\` stands before a quote and before a `\`
abbrev pub needs_backslash : ℕ → Bool
needs_backslash b = (b == 39) || (b == 92)

abbrev pub inside_quotes : List ℕ → List ℕ
inside_quotes [] = []
inside_quotes (b ∷ bs) = if needs_backslash b then 92 ∷ b ∷ inside_quotes bs else b
    ∷ inside_quotes bs

-- the bytes spell the token
abbrev pub SpellsToken : Token → List ℕ → Type 0
SpellsToken (token.Operator o) bs = bs ≡ operator_word o
SpellsToken token.Within bs = bs ≡ codes "in"
SpellsToken token.Not bs = bs ≡ codes "not"
SpellsToken token.Exist bs = bs ≡ codes "exist"
SpellsToken token.Open bs = bs ≡ codes "("
SpellsToken token.Close bs = bs ≡ codes ")"
SpellsToken (token.Name n) bs = IsIdentifier n
    × ((bs ≡ 92 ∷ n) ⊎ ((bs ≡ n) × (is_reserved n ≡ false)))
SpellsToken (token.Number n) bs = (0 < length bs) × AllDigits 10 bs × (digits_value 10 bs ≡ n)
    × (n < 2 ^ 63)
SpellsToken (token.Quoted t) bs = bs ≡ 39 ∷ (inside_quotes t ++ 39 ∷ [])
SpellsToken (token.Truth true) bs = bs ≡ codes "TRUE"
SpellsToken (token.Truth false) bs = bs ≡ codes "FALSE"
SpellsToken (token.Keyword k) bs = bs ≡ preference_word k

abbrev pub EndsWord : List ℕ → Type 0
EndsWord more = is_word (byte_at more 0) ≡ false

-- what may follow a spelling at once: a word ends where no letter, digit or `_` follows, a number where no `.` follows
-- either, and `<` and `>` where no `=` follows
abbrev pub Apart : Token → List ℕ → Type 0
Apart (token.Operator op.Or) more = EndsWord more
Apart (token.Operator op.And) more = EndsWord more
Apart (token.Operator op.Lt) more = (byte_at more 0 == 61) ≡ false
Apart (token.Operator op.Gt) more = (byte_at more 0 == 61) ≡ false
Apart (token.Operator o) more = Unit {0}
Apart token.Open more = Unit {0}
Apart token.Close more = Unit {0}
Apart (token.Quoted t) more = Unit {0}
Apart (token.Number n) more = EndsWord more × ((byte_at more 0 == 46) ≡ false)
Apart t more = EndsWord more

-- the token stands in front of the text
pub record BeginsWithToken (t : Token) (text : List ℕ) : Type 0 where
  pub spelling : List ℕ
  pub more : List ℕ
  pub text_is : text ≡ spelling ++ more
  pub spells : SpellsToken t spelling
  pub apart : Apart t more

-- a number with a fraction or an exponent stands in front, as far as its first byte that is no digit
abbrev pub is_float : List ℕ → Bool
is_float text =
    let next = byte_at text (lead is_digit text) in
    (is_digit (byte_at text 0) && ((next == 46) || ((next == 101) || (next == 69))))
    || ((byte_at text 0 == 46) && is_digit (byte_at text 1))

-- the fault of a text whose first byte is at place, and that no token stands in front of
abbrev pub token_fault : ℕ → List ℕ → LangFault
token_fault place text = if is_float text then fault.Float place else fault.Syntax place

-- behind blanks no token stands in front, and the fault says why
pub record Halts (place : ℕ) (text : List ℕ) (f : LangFault) : Type 0 where
  pub gap : List ℕ
  pub first : ℕ
  pub others : List ℕ
  pub text_is : text ≡ gap ++ first ∷ others
  pub blank : IsTrue (list_all is_blank gap)
  pub no_blank : is_blank first ≡ false
  pub none : (t : Token) → BeginsWithToken t (first ∷ others) → ⊥
  pub fault_is : f ≡ token_fault (place + length gap) (first ∷ others)

-- the text, whose first byte is at place, is spellings of these tokens at their places, with blanks before, between and
-- behind them, up to its end or to a fault
abbrev pub SpellsTokens : ℕ → List ℕ → Tape → Type 0
SpellsTokens place text (Over end) = IsTrue (list_all is_blank text) × (end ≡ place + length text)
SpellsTokens place text (Broken f) = Halts place text f
SpellsTokens place text (Spot at t rest) =
    (gap : List ℕ) × (behind : List ℕ) × (text ≡ gap ++ behind)
    × IsTrue (list_all is_blank gap) × (at ≡ place + length gap)
    × (front : BeginsWithToken t behind) × SpellsTokens (at + length front.spelling) front.more rest
