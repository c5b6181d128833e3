-- Trading Object Service, appendix "OMG Constraint Language BNF".
-- How a tree is printed: an operand stands in parentheses exactly where the grammar doesn't have its form in that
-- place, and a single space stands between two tokens.
use Rattle.std.specs.Prelude.{ℤ, pos, negsuc, suc, Bool, true, false, ◌&&◌, ℕ, ◌^◌, ◌<◌, nat_lt, if◌then◌else◌, List}
use Rattle.std.specs.Prelude.{[], ◌∷◌, ◌++◌, codes, IsTrue}
use Rattle.std.specs.Fmt.{decimal}
use Rattle.td_cdr.specs.Names.{identifier}
use Rattle.td_lang.specs.declared.expr.Op.{Op}
use Rattle.td_lang.specs.declared.expr.Expr.{Expr, fold-Expr, Expr-F}
use Rattle.td_lang.specs.declared.expr.Expr.TheOpen as layer
use Rattle.td_lang.specs.declared.token.Token.{Token}
use Rattle.td_lang.specs.declared.token.Token.TheVariants as token
use Rattle.td_lang.specs.Levels.{level, left, right}
use Rattle.td_lang.specs.Spelling.{operator_word, preference_word, is_reserved, inside_quotes}
use Rattle.td_lang.specs.Grammar.{Phrase, Operation, Within, Negation, Existence, PropertyName, Numeral, Negative}
use Rattle.td_lang.specs.Grammar.{Quoted, Truth, Parenthesis, tokens, IsOfLevel, Shallow}

-- ---- the phrase of a tree

-- a phrase of level m where the grammar has something of level l
abbrev pub at_level : ℕ → ℕ → Phrase → Phrase
at_level l m c = if nat_lt m l then Parenthesis c else c

abbrev pub number_phrase : ℤ → Phrase
number_phrase (pos n) = Numeral n
number_phrase (negsuc n) = Negative (suc n)

abbrev pub phrase_layer : Expr-F (ℕ → Phrase) → ℕ → Phrase
phrase_layer (layer.Binary o a b) l = at_level l (level o) (Operation o (a (left o)) (b (right o)))
phrase_layer (layer.Within a name) l = at_level l 4 (Within (a 5) name)
phrase_layer (layer.Not a) l = at_level l 8 (Negation (a 9))
phrase_layer (layer.Exist name) l = Existence name
phrase_layer (layer.Name name) l = PropertyName name
phrase_layer (layer.Number n) l = number_phrase n
phrase_layer (layer.Str t) l = Quoted t
phrase_layer (layer.Truth b) l = Truth b

-- what is printed for a tree where the grammar has something of a level
abbrev pub phrase_of : Expr → ℕ → Phrase
phrase_of = fold-Expr (ℕ → Phrase) phrase_layer

-- ---- the bytes of a token

abbrev pub truth_word : Bool → List ℕ
truth_word true = codes "TRUE"
truth_word false = codes "FALSE"

-- a reserved name has a `\` in front
abbrev pub name_bytes : List ℕ → List ℕ
name_bytes name = if is_reserved name then 92 ∷ name else name

abbrev pub bytes_of : Token → List ℕ
bytes_of (token.Operator o) = operator_word o
bytes_of token.Within = codes "in"
bytes_of token.Not = codes "not"
bytes_of token.Exist = codes "exist"
bytes_of token.Open = codes "("
bytes_of token.Close = codes ")"
bytes_of (token.Name n) = name_bytes n
bytes_of (token.Number n) = decimal n
bytes_of (token.Quoted t) = 39 ∷ (inside_quotes t ++ 39 ∷ [])
bytes_of (token.Truth b) = truth_word b
bytes_of (token.Keyword k) = preference_word k

-- ---- the text of tokens

-- bytes behind a text, with a space between
abbrev pub with_space : List ℕ → List ℕ → List ℕ
with_space [] bytes = bytes
with_space (x ∷ xs) bytes = (x ∷ xs) ++ 32 ∷ bytes

unfoldable pub put : List ℕ → Token → List ℕ
put text t = with_space text (bytes_of t)

abbrev pub put_all : List ℕ → List Token → List ℕ
put_all text [] = text
put_all text (t ∷ ts) = put_all (put text t) ts

-- a tree behind a text, where the grammar has something of level l
abbrev pub expr_text : List ℕ → Expr → ℕ → List ℕ
expr_text text e l = put_all text (tokens (phrase_of e l))

abbrev pub open_if : Bool → List ℕ → List ℕ
open_if b text = if b then put text token.Open else text

abbrev pub close_if : Bool → List ℕ → List ℕ
close_if b text = if b then put text token.Close else text

-- the left operand and its operator, where the grammar has something of level l
abbrev pub left_text : List ℕ → Expr → Op → ℕ → List ℕ
left_text text a o l = put (expr_text (open_if (nat_lt (level o) l) text) a (left o))
    (token.Operator o)

-- the right operand
abbrev pub right_text : List ℕ → Expr → Op → ℕ → List ℕ
right_text text b o l = close_if (nat_lt (level o) l) (expr_text text b (right o))

-- ---- the trees whose texts are read again: names are identifiers, and numbers lie above -2^63 and below 2^63

abbrev pub plain_number : ℤ → Bool
plain_number (pos n) = nat_lt n (2 ^ 63)
plain_number (negsuc n) = nat_lt (suc n) (2 ^ 63)

abbrev pub plain_layer : Expr-F Bool → Bool
plain_layer (layer.Binary o a b) = a && b
plain_layer (layer.Within a name) = a && identifier name
plain_layer (layer.Not a) = a
plain_layer (layer.Exist name) = identifier name
plain_layer (layer.Name name) = identifier name
plain_layer (layer.Number n) = plain_number n
plain_layer (layer.Str t) = true
plain_layer (layer.Truth b) = true

abbrev pub plain : Expr → Bool
plain = fold-Expr Bool plain_layer

abbrev pub HasNoParentheses : Expr → Type 0
HasNoParentheses e = IsTrue (plain e)

-- names, numbers and depth allow that what is printed is read
abbrev pub CanBeRead : Expr → Type 0
CanBeRead e = HasNoParentheses e × Shallow 64 (phrase_of e 1)

-- ---- a phrase without spare parentheses

-- where the grammar has something of level l, no pair of parentheses could be left out, and no `-` stands before 0
abbrev pub IsTight : ℕ → Phrase → Type 0
IsTight l (Operation o a b) = IsTight (left o) a × IsTight (right o) b
IsTight l (Within a name) = IsTight 5 a
IsTight l (Negation a) = IsTight 9 a
IsTight l (Existence name) = Unit {0}
IsTight l (PropertyName name) = Unit {0}
IsTight l (Numeral n) = Unit {0}
IsTight l (Negative n) = 0 < n
IsTight l (Quoted t) = Unit {0}
IsTight l (Truth b) = Unit {0}
IsTight l (Parenthesis a) = (IsOfLevel l a → ⊥) × IsTight 1 a
