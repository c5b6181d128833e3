-- A printed token is read again.
use Rattle.std.proofs.Common.{◌≡◌, ℕ, ◌^◌, ◌<◌, Bool, true, false, if◌then◌else◌, List, [], ◌∷◌, ◌++◌, length, Ok, inl}
use Rattle.std.proofs.Common.{inr, refl, arith}
use Rattle.std.specs.Fmt.{decimal}
use Rattle.std.proofs.lemmas.Fmt.{decimal_is_IsNumeral}
use Rattle.td_cdr.specs.Names.{IsIdentifier}
use Rattle.td_lang.specs.declared.expr.Op.TheVariants as op
use Rattle.td_lang.specs.declared.token.Token.{Token}
use Rattle.td_lang.specs.declared.token.Token.TheVariants as token
use Rattle.td_lang.specs.Lexing.{token_at, HasSpelling}
use Rattle.td_lang.specs.Printing.{bytes_of}
use Rattle.td_lang.specs.Spelling.{is_reserved, SpellsToken, Apart, EndsWord}
use Rattle.td_lang.proofs.TapeUniqueness.{Solid}
use Rattle.td_lang.proofs.TapeUniqueness as tapes
use Rattle.td_lang.proofs.TokenReading as respelled

-- a space follows, or nothing
abbrev pub Spaced : List ℕ → Type 0
Spaced [] = Unit {0}
Spaced (b ∷ bs) = b ≡ 32

-- tokens with a space before each
abbrev pub row_of : List Token → List ℕ
row_of [] = []
row_of (t ∷ ts) = 32 ∷ (bytes_of t ++ row_of ts)

ends_word : (more : List ℕ) → Spaced more → EndsWord more
ends_word [] h = refl
ends_word (b ∷ bs) h = rw h refl

no_equal : (more : List ℕ) → Spaced more → Apart (token.Operator op.Lt) more
no_equal [] h = refl
no_equal (b ∷ bs) h = rw h refl

no_point : (n : ℕ) (more : List ℕ) → Spaced more → Apart (token.Number n) more
no_point n [] h = (refl, refl)
no_point n (b ∷ bs) h = rw h (refl, refl)

-- a space keeps each token apart from what follows
apart : (t : Token) (more : List ℕ) → Spaced more → Apart t more
apart (token.Operator op.Or) more h = ends_word more h
apart (token.Operator op.And) more h = ends_word more h
apart (token.Operator op.Eq) more h = tt
apart (token.Operator op.Ne) more h = tt
apart (token.Operator op.Lt) more h = no_equal more h
apart (token.Operator op.Le) more h = tt
apart (token.Operator op.Gt) more h = no_equal more h
apart (token.Operator op.Ge) more h = tt
apart (token.Operator op.Twiddle) more h = tt
apart (token.Operator op.Add) more h = tt
apart (token.Operator op.Sub) more h = tt
apart (token.Operator op.Mul) more h = tt
apart (token.Operator op.Div) more h = tt
apart token.Within more h = ends_word more h
apart token.Not more h = ends_word more h
apart token.Exist more h = ends_word more h
apart token.Open more h = tt
apart token.Close more h = tt
apart (token.Name n) more h = ends_word more h
apart (token.Number n) more h = no_point n more h
apart (token.Quoted t) more h = tt
apart (token.Truth b) more h = ends_word more h
apart (token.Keyword k) more h = ends_word more h

name_spelled : (n : List ℕ) (t : Bool) → is_reserved n ≡ t → IsIdentifier n
    → SpellsToken (token.Name n) (if t then 92 ∷ n else n)
name_spelled n true is i = (i, inl refl)
name_spelled n false is i = (i, inr (refl, is))

number_spelled : (n : ℕ) → n < 2 ^ 63 → SpellsToken (token.Number n) (decimal n)
number_spelled n h = let d = decimal_is_IsNumeral n (omega arith) in (d.0.0, d.0.1, d.1, h)

-- what is printed is a spelling
spells : (t : Token) → HasSpelling t → SpellsToken t (bytes_of t)
spells (token.Operator o) h = refl
spells token.Within h = refl
spells token.Not h = refl
spells token.Exist h = refl
spells token.Open h = refl
spells token.Close h = refl
spells (token.Name n) h = name_spelled n (is_reserved n) refl h
spells (token.Number n) h = number_spelled n h
spells (token.Quoted t) h = refl
spells (token.Truth true) h = refl
spells (token.Truth false) h = refl
spells (token.Keyword k) h = refl

pub token_again : (t : Token) (place : ℕ) (rest : List ℕ) → HasSpelling t → Spaced rest
    → token_at place (bytes_of t ++ rest) ≡ Ok (t, length (bytes_of t))
token_again t place rest h k = respelled.token_again t place (bytes_of t) rest (spells t h) (apart t rest k)

-- a printed token begins with no blank, and has at least one byte
pub solid : (t : Token) → HasSpelling t → Solid (bytes_of t)
solid t h = tapes.solid t (bytes_of t) (spells t h)
