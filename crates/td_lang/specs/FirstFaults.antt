-- Trading Object Service, "Exceptions" of the Lookup interface: IllegalConstraint is a text that isn't in the grammar.
-- Which fault it has, and where, is this profile's.
-- What a reader answers, in the words of the grammar: the tree of the whole, or the first fault in reading order.
use Rattle.std.specs.Prelude.{◌≡◌, ℕ, ◌+◌, ◌-◌, nat_lt, if◌then◌else◌, List, [], ◌∷◌, ◌++◌, ◌⊎◌, Result, Ok, Err}
use Rattle.td_lang.specs.declared.expr.Expr.{Expr}
use Rattle.td_lang.specs.declared.token.Token.{Token}
use Rattle.td_lang.specs.declared.token.Token.TheVariants as token
use Rattle.td_lang.specs.declared.fault.LangFault.{LangFault}
use Rattle.td_lang.specs.declared.fault.LangFault.TheVariants as fault
use Rattle.td_lang.specs.Grammar.{Sentence}
use Rattle.td_lang.specs.Lexing.{AllSpelled}
use Rattle.td_lang.specs.Tape.{Tape, Over, Broken, Spot}

-- some sentence begins so, and goes on by tokens that have a spelling
pub record Viable (ts : List Token) : Type 0 where
  pub more : List Token
  pub spelled : AllSpelled more
  pub expr : Expr
  pub sentence : Sentence (ts ++ more) expr

-- how many parentheses are open after one more token
abbrev pub depth_behind : ℕ → Token → ℕ
depth_behind d token.Open = d + 1
depth_behind d token.Close = d - 1
depth_behind d t = d

-- how many parentheses are open after the tokens
abbrev pub open_count : ℕ → List Token → ℕ
open_count d [] = d
open_count d (t ∷ ts) = open_count (depth_behind d t) ts

-- the fault of a token that no sentence has there
abbrev pub fault_of : ℕ → ℕ → Token → LangFault
fault_of place d token.Open = if nat_lt d 64 then fault.Syntax place else fault.Depth place
fault_of place d t = fault.Syntax place

-- after these tokens, the rest makes a sentence of this tree
abbrev pub CompletesTree : List Token → Tape → Expr → Type 0
CompletesTree ts (Over place) e = Sentence ts e
CompletesTree ts (Broken f) e = ⊥
CompletesTree ts (Spot place t rest) e = CompletesTree (ts ++ t ∷ []) rest e

-- after these tokens, this is the first fault: some sentence begins with what stands before it, and none with it
abbrev pub First : List Token → Tape → LangFault → Type 0
First ts (Over place) f = Viable ts × ((e : Expr) → Sentence ts e → ⊥) × (f ≡ fault.Syntax place)
First ts (Broken g) f = Viable ts × (f ≡ g)
First ts (Spot place t rest) f =
    (Viable ts × (Viable (ts ++ t ∷ []) → ⊥) × (f ≡ fault_of place (open_count 0 ts) t))
    ⊎ First (ts ++ t ∷ []) rest f

abbrev pub ParsesOrFaults : List Token → Tape → Result Expr LangFault → Type 0
ParsesOrFaults ts rest (Ok e) = CompletesTree ts rest e
ParsesOrFaults ts rest (Err f) = First ts rest f
