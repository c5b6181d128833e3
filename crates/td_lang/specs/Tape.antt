-- Trading Object Service, appendix "OMG Constraint Language BNF", "Lexical Tokens".
-- A text's tokens with their places, and how it is read.
use Rattle.std.specs.Prelude.{◌≡◌, ℕ, zero, suc, ◌+◌, ◌-◌, if◌then◌else◌, List, [], ◌∷◌, drop, Result, Ok, Err}
use Rattle.td_lang.specs.declared.expr.Expr.{Expr}
use Rattle.td_lang.specs.declared.token.Token.{Token}
use Rattle.td_lang.specs.declared.machine.Stop.{Stop}
use Rattle.td_lang.specs.declared.machine.Stop.TheVariants as stop
use Rattle.td_lang.specs.declared.fault.LangFault.{LangFault}
use Rattle.td_lang.specs.declared.fault.LangFault.TheVariants as fault
use Rattle.td_lang.specs.Machine.{MachineState, step, end_of}
use Rattle.td_lang.specs.Lexing.{is_blank, token_at, NextToken}

-- the tokens, each with its place, up to the end of the text or to the first bytes that are no token
pub data Tape : Type 0 where
  Over : ℕ → Tape
  Broken : LangFault → Tape
  Spot : ℕ → Token → Tape → Tape

abbrev pub spot : ℕ → NextToken → (ℕ → Tape) → Tape
spot place (Ok t) rest = Spot place t.0 (rest (t.1 - 1))
spot place (Err f) rest = Broken f

-- the tokens of a text that stands at place, of which the first bytes belong to the token before it
abbrev pub tape : ℕ → ℕ → List ℕ → Tape
tape skip place [] = Over place
tape (suc skip) place (b ∷ bs) = tape skip (place + 1) bs
tape zero place (b ∷ bs) =
    if is_blank b then tape 0 (place + 1) bs else spot place (token_at place (b ∷ bs))
    (λ k. tape k (place + 1) bs)

abbrev pub at_place : {A : Type 0} → ℕ → Result A Stop → Result A LangFault
at_place place (Ok x) = Ok x
at_place place (Err stop.Memory) = Err fault.Memory
at_place place (Err stop.Refused) = Err (fault.Syntax place)
at_place place (Err stop.Deep) = Err (fault.Depth place)

infixl 10 ◌>>=◌
abbrev pub ◌>>=◌ : {A B : Type 0} → Result A LangFault → (A → Result B LangFault)
    → Result B LangFault
(Ok x) >>= f = f x
(Err e) >>= f = Err e

-- the tree, or the first fault in reading order
abbrev pub read_tape : MachineState → Tape → Result Expr LangFault
read_tape s (Over place) = at_place place (end_of s.stack s.state)
read_tape s (Broken f) = Err f
read_tape s (Spot place t rest) = at_place place (step s t) >>= λ next. read_tape next rest

-- the same from a place of a text on
abbrev pub read_at : List ℕ → ℕ → MachineState → Result Expr LangFault
read_at text place s = read_tape s (tape 0 place (drop place text))

-- Where one turn of the reader leads: the rest is read from there, or it is the fault.
abbrev pub ParsesOn : {X : Type 0} → (X → Result Expr LangFault) → Result X LangFault
    → Result Expr LangFault → Type 0
ParsesOn from (Ok x) all = all ≡ from x
ParsesOn from (Err fault.Memory) all = Unit {0}
ParsesOn from (Err e) all = all ≡ Err e
