-- Trading Object Service, appendix "OMG Constraint Language BNF", as the reader of this crate goes through it.
-- Reading a list of tokens, one after another.
use Rattle.std.specs.Prelude.{List, [], ◌∷◌, Result, Ok, Err}
use Rattle.td_lang.specs.declared.expr.Expr.{Expr}
use Rattle.td_lang.specs.declared.token.Token.{Token}
use Rattle.td_lang.specs.declared.machine.Stop.{Stop}
use Rattle.td_lang.specs.declared.machine.State.TheVariants as state
use Rattle.td_lang.specs.Machine.{MachineState, MachineStep, stand, step, end_of}

infixl 10 ◌>>=◌
abbrev pub ◌>>=◌ : {A B : Type 0} → Result A Stop → (A → Result B Stop) → Result B Stop
(Ok x) >>= f = f x
(Err e) >>= f = Err e

abbrev pub run : MachineState → List Token → MachineStep
run s [] = Ok s
run s (t ∷ ts) = step s t >>= λ next. run next ts

abbrev pub start : MachineState
start = stand 0 [] state.Operand

abbrev pub read : List Token → Result Expr Stop
read ts = run start ts >>= λ s. end_of s.stack s.state
