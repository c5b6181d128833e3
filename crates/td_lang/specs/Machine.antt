-- Trading Object Service, appendix "OMG Constraint Language BNF", as the reader of this crate goes through it; what it
-- finds is told by the grammar in `Constraints`.
-- Reading token by token: what was begun, the last on top, and what may come next.
use Rattle.std.specs.Prelude.{◌<◌, ◌^◌, pos, neg_ℤ, ◌≡◌, Bool, true, false, ℕ, ◌+◌, ◌-◌, nat_lt, if◌then◌else◌, List}
use Rattle.std.specs.Prelude.{[], ◌∷◌, reverse, Result, Ok, Err}
use Rattle.td_lang.specs.declared.expr.Op.{Op}
use Rattle.td_lang.specs.declared.expr.Op.TheVariants as op
use Rattle.td_lang.specs.declared.expr.Expr.{Expr}
use Rattle.td_lang.specs.declared.expr.Expr.TheVariants as expr
use Rattle.td_lang.specs.declared.token.Token.{Token}
use Rattle.td_lang.specs.declared.token.Token.TheVariants as token
use Rattle.td_lang.specs.declared.machine.Frame.{Frame}
use Rattle.td_lang.specs.declared.machine.Frame.TheVariants as frame
use Rattle.td_lang.specs.declared.machine.State.{State}
use Rattle.td_lang.specs.declared.machine.State.TheVariants as state
use Rattle.td_lang.specs.declared.machine.Stop.{Stop}
use Rattle.td_lang.specs.declared.machine.Stop.TheVariants as stop
use Rattle.td_lang.specs.Levels.{level, left, right}

-- what is finished before something of level n follows: the frames below, the level of the operand, and the operand
abbrev pub reduction : ℕ → List Frame → ℕ → Expr → List Frame × ℕ × Expr
reduction n [] m e = ([], m, e)
reduction n (frame.Binary o a ∷ st) m e =
    if nat_lt n (right o) then reduction n st (level o)
    (expr.Binary o a e) else (frame.Binary o a ∷ st, m, e)
reduction n (frame.Not ∷ st) m e = reduction n st 8 (expr.Not e)
reduction n (frame.Open ∷ st) m e = (frame.Open ∷ st, m, e)

-- the parentheses that are open, the frames, and what may come next
pub record MachineState : Type 0 where
  pub depth : ℕ
  pub stack : List Frame
  pub state : State

abbrev pub MachineStep : Type 0
MachineStep = Result MachineState Stop

abbrev pub stand : ℕ → List Frame → State → MachineState
stand d st s = record { depth = d; stack = st; state = s }

-- the same with frames of which the last is on top
abbrev pub frames_state : List Frame → ℕ × State → MachineState
frames_state frames r = stand r.0 (reverse frames) r.1

abbrev pub operand_on : List Frame → ℕ × Expr → List Frame × ℕ × Expr
operand_on frames r = (reverse frames, r.0, r.1)

-- the top frame's operand may be a `not`
abbrev pub takes_not : List Frame → Bool
takes_not [] = true
takes_not (frame.Not ∷ st) = false
takes_not (f ∷ st) = true

abbrev pub refusal : ℕ → Token → Stop
refusal d token.Open = if nat_lt d 64 then stop.Refused else stop.Deep
refusal d t = stop.Refused

abbrev pub operand : ℕ → List Frame → Token → MachineStep
operand d st (token.Name name) = Ok (stand d st (state.Done 9 (expr.Name name)))
operand d st (token.Number n) = Ok (stand d st (state.Done 9 (expr.Number (pos n))))
operand d st (token.Quoted t) = Ok (stand d st (state.Done 9 (expr.Str t)))
operand d st (token.Truth b) = Ok (stand d st (state.Done 9 (expr.Truth b)))
operand d st (token.Operator op.Sub) = Ok (stand d st state.AfterMinus)
operand d st token.Exist = Ok (stand d st state.AfterExist)
operand d st token.Not = if takes_not st then Ok (stand d (frame.Not ∷ st) state.Operand)
    else Err stop.Refused
operand d st token.Open = if nat_lt d 64 then Ok (stand (d + 1) (frame.Open ∷ st) state.Operand)
    else Err stop.Deep
operand d st t = Err stop.Refused

abbrev pub name_of : ℕ → List Frame → (List ℕ → State) → Token → MachineStep
name_of d st holding (token.Name name) = Ok (stand d st (holding name))
name_of d st holding t = Err (refusal d t)

abbrev pub size_of : ℕ → List Frame → Token → MachineStep
size_of d st (token.Number n) = Ok (stand d st (state.Done 9 (expr.Number (neg_ℤ (pos n)))))
size_of d st t = Err (refusal d t)

abbrev pub IsSmall : Token → Type 0
IsSmall (token.Number n) = n < 2 ^ 63
IsSmall t = Unit {0}

abbrev pub operator_step : ℕ → Op → List Frame × ℕ × Expr → MachineStep
operator_step d o s =
    if nat_lt s.1 (left o) then Err stop.Refused else Ok
    (stand d (frame.Binary o s.2 ∷ s.0) state.Operand)

abbrev pub within_step : ℕ → List Frame × ℕ × Expr → MachineStep
within_step d s = if nat_lt s.1 5 then Err stop.Refused else Ok (stand d s.0 (state.AfterIn s.2))

abbrev pub close_step : ℕ → List Frame → Expr → MachineStep
close_step d (frame.Open ∷ st) e = Ok (stand (d - 1) st (state.Done 9 e))
close_step d st e = Err stop.Refused

abbrev pub suffix : ℕ → List Frame → ℕ → Expr → Token → MachineStep
suffix d st m e (token.Operator o) = operator_step d o (reduction (level o) st m e)
suffix d st m e token.Within = within_step d (reduction 4 st m e)
suffix d st m e token.Close = close_step d (reduction 0 st m e).0 (reduction 0 st m e).2
suffix d st m e t = Err (refusal d t)

abbrev pub step_of : ℕ → List Frame → State → Token → MachineStep
step_of d st state.Operand t = operand d st t
step_of d st state.AfterExist t = name_of d st (λ name. state.Done 9 (expr.Exist name)) t
step_of d st state.AfterMinus t = size_of d st t
step_of d st (state.AfterIn e) t = name_of d st (λ name. state.Done 4 (expr.Within e name)) t
step_of d st (state.Done m e) t = suffix d st m e t

abbrev pub step : MachineState → Token → MachineStep
step s t = step_of s.depth s.stack s.state t

-- the whole that was read, where the text ends
abbrev pub whole : List Frame × ℕ × Expr → Result Expr Stop
whole ([], m, e) = Ok e
whole (st, m, e) = Err stop.Refused

abbrev pub end_of : List Frame → State → Result Expr Stop
end_of st (state.Done m e) = whole (reduction 0 st m e)
end_of st s = Err stop.Refused

-- What a call answered is what the definition gives, unless memory ran out.
abbrev pub AgreesUnlessNoMemory : {X Y : Type 0} → (X → Y) → Result X Stop → Result Y Stop → Type 0
AgreesUnlessNoMemory view (Ok x) r = r ≡ Ok (view x)
AgreesUnlessNoMemory view (Err stop.Memory) r = Unit {0}
AgreesUnlessNoMemory view (Err e) r = r ≡ Err e

-- the top frame is finished before something of level n follows
abbrev pub waits : List Frame → ℕ → Bool
waits [] n = false
waits (frame.Open ∷ st) n = false
waits (frame.Not ∷ st) n = true
waits (frame.Binary o a ∷ st) n = nat_lt n (right o)
