-- What is read is the whole's tree or the first fault.
use Rattle.std.proofs.Common.{◌≡◌, ℕ, ◌+◌, Bool, true, false, nat_lt, if◌then◌else◌, List, [], ◌∷◌, ◌++◌, Result, Ok}
use Rattle.std.proofs.Common.{Err, inl, inr, refl, sym, ap, subst, ◌∙◌}
use Rattle.td_lang.specs.declared.expr.Op.TheVariants as op
use Rattle.td_lang.specs.declared.expr.Expr.{Expr}
use Rattle.td_lang.specs.declared.token.Token.{Token}
use Rattle.td_lang.specs.declared.token.Token.TheVariants as token
use Rattle.td_lang.specs.declared.machine.Frame.{Frame}
use Rattle.td_lang.specs.declared.machine.Frame.TheVariants as frame
use Rattle.td_lang.specs.declared.machine.State.{State}
use Rattle.td_lang.specs.declared.machine.State.TheVariants as state
use Rattle.td_lang.specs.declared.machine.Stop.{Stop}
use Rattle.td_lang.specs.declared.machine.Stop.TheVariants as stop
use Rattle.td_lang.specs.declared.fault.LangFault.{LangFault}
use Rattle.td_lang.specs.declared.fault.LangFault.TheVariants as fault
use Rattle.td_lang.specs.Levels.{level, left}
use Rattle.td_lang.specs.Machine.{size_of, MachineState, MachineStep, stand, step, step_of, reduction, end_of}
use Rattle.td_lang.specs.Machine.{takes_not, whole}
use Rattle.td_lang.specs.Machine.{close_step, operand, name_of, size_of, refusal}
use Rattle.td_lang.specs.Reading.{run, start, read}
use Rattle.td_lang.specs.Tape.{Tape, Over, Broken, Spot, at_place, read_tape, ◌>>=◌}
use Rattle.td_lang.specs.FirstFaults.{depth_behind, open_count, fault_of, ParsesOrFaults}
use Rattle.td_lang.proofs.Completeness.{run-append, reads}
use Rattle.td_lang.proofs.Soundness.{finds, viable, not_viable}

-- how a step changes what is open, or which refusal it is
abbrev Moves : ℕ → Token → MachineStep → Type 0
Moves d t (Ok s) = s.depth ≡ depth_behind d t
Moves d t (Err e) = e ≡ refusal d t

moves_if : (b : Bool) (d : ℕ) (t : Token) (e : Stop) (s : MachineState) → (b ≡ true → e ≡ refusal d t)
    → s.depth ≡ depth_behind d t → Moves d t (if b then Err e else Ok s)
moves_if true d t e s h k = h refl
moves_if false d t e s h k = k

moves_opens : (b : Bool) (d : ℕ) (st : List Frame) → nat_lt d 64 ≡ b
    → Moves d token.Open (if b then Ok (stand (d + 1) (frame.Open ∷ st) state.Operand) else Err stop.Deep)
moves_opens true d st is = refl
moves_opens false d st is = rw is refl

operand_moves : (d : ℕ) (st : List Frame) (t : Token) → Moves d t (operand d st t)
operand_moves d st (token.Name n) = refl
operand_moves d st (token.Number n) = refl
operand_moves d st (token.Quoted t) = refl
operand_moves d st (token.Truth b) = refl
operand_moves d st (token.Keyword k) = refl
operand_moves d st token.Exist = refl
operand_moves d st token.Not = not_moves (takes_not st)
  where
    not_moves : (b : Bool) → Moves d token.Not
        (if b then Ok (stand d (frame.Not ∷ st) state.Operand) else Err stop.Refused)
    not_moves true = refl
    not_moves false = refl
operand_moves d st token.Open = moves_opens (nat_lt d 64) d st refl
operand_moves d st (token.Operator op.Sub) = refl
operand_moves d st (token.Operator o) = refl
operand_moves d st token.Within = refl
operand_moves d st token.Close = refl

name_moves : (d : ℕ) (st : List Frame) (f : List ℕ → State) (t : Token) → Moves d t (name_of d st f t)
name_moves d st f (token.Name n) = refl
name_moves d st f (token.Number n) = refl
name_moves d st f (token.Quoted t) = refl
name_moves d st f (token.Truth b) = refl
name_moves d st f (token.Keyword k) = refl
name_moves d st f token.Exist = refl
name_moves d st f token.Not = refl
name_moves d st f token.Open = refl
name_moves d st f (token.Operator o) = refl
name_moves d st f token.Within = refl
name_moves d st f token.Close = refl

size_moves : (d : ℕ) (st : List Frame) (t : Token) → Moves d t (size_of d st t)
size_moves d st (token.Number n) = refl
size_moves d st t = refl

closed_moves : (d : ℕ) (st : List Frame) (e : Expr) → Moves d token.Close (close_step d st e)
closed_moves d [] e = refl
closed_moves d (frame.Open ∷ st) e = refl
closed_moves d (frame.Not ∷ st) e = refl
closed_moves d (frame.Binary o a ∷ st) e = refl

step_moves : (d : ℕ) (st : List Frame) (s : State) (t : Token) → Moves d t (step_of d st s t)
step_moves d st state.Operand t = operand_moves d st t
step_moves d st state.AfterExist t = name_moves d st _ t
step_moves d st state.AfterMinus t = size_moves d st t
step_moves d st (state.AfterIn e) t = name_moves d st _ t
step_moves d st (state.Done m e) (token.Operator o) =
    let s = reduction (level o) st m e in
    moves_if (nat_lt s.1 (left o)) d (token.Operator o) stop.Refused _ (λ h. refl) refl
step_moves d st (state.Done m e) token.Within =
    let s = reduction 4 st m e in moves_if (nat_lt s.1 5) d token.Within stop.Refused _ (λ h. refl) refl
step_moves d st (state.Done m e) token.Close = let s = reduction 0 st m e in closed_moves d s.0 s.2
step_moves d st (state.Done m e) (token.Name n) = refl
step_moves d st (state.Done m e) (token.Number n) = refl
step_moves d st (state.Done m e) (token.Quoted t) = refl
step_moves d st (state.Done m e) (token.Truth b) = refl
step_moves d st (state.Done m e) (token.Keyword k) = refl
step_moves d st (state.Done m e) token.Exist = refl
step_moves d st (state.Done m e) token.Not = refl
step_moves d st (state.Done m e) token.Open = refl

-- the fault where a token is refused
fault_there : (place d : ℕ) (t : Token) → at_place {A = MachineState} place (Err (refusal d t)) ≡ Err (fault_of place d t)
fault_there place d (token.Name n) = refl
fault_there place d (token.Number n) = refl
fault_there place d (token.Quoted t) = refl
fault_there place d (token.Truth b) = refl
fault_there place d (token.Keyword k) = refl
fault_there place d token.Exist = refl
fault_there place d token.Not = refl
fault_there place d token.Open = open_there (nat_lt d 64)
  where
    open_there : (b : Bool) → at_place {A = MachineState} place (Err (if b then stop.Refused else stop.Deep))
        ≡ Err (if b then fault.Syntax place else fault.Depth place)
    open_there true = refl
    open_there false = refl
fault_there place d (token.Operator o) = refl
fault_there place d token.Within = refl
fault_there place d token.Close = refl

unclosed-push : (ts : List Token) (d : ℕ) (t : Token) → open_count d (ts ++ t ∷ []) ≡ depth_behind (open_count d ts) t
unclosed-push [] d t = refl
unclosed-push (x ∷ ts) d t = unclosed-push ts (depth_behind d x) t

ended : (r : Result Expr Stop) (ts : List Token) (place : ℕ) (s : MachineState) → run start ts ≡ Ok s
    → end_of s.stack s.state ≡ r → ((e : Stop) → r ≡ Err e → e ≡ stop.Refused)
    → ParsesOrFaults ts (Over place) (at_place place r)
ended (Ok e) ts place s is ends only = finds ts e (rw is ends)
ended (Err stop.Refused) ts place s is ends only = (
  viable ts s is,
  (λ e h. let taken : read ts ≡ Ok e = reads ts e h in
      let refused : read ts ≡ Err stop.Refused = rw is ends in
      cc),
  refl,
)
ended (Err stop.Memory) ts place s is ends only = let h = only stop.Memory refl in absurd (cc)
ended (Err stop.Deep) ts place s is ends only = let h = only stop.Deep refl in absurd (cc)

whole_only : (s : List Frame × ℕ × Expr) (e : Stop) → whole s ≡ Err e → e ≡ stop.Refused
whole_only ([], m, f) e h = absurd (cc)
whole_only (f ∷ st, m, g) e h = cc

end_only : (s : State) (st : List Frame) (e : Stop) → end_of st s ≡ Err e → e ≡ stop.Refused
end_only (state.Done m f) st e h = whole_only (reduction 0 st m f) e h
end_only state.Operand st e h = cc
end_only state.AfterExist st e h = cc
end_only state.AfterMinus st e h = cc
end_only (state.AfterIn f) st e h = cc

onward : (a : Result Expr LangFault) (ts : List Token) (place : ℕ) (t : Token) (rest : Tape)
    → ParsesOrFaults (ts ++ t ∷ []) rest a → ParsesOrFaults ts (Spot place t rest) a
onward (Ok e) ts place t rest h = h
onward (Err f) ts place t rest h = inr h

spot_preference : (r : MachineStep) (place : ℕ) (t : Token) (rest : Tape) (ts : List Token) (s : MachineState) → run start ts ≡ Ok s
    → s.depth ≡ open_count 0 ts → step s t ≡ r → Moves s.depth t r
    → ((next : MachineState) → run start (ts ++ t ∷ []) ≡ Ok next → next.depth ≡ open_count 0 (ts ++ t ∷ [])
    → ParsesOrFaults (ts ++ t ∷ []) rest (read_tape next rest))
    → ParsesOrFaults ts (Spot place t rest) (at_place place r >>= λ next. read_tape next rest)
spot_preference (Ok next) place t rest ts s is depth stepped moves more =
    onward (read_tape next rest) ts place t rest
    (more next (run-append ts start (t ∷ []) ∙ rw is (rw stepped refl))
    (moves ∙ ap (λ (d : ℕ). depth_behind d t) depth ∙ sym (unclosed-push ts 0 t)))
spot_preference (Err e) place t rest ts s is depth stepped moves more =
    let there : at_place {A = MachineState} place (Err e) ≡ Err (fault_of place (open_count 0 ts) t) =
    ap (λ (x : Stop). at_place {A = MachineState} place (Err x)) moves ∙ fault_there place s.depth t
    ∙ ap (λ (d : ℕ). Err (fault_of place d t)) depth in
    subst (λ (r : Result MachineState LangFault). ParsesOrFaults ts (Spot place t rest) (r >>= λ next. read_tape next rest))
    (sym there)
    (inl (viable ts s is, (λ v. not_viable ts s t e is stepped v), refl))

pub answered : (rest : Tape) (ts : List Token) (s : MachineState) → run start ts ≡ Ok s → s.depth ≡ open_count 0 ts
    → ParsesOrFaults ts rest (read_tape s rest)
answered (Over place) ts s is depth =
    ended (end_of s.stack s.state) ts place s is refl (λ e h. end_only s.state s.stack e h)
answered (Broken f) ts s is depth = (viable ts s is, refl)
answered (Spot place t rest) ts s is depth =
    spot_preference (step s t) place t rest ts s is depth refl (step_moves s.depth s.stack s.state t)
    (λ next more k. answered rest (ts ++ t ∷ []) next more k)
