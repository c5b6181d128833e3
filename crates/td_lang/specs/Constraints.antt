-- Trading Object Service, appendix "OMG Constraint Language BNF", "The Constraint Language BNF": a constraint
-- is empty or a bool.
-- What a text says as a constraint.
use Rattle.std.specs.Prelude.{◌≡◌, ℕ, ◌<◌, ◌≤◌, nat_lt, if◌then◌else◌, List, [], length, ◌⊎◌, Result, Ok, Err}
use Rattle.td_lang.specs.declared.expr.Constraint.{Constraint}
use Rattle.td_lang.specs.declared.expr.Constraint.TheVariants as constraint
use Rattle.td_lang.specs.declared.fault.LangFault.{LangFault}
use Rattle.td_lang.specs.declared.fault.LangFault.TheVariants as fault
use Rattle.td_lang.specs.FirstFaults.{CompletesTree, First}
use Rattle.td_lang.specs.Reading.{start}
use Rattle.td_lang.specs.Tape.{Tape, Over, Broken, Spot, tape, read_tape, ◌>>=◌}

-- the tokens make this expression, or this is the first fault
abbrev pub IsTreeOrFault : Tape → Result Constraint LangFault → Type 0
IsTreeOrFault rest (Ok constraint.Empty) = ⊥
IsTreeOrFault rest (Ok (constraint.Is e)) = CompletesTree [] rest e
IsTreeOrFault rest (Err f) = First [] rest f

-- no tokens are the empty constraint
abbrev pub ParsesConstraint : Tape → Result Constraint LangFault → Type 0
ParsesConstraint (Over place) r = r ≡ Ok constraint.Empty
ParsesConstraint (Broken f) r = IsTreeOrFault (Broken f) r
ParsesConstraint (Spot place t rest) r = IsTreeOrFault (Spot place t rest) r

-- the constraint of a text, or its first fault in reading order, by the grammar
abbrev pub Says : List ℕ → Result Constraint LangFault → Type 0
Says text r = ((4096 < length text) × (r ≡ Err fault.TooLong))
    ⊎ ((length text ≤ 4096) × ParsesConstraint (tape 0 0 text) r)

-- the same as the reader finds it
abbrev pub tape_constraint : Tape → Result Constraint LangFault
tape_constraint (Over place) = Ok constraint.Empty
tape_constraint (Broken f) = Err f
tape_constraint (Spot place t rest) = read_tape start (Spot place t rest) >>= λ e.
    Ok (constraint.Is e)

abbrev pub constraint_of : List ℕ → Result Constraint LangFault
constraint_of text = if nat_lt 4096 (length text) then Err fault.TooLong else tape_constraint
    (tape 0 0 text)

-- What a call answered has a property, unless memory ran out.
abbrev pub UnlessMemory : {X : Type 0} → (Result X LangFault → Type 0) → Result X LangFault → Type 0
UnlessMemory P (Ok x) = P (Ok x)
UnlessMemory P (Err fault.Memory) = Unit {0}
UnlessMemory P (Err f) = P (Err f)
