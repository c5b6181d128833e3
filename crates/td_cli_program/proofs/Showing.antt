-- The lines of an outcome on their way to a sink.
use Rattle.std.proofs.Common.{◌≡◌, ◌∙◌, [], ◌++◌, true, false, true≢false, List, ℕ, Option, Some, None, refl, sym, ap}
use Rattle.std.proofs.Common.{Bool, subst}
use Rattle.td_cli_printing.specs.Answers.{PutsLines}
use Rattle.td_cli_program.specs.Outcomes.{outcome_lines, outcome_status}
use Rattle.td_cli_program.specs.Printing.{PrintsWithStatus, PrintsOutcome, Sunk, shown, unshown}
use Rattle.td_cli_program.specs.declared.outcome.Outcome.{Outcome}

-- what was put behind nothing
put_of : (found : Option (List ℕ)) (old out : List ℕ) → old ≡ [] → PutsLines found true old out → found ≡ Some out
put_of (Some lines) old out e p = ap (λ (x : List ℕ). Some x) (sym (p.1 ∙ ap (λ (x : List ℕ). x ++ lines) e))
put_of None old out e p = absurd (true≢false p.0)

put_none : (found : Option (List ℕ)) (old out : List ℕ) → PutsLines found false old out → found ≡ None
put_none (Some lines) old out p = absurd (true≢false (sym p.0))
put_none None old out p = refl

-- the lines are printed
pub shows : (o : Outcome) (put : Bool) (old out text : List ℕ) (status : ℕ) (a b : Sunk) (n : ℕ) → put ≡ true → old ≡ []
    → PutsLines (outcome_lines o) put old out → text ≡ out → status ≡ outcome_status o → PrintsWithStatus text status a b n
    → PrintsOutcome o a b n
shows o put old out text status a b n t e puts same is prints =
    let all : PutsLines (outcome_lines o) true old out =
    subst (λ (x : Bool). PutsLines (outcome_lines o) x old out) t puts in
    shown text a b n (put_of (outcome_lines o) old out e all ∙ ap (λ (x : List ℕ). Some x) (sym same))
    (subst (λ (s : ℕ). PrintsWithStatus text s a b n) is prints)

-- there are none
pub shows_not : (o : Outcome) (put : Bool) (old out : List ℕ) (a : Sunk) → put ≡ false
    → PutsLines (outcome_lines o) put old out → PrintsOutcome o a a 8
shows_not o put old out a t puts =
    unshown a (put_none (outcome_lines o) old out (subst (λ (x : Bool). PutsLines (outcome_lines o) x old out) t puts))
