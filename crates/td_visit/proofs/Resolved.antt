-- Properties of which none is dynamic are resolved as they are, and none of them is evaluated.
use Rattle.std.proofs.Common.{◌≡◌, ℕ, Bool, true, false, cond, List, [], ◌∷◌, ◌||◌, Option, Some, None, Ok, refl, sym, ap}
use Rattle.std.proofs.Common.{option_map, option_and_then, ◌∙◌}
use Rattle.std.specs.List.{find}
use Rattle.std.specs.Str.{bytes_eq}
use Rattle.td_cdr.specs.Format.{◌>>=◌}
use Rattle.td_eval.specs.Mentioning.{Names}
use Rattle.td_eval.specs.Properties.{property}
use Rattle.td_store.specs.Candidates.{has_dynamic, is_dynamic}
use Rattle.td_value.specs.declared.structures.Property.{Property}
use Rattle.td_walk.specs.Resolving.{dynamic_named, dynamic_of, is_evaluated, resolved, resolved_property}
use Rattle.td_walk.specs.Questions.{comes_to, made_up_to}
use Rattle.td_walk.specs.Visits.{AnswersRead, evaluate_names, evaluated_name, evaluated_property}
use Rattle.td_walk.specs.declared.answer.StepAnswer.{StepAnswer}
use Rattle.td_walk.specs.declared.evaluation.Evaluation.{Evaluation}

neither : (a b : Bool) → (a || b) ≡ false → (a ≡ false) × (b ≡ false)
neither true b e = absurd cc
neither false b e = (refl, e)

plain : (made : List Evaluation) (p : Property) → is_dynamic p.value ≡ false → resolved_property made p ≡ Some p
plain made p e = rw e refl

pub without_dynamic : (made : List Evaluation) (ps : List Property) → has_dynamic ps ≡ false
    → resolved made ps ≡ ps
unfolding resolved
without_dynamic made [] e = refl
without_dynamic made (p ∷ ps) e =
    let h = neither (is_dynamic p.value) (has_dynamic ps) e in
    rw (plain made p h.0) (ap (λ (xs : List Property). p ∷ xs) (without_dynamic made ps h.1))

pub as_they_are : (made : List Evaluation) (ps : List Property) (dynamic : Bool) → dynamic ≡ has_dynamic ps
    → dynamic ≡ false → resolved made ps ≡ ps
as_they_are made ps dynamic is e = without_dynamic made ps (sym is ∙ e)

-- ---- nothing is evaluated

none-first : (p : Property) (o : Option Property) (b : Bool) → is_dynamic p.value ≡ false
    → option_and_then dynamic_of (option_map (λ (x : Property). x.value) o) ≡ None
    → option_and_then dynamic_of (option_map (λ (x : Property). x.value) (cond b (Some p) o)) ≡ None
unfolding dynamic_of
none-first p o true e h = rw e refl
none-first p o false e h = h

none-named : (ps : List Property) (name : List ℕ) → has_dynamic ps ≡ false → dynamic_named ps name ≡ None
unfolding dynamic_named property
none-named [] name e = refl
none-named (p ∷ ps) name e =
    let h = neither (is_dynamic p.value) (has_dynamic ps) e in
    none-first p (find (λ (x : Property). bytes_eq x.name name) ps) (bytes_eq p.name name) h.0 (none-named ps name h.1)

none-by : (b : Bool) (made : List Evaluation) (answers : List StepAnswer)
    → (let r : AnswersRead (List Evaluation) = cond b (Ok (made, answers)) (Ok (made, answers)) in r) ≡ Ok (made, answers)
none-by true made answers = refl
none-by false made answers = refl

none-evaluated : (ps : List Property) (made : List Evaluation) (name : List ℕ) (answers : List StepAnswer)
    → has_dynamic ps ≡ false → evaluated_name ps made name answers ≡ Ok (made, answers)
none-evaluated ps made name answers e = rw (none-named ps name e) (none-by (is_evaluated made name) made answers)

pub all_evaluated : (ps : List Property) (made : List Evaluation) (names : Names) (answers : List StepAnswer)
    → has_dynamic ps ≡ false → evaluate_names ps made names answers ≡ Ok (made, answers)
all_evaluated ps made [] answers e = refl
all_evaluated ps made (name ∷ names) answers e =
    rw (none-evaluated ps made name answers e) (all_evaluated ps made names answers e)

pub none_made : (ps : List Property) (made : List Evaluation) (names : Names) (answers : List StepAnswer)
    → has_dynamic ps ≡ false → made ≡ made_up_to ps made names answers
none_made ps made [] answers e = refl
none_made ps made (name ∷ names) answers e =
    rw (none-evaluated ps made name answers e) (none_made ps made names answers e)

pub nothing_asked : (ps : List Property) (made : List Evaluation) (names : Names) (answers : List StepAnswer)
    (dynamic : Bool) → dynamic ≡ has_dynamic ps → dynamic ≡ false → evaluate_names ps made names answers ≡ Ok (made, answers)
nothing_asked ps made names answers dynamic is e = all_evaluated ps made names answers (sym is ∙ e)

pub nothing_made : (ps : List Property) (made : List Evaluation) (names : Names) (answers : List StepAnswer)
    (dynamic : Bool) → dynamic ≡ has_dynamic ps → dynamic ≡ false → made ≡ made_up_to ps made names answers
nothing_made ps made names answers dynamic is e = none_made ps made names answers (sym is ∙ e)

pub ruleset no_evaluations = (nothing_asked, nothing_made)
