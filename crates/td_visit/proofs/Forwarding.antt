-- Other traders are asked one after the other, as long as offers are wanted, each time from the place where the last
-- question stands.
use Rattle.std.proofs.Common.{◌≡◌, ℕ, zero, suc, ◌+◌, List, [], ◌∷◌, ◌++◌, take, drop, map, Option, Some, None, Ok, Err}
use Rattle.std.proofs.Common.{refl, sym, ap, ◌∙◌, append_assoc, append-nil, arith}
use Rattle.std.proofs.lemmas.List.{take-append-drop}
use Rattle.td_cdr.specs.Format.{◌>>=◌}
use Rattle.td_visit.specs.Resuming.{ResumesWith, behind, given_by}
use Rattle.td_walk.specs.Visits.{AnswersRead, Step, less, take_step, forward_steps, sub_answer}
use Rattle.td_walk.specs.declared.answer.Next.{Next}
use Rattle.td_walk.specs.declared.answer.StepAnswer.{StepAnswer}
use Rattle.td_walk.specs.declared.answer.SubAnswer.{SubAnswer}

-- ---- one answer more

one-more : (answers ys : List StepAnswer) (n : ℕ) (a : StepAnswer) → drop n answers ≡ a ∷ ys
    → take (n + 1) answers ≡ take n answers ++ a ∷ []
one-more [] ys n a e = absurd (none n e)
  where
    none : (k : ℕ) → drop k (let xs : List StepAnswer = [] in xs) ≡ a ∷ ys → ⊥
    none zero e = absurd cc
    none (suc k) e = absurd cc
one-more (b ∷ answers) ys zero a e = let same : b ≡ a = cc in ap (λ (x : StepAnswer). x ∷ []) same
one-more (b ∷ answers) ys (suc n) a e =
    let more : suc n + 1 ≡ suc (n + 1) = omega arith in
    ap (λ (k : ℕ). take k (b ∷ answers)) more ∙ ap (λ (xs : List StepAnswer). b ∷ xs) (one-more answers ys n a e)

content-more : (xs : List StepAnswer) (a : StepAnswer) → map sub_answer (xs ++ a ∷ []) ≡ map sub_answer xs ++ sub_answer a ∷ []
content-more [] a = refl
content-more (x ∷ xs) a = ap (λ (gs : List SubAnswer). sub_answer x ∷ gs) (content-more xs a)

behind-more : (given : List SubAnswer) (a : SubAnswer) (r : AnswersRead (List SubAnswer))
    → behind given (r >>= λ s. Ok (a ∷ s.0, s.1)) ≡ behind (given ++ a ∷ []) r
behind-more given a (Ok s) =
    ap (λ (gs : List SubAnswer). let r : AnswersRead (List SubAnswer) = Ok (gs, s.1) in r)
    (sym (append_assoc given (a ∷ []) s.0))
behind-more given a (Err q) = refl

-- ---- one step

module _ (first : Option ℕ) (all : List Step) (answers : List StepAnswer) (given : ℕ) (wanted : Option ℕ) (step : Step)
    (left : List Step) (h : ResumesWith first all answers given wanted (step ∷ left)) where
  abbrev goes : Option Next → List StepAnswer → AnswersRead (List SubAnswer)
  goes o rest = take_step o (λ a. forward_steps (less wanted a) left) (forward_steps wanted left) rest

  -- it asks nobody
  pub skips : step wanted ≡ None → ResumesWith first all answers given wanted left
  skips none rest = h rest ∙ ap (λ (o : Option Next). behind (given_by given answers) (goes o rest)) none

  -- its answer is there
  pub passes : (q : Next) (a : StepAnswer) (ys : List StepAnswer) → step wanted ≡ Some q → drop given answers ≡ a ∷ ys
      → ResumesWith first all answers (given + 1) (less wanted (sub_answer a)) left
  passes q a ys some at rest =
      let more : take (given + 1) answers ≡ take given answers ++ a ∷ [] = one-more answers ys given a at in
      let content : given_by (given + 1) answers ≡ given_by given answers ++ sub_answer a ∷ [] =
      ap (map sub_answer) more ∙ content-more (take given answers) a in
      ap (λ (xs : List StepAnswer). forward_steps first all (xs ++ rest)) more
      ∙ ap (forward_steps first all) (append_assoc (take given answers) (a ∷ []) rest)
      ∙ h (a ∷ rest)
      ∙ ap (λ (o : Option Next). behind (given_by given answers) (goes o (a ∷ rest))) some
      ∙ behind-more (given_by given answers) (sub_answer a) (forward_steps (less wanted (sub_answer a)) left rest)
      ∙ sym (ap (λ (gs : List SubAnswer). behind gs (forward_steps (less wanted (sub_answer a)) left rest)) content)

  -- its question stands
  pub stops : (q : Next) → step wanted ≡ Some q → drop given answers ≡ [] → forward_steps first all answers ≡ Err q
  stops q some at =
      sym (ap (forward_steps first all) (take-append-drop given answers))
      ∙ ap (λ (xs : List StepAnswer). forward_steps first all (take given answers ++ xs)) at
      ∙ h []
      ∙ ap (λ (o : Option Next). behind (given_by given answers) (goes o [])) some

-- no step is left
pub ends : (first : Option ℕ) (all : List Step) (answers : List StepAnswer) (given : ℕ) (wanted : Option ℕ)
    → ResumesWith first all answers given wanted []
    → forward_steps first all answers ≡ Ok (given_by given answers, drop given answers)
ends first all answers given wanted h =
    sym (ap (forward_steps first all) (take-append-drop given answers))
    ∙ h (drop given answers)
    ∙ ap (λ (gs : List SubAnswer). let r : AnswersRead (List SubAnswer) = Ok (gs, drop given answers) in r)
    (append-nil (given_by given answers))
