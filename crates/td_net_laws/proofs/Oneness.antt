-- A list of events leads to one world, and a call has one tree.
use Rattle.std.proofs.Common.{◌≡◌, ℕ, zero, suc, List, [], ◌∷◌, ◌++◌, map, not, slice_get, Option, Some, None, Bool}
use Rattle.std.proofs.Common.{true}
use Rattle.std.proofs.Common.{false, refl, sym, ◌∙◌, ap, subst}
use Rattle.td_typecode.specs.declared.reference.Ior.{Ior}
use Rattle.td_net.specs.Schedules.{Run, over, then}
use Rattle.td_net.specs.Supplies.{words_from}
use Rattle.td_net.specs.Worlds.{World, EventResult, Refused, Moved, Closing, end_call, Becomes, inside, step_of}
use Rattle.td_net.specs.declared.call.Call.{Call}
use Rattle.td_net.specs.declared.call.Delivery.{Delivery}
use Rattle.td_net.specs.declared.call.QuestionStep.{QuestionStep}
use Rattle.td_net.specs.declared.call.QuestionStep.TheVariants as step
use Rattle.td_net.specs.declared.event.Event.{Event}
use Rattle.td_net_laws.proofs.Below.{AnswersAreOne}
use Rattle.td_net_laws.specs.Arrivals.{Way, Nowhere, Along, Here, head_of, path_at, search_at, way_of}
use Rattle.td_net_laws.specs.Premises.{RunsAreOne, TreesAreOne}
use Rattle.td_net_laws.specs.Steps.{GivesAnswer, AsksEach, HasSteps, given, lost, nothing_yet, outside, unreachable}
use Rattle.td_net_laws.specs.Steps.{unvalued}
use Rattle.td_net_laws.specs.Steps.{valued}
use Rattle.td_net_laws.specs.Trees.{IsTree, TreeAt, TreeBy, is_visited}
use Rattle.td_store.specs.declared.local.Local.{Local}
use Rattle.td_trader.specs.PlainTraders.{PlainTrader}
use Rattle.td_walk.specs.Answers.{IsAnswer}
use Rattle.td_walk.specs.declared.answer.StepAnswer.{StepAnswer}
use Rattle.td_walk.specs.declared.answer.StepAnswer.TheVariants as answer
use Rattle.td_walk.specs.declared.answer.SubAnswer.{SubAnswer}

-- ---- the answers follow from the steps

-- what a step gives
abbrev Gives : (ℕ → SubAnswer → Type 0) → QuestionStep → StepAnswer → Type 0
Gives S step.Outside r = r ≡ answer.Failed
Gives S step.Unreachable r = r ≡ answer.Failed
Gives S step.Unvalued r = r ≡ answer.Failed
Gives S (step.Valued v) r = r ≡ answer.Evaluated v.value
Gives S (step.Lost d) r = r ≡ answer.Failed
Gives S (step.Given d) r = (a : SubAnswer) × S d a × (r ≡ answer.Offers a)

gives-one : (S : ℕ → SubAnswer → Type 0) → ((d : ℕ) (a b : SubAnswer) → S d a → S d b → a ≡ b) → (s : QuestionStep)
    (r t : StepAnswer) → Gives S s r → Gives S s t → r ≡ t
gives-one S one step.Outside r t x y = x ∙ sym y
gives-one S one step.Unreachable r t x y = x ∙ sym y
gives-one S one step.Unvalued r t x y = x ∙ sym y
gives-one S one (step.Valued v) r t x y = x ∙ sym y
gives-one S one (step.Lost d) r t x y = x ∙ sym y
gives-one S one (step.Given d) r t x y = x.2 ∙ (ap answer.Offers (one d x.0 y.0 x.1 y.1) ∙ sym y.2)

-- each step gives its answer
abbrev Each : (ℕ → SubAnswer → Type 0) → List QuestionStep → List StepAnswer → Type 0
Each S [] [] = Unit {0}
Each S [] (r ∷ rs) = ⊥
Each S (s ∷ ss) [] = ⊥
Each S (s ∷ ss) (r ∷ rs) = Gives S s r × Each S ss rs

each-more : (S : ℕ → SubAnswer → Type 0) (ss : List QuestionStep) (rs : List StepAnswer) (s : QuestionStep) (r : StepAnswer)
    → Each S ss rs → Gives S s r → Each S (ss ++ s ∷ []) (rs ++ r ∷ [])
each-more S [] [] s r e g = (g, tt)
each-more S [] (x ∷ rs) s r e g = elim e [ ]
each-more S (x ∷ ss) [] s r e g = elim e [ ]
each-more S (x ∷ ss) (y ∷ rs) s r e g = (e.0, each-more S ss rs s r e.1 g)

each-one : (S : ℕ → SubAnswer → Type 0) → ((d : ℕ) (a b : SubAnswer) → S d a → S d b → a ≡ b) → (ss : List QuestionStep)
    (rs ts : List StepAnswer) → Each S ss rs → Each S ss ts → rs ≡ ts
each-one S one [] [] [] x y = refl
each-one S one [] [] (t ∷ ts) x y = elim y [ ]
each-one S one [] (r ∷ rs) ts x y = elim x [ ]
each-one S one (s ∷ ss) [] ts x y = elim x [ ]
each-one S one (s ∷ ss) (r ∷ rs) [] x y = elim y [ ]
each-one S one (s ∷ ss) (r ∷ rs) (t ∷ ts) x y =
    ap (λ z. z ∷ rs) (gives-one S one s r t x.0 y.0) ∙ ap (λ z. t ∷ z) (each-one S one ss rs ts x.1 y.1)

content-each : {calls : List Call} {inside : Ior → Option ℕ} {c : ℕ} {l : Local} {S : ℕ → SubAnswer → Type 0}
    {rs : List StepAnswer} {ss : List QuestionStep} → HasSteps calls inside c l S rs ss → Each S ss rs
content-each nothing_yet = tt
content-each {S = S} (outside {rs = rs} {ss = ss} x is out) =
    each-more S ss rs step.Outside answer.Failed (content-each x) refl
content-each {S = S} (unreachable {rs = rs} {ss = ss} x is far) =
    each-more S ss rs step.Unreachable answer.Failed (content-each x) refl
content-each {S = S} (unvalued {rs = rs} {ss = ss} x is near) =
    each-more S ss rs step.Unvalued answer.Failed (content-each x) refl
content-each {S = S} (valued {rs = rs} {ss = ss} v x is near) =
    each-more S ss rs (step.Valued (record { marker = record {}; value = v })) (answer.Evaluated v) (content-each x) refl
content-each {S = S} (lost {rs = rs} {ss = ss} {d = d} x is at o) =
    each-more S ss rs (step.Lost d) answer.Failed (content-each x) refl
content-each {S = S} (given {rs = rs} {ss = ss} {d = d} {a = a} x is at o e) =
    each-more S ss rs (step.Given d) (answer.Offers a) (content-each x) (a, e, refl)

module _ (answers-one : AnswersAreOne) where
  becomes-one : (w : World) (t : EventResult) (u v : World) → Becomes w t u → Becomes w t v → u ≡ v
  becomes-one w (Refused f) u v x y = x ∙ sym y
  becomes-one w (Moved z) u v x y = x ∙ sym y
  becomes-one w (Closing z c k l rs ss) u v x y =
      x.2
      ∙ (ap (end_call z c k l rs ss) (answers-one l rs (words_from z.words z.drawn) x.0 y.0 x.1 y.1) ∙ sym y.2)

  pub runs-one : RunsAreOne
  runs-one w u v [] over over = refl
  runs-one w u v (e ∷ es) (then {v = x} s p) (then {v = y} t q) =
      runs-one y u v es (subst (λ z. Run z es u) (becomes-one w (step_of w e) x y s t) p) q

  asked-one : (calls : List Call) (inside : Ior → Option ℕ) (c : ℕ) (S : ℕ → SubAnswer → Type 0) (ws : List ℕ)
      (k : Call) (l : Local) → ((d : ℕ) (a b : SubAnswer) → S d a → S d b → a ≡ b) → (a b : SubAnswer)
      → AsksEach calls inside c S ws k a l → AsksEach calls inside c S ws k b l → a ≡ b
  asked-one calls inside c S ws k l one a b x y =
      let same : x.answers ≡ y.answers =
      each-one S one k.steps x.answers y.answers (content-each x.content) (content-each y.content) in
      answers-one l y.answers (words_from ws k.drawn) a b
      (subst (λ z. IsAnswer l z (words_from ws k.drawn) a) same x.is_answer) y.is_answer

  module _ (calls : List Call) (inside : Ior → Option ℕ) (ws : List ℕ) (c : ℕ) (a b : SubAnswer)
      (S : ℕ → SubAnswer → Type 0) (one : (d : ℕ) (p q : SubAnswer) → S d p → S d q → p ≡ q) where
    in_way : (k : Call) (t : PlainTrader) (w : Way) (s : Bool) → GivesAnswer calls inside c S ws k t a w s
        → GivesAnswer calls inside c S ws k t b w s → a ≡ b
    in_way k t Nowhere s p q = p ∙ sym q
    in_way k t (Along link) s p q = asked-one calls inside c S ws k (path_at t link k.query) one a b p q
    in_way k t Here false p q = p ∙ sym q
    in_way k t Here true p q = asked-one calls inside c S ws k (search_at t k.query) one a b p q

    by : (k : Call) (o : Option Delivery) → TreeBy calls inside c S ws a k o → TreeBy calls inside c S ws b k o
        → a ≡ b
    by k None p q = elim p [ ]
    by k (Some d) p q =
        in_way k d.seen.value (way_of d.seen.value k.query)
        (not (is_visited (map head_of calls) k.target k.root d.serial)) p q

    at : (o : Option Call) → TreeAt calls inside c S ws a o → TreeAt calls inside c S ws b o → a ≡ b
    at None p q = elim p [ ]
    at (Some k) p q = by k k.delivery p q

  trees-by : (f : ℕ) (calls : List Call) (inside : Ior → Option ℕ) (ws : List ℕ) (c : ℕ) (a b : SubAnswer)
      → IsTree f calls inside ws c a → IsTree f calls inside ws c b → a ≡ b
  trees-by zero calls inside ws c a b x y = elim x [ ]
  trees-by (suc f) calls inside ws c a b x y =
      at calls inside ws c a b (IsTree f calls inside ws) (λ d p q. trees-by f calls inside ws d p q)
      (slice_get calls c) x
      y

  pub trees-one : TreesAreOne
  trees-one f w c a b x y = trees-by f w.calls (inside w.traders w.home) w.words c a b x y
