-- What a visit was told, read off the list of calls: its questions in order, and what came of each.
use Rattle.std.specs.Prelude.{◌≡◌, ℕ, Bool, true, false, List, [], ◌∷◌, ◌++◌, slice_get, Option, Some, None, is_some}
use Rattle.td_typecode.specs.declared.code.Any.{Any}
use Rattle.td_typecode.specs.declared.code.TypeCode.{TypeCode}
use Rattle.td_typecode.specs.declared.reference.Ior.{Ior}
use Rattle.td_ior.specs.Profiles.{iiop_of}
use Rattle.td_net.specs.Supplies.{words_from}
use Rattle.td_net.specs.Worlds.{value_step}
use Rattle.td_net.specs.declared.call.Call.{Call}
use Rattle.td_net.specs.declared.call.Stage.TheVariants.{Ended}
use Rattle.td_net.specs.declared.call.QuestionStep.{QuestionStep}
use Rattle.td_net.specs.declared.call.QuestionStep.TheVariants as step
use Rattle.td_net_laws.specs.Arrivals.{Way, Nowhere, Along, Here, path_at, search_at}
use Rattle.td_ops.specs.declared.call.Query.{Query}
use Rattle.td_store.specs.declared.local.Local.{Local}
use Rattle.td_trader.specs.PlainTraders.{PlainTrader}
use Rattle.td_walk.specs.Answers.{IsAnswer}
use Rattle.td_walk.specs.Visits.{next_of}
use Rattle.td_walk.specs.declared.answer.Next.TheVariants.{Done, Evaluate, Forward}
use Rattle.td_walk.specs.declared.answer.StepAnswer.{StepAnswer}
use Rattle.td_walk.specs.declared.answer.StepAnswer.TheVariants as answer
use Rattle.td_walk.specs.declared.answer.SubAnswer.{SubAnswer}
use Rattle.td_walk.specs.declared.trace.Visit.{Visit}
use Rattle.td_query_walk.specs.Walks.{answer_in, no_offers}

-- the call d is what the call c asked: this query, of this trader
pub record IsSubCall (calls : List Call) (c target : ℕ) (q : Query) (d : ℕ) : Type 0 where
  pub call : Call
  pub is : slice_get calls d ≡ Some call
  pub at : call.target ≡ target
  pub asks : call.query ≡ q
  pub by : call.caller ≡ Some c

-- The questions of the visit l of the call c, in order, with what came of each. `inside` is the number of the trader
-- that a target is, and Sub says what a sub-call gives. A call keeps the steps; the answers follow from them.
pub data HasSteps (calls : List Call) (inside : Ior → Option ℕ) (c : ℕ) (l : Local)
    (Sub : ℕ → SubAnswer → Type 0) : List StepAnswer → List QuestionStep → Type 0 where
  nothing_yet : HasSteps calls inside c l Sub [] []
  -- a target outside gives nothing
  outside : {rs : List StepAnswer} {ss : List QuestionStep} {target : Ior} {q : Query}
      → HasSteps calls inside c l Sub rs ss → next_of l rs ≡ Forward target q → inside target ≡ None
      → HasSteps calls inside c l Sub (rs ++ answer.Failed ∷ []) (ss ++ step.Outside ∷ [])
  -- and so does an evaluator without an IIOP profile
  unreachable : {rs : List StepAnswer} {ss : List QuestionStep} {e : Ior} {name : List ℕ}
      {returned : TypeCode} {extra : Any}
      → HasSteps calls inside c l Sub rs ss → next_of l rs ≡ Evaluate e name returned extra
      → is_some (iiop_of e) ≡ false
      → HasSteps calls inside c l Sub (rs ++ answer.Failed ∷ []) (ss ++ step.Unreachable ∷ [])
  unvalued : {rs : List StepAnswer} {ss : List QuestionStep} {e : Ior} {name : List ℕ}
      {returned : TypeCode}
      {extra : Any}
      → HasSteps calls inside c l Sub rs ss → next_of l rs ≡ Evaluate e name returned extra
      → is_some (iiop_of e) ≡ true
      → HasSteps calls inside c l Sub (rs ++ answer.Failed ∷ []) (ss ++ step.Unvalued ∷ [])
  valued : {rs : List StepAnswer} {ss : List QuestionStep} {e : Ior} {name : List ℕ}
      {returned : TypeCode}
      {extra : Any}
      → (v : Any) → HasSteps calls inside c l Sub rs ss → next_of l rs
      ≡ Evaluate e name returned extra
      → is_some (iiop_of e) ≡ true
      → HasSteps calls inside c l Sub (rs ++ answer.Evaluated v ∷ []) (ss ++ value_step (Some v)
      ∷ [])
  -- a sub-call that was lost gives nothing
  lost : {rs : List StepAnswer} {ss : List QuestionStep} {target : Ior} {k : ℕ} {q : Query} {d : ℕ}
      → HasSteps calls inside c l Sub rs ss → next_of l rs ≡ Forward target q → inside target
      ≡ Some k
      → IsSubCall calls c k q d → HasSteps calls inside c l Sub (rs ++ answer.Failed ∷ [])
      (ss ++ step.Lost d ∷ [])
  given : {rs : List StepAnswer} {ss : List QuestionStep} {target : Ior} {k : ℕ} {q : Query} {d : ℕ}
      {a : SubAnswer}
      → HasSteps calls inside c l Sub rs ss → next_of l rs ≡ Forward target q → inside target
      ≡ Some k
      → IsSubCall calls c k q d → Sub d a
      → HasSteps calls inside c l Sub (rs ++ answer.Offers a ∷ []) (ss ++ step.Given d ∷ [])

-- a call has ended, and this is what it gives
pub record EndedAs (calls : List Call) (d : ℕ) (a : SubAnswer) : Type 0 where
  pub call : Call
  pub visit : Visit
  pub is : slice_get calls d ≡ Some call
  pub ended : call.stage ≡ Ended visit
  pub gives : a ≡ answer_in visit

abbrev pub Led : List Call → (inside : Ior → Option ℕ) → (c : ℕ) → Local → List StepAnswer
    → List QuestionStep → Type 0
Led calls inside c l = HasSteps calls inside c l (EndedAs calls)

-- all questions of a visit were asked, and its answer is that, by the words that were to come at its end
pub record AsksEach (calls : List Call) (inside : Ior → Option ℕ) (c : ℕ)
    (Sub : ℕ → SubAnswer → Type 0) (words : List ℕ) (k : Call) (a : SubAnswer)
    (l : Local) : Type 0 where
  pub answers : List StepAnswer
  pub content : HasSteps calls inside c l Sub answers k.steps
  pub none_left : next_of l answers ≡ Done
  pub is_answer : IsAnswer l answers (words_from words k.drawn) a

-- What a call gives that came so to the trader: nothing where it was refused or was a repeat, else the answer of its
-- questions.
abbrev pub GivesAnswer : List Call → (inside : Ior → Option ℕ) → (c : ℕ)
    → (Sub : ℕ → SubAnswer → Type 0)
    → (words : List ℕ) → Call → PlainTrader → SubAnswer → Way → (searches : Bool) → Type 0
GivesAnswer calls inside c Sub words k t a Nowhere s = a ≡ no_offers
GivesAnswer calls inside c Sub words k t a (Along link) s = AsksEach calls inside c Sub words k a
    (path_at t link k.query)
GivesAnswer calls inside c Sub words k t a Here false = a ≡ no_offers
GivesAnswer calls inside c Sub words k t a Here true = AsksEach calls inside c Sub words k a
    (search_at t k.query)
