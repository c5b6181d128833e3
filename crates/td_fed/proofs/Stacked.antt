-- The innermost of the open visits: what it asks, what it takes, and what becomes of the others when it ends.
use Rattle.std.proofs.Common.{◌≡◌, ℕ, ◌+◌, ◌^◌, ◌<◌, List, [], ◌∷◌, ◌++◌, length, Option, None, Some, Result, Ok, Err}
use Rattle.std.proofs.Common.{IfOk, OnOk, refl, sym, ap, subst, ◌∙◌, length-append, arith}
use Rattle.td_cdr.specs.declared.memory.Memory.{Memory as OutOfMemory}
use Rattle.td_typecode.specs.declared.reference.Ior.{Ior}
use Rattle.td_fed.specs.Entering.{IsAsked, IsEnd}
use Rattle.td_fed.specs.Entering.{AsksQuestion as Comes, answered as has-answer, begun as has-begun}
use Rattle.td_fed.specs.Turning.{HasQuestion, Closes, StepsWalk, IsWalkTurn, TakesAnswer, answered, begun, ended}
use Rattle.td_fed.specs.declared.outside.Asking.{Asking}
use Rattle.td_fed.specs.declared.outside.Asking.TheVariants as asking
use Rattle.td_ops.specs.declared.call.Query.{Query}
use Rattle.td_visit.specs.Standing.{FrameState as Frame}
use Rattle.td_walk.specs.declared.answer.Next.{Next}
use Rattle.td_walk.specs.declared.answer.StepAnswer.{StepAnswer}
use Rattle.td_walk.specs.declared.trace.TraceItem.{TraceItem}
use Rattle.td_walk.specs.declared.trace.TraceItem.TheVariants as item
use Rattle.td_walk.specs.declared.trace.Visit.{Visit}
use Rattle.td_query_walk.specs.Walks.{WalkState, Start}

-- there is one, where a question is asked
pub one-asks : (stack : List Frame) (q : Next) → HasQuestion stack q → 0 < length stack
one-asks stack q a =
    let n = ap (λ (fs : List Frame). length fs) a.is ∙ length-append a.waiting (a.top ∷ []) in
    omega (arith, n)

module _ {World : Type 0} (Begins : World → (trader : ℕ) → Query → Start → World → Type 0)
    (inside : World → (target : Ior) → Option ℕ) (s : WalkState World) where
  -- ---- the innermost visit ends

  last-so : (u : WalkState World) (stack after : List Frame) (before now : List TraceItem) (v : Visit)
      → Closes s stack (Some v) after u → now ≡ before ++ item.Leave ∷ []
      → IsWalkTurn Begins inside s stack (Some v) after before now u
  last-so u stack after before now v c noted = record {
    items = item.Leave ∷ [];
    notes = noted;
    turns = record {
      top = c.top;
      is = c.is ∙ ap (λ (fs : List Frame). fs ++ c.top ∷ []) c.returns.0;
      items_are = refl;
      end = subst (λ (x : Visit). IsEnd s c.top x u) (sym c.returns.1) c.end;
    };
  }

  pub turn-closes : (u : WalkState World) (stack after : List Frame) (before now : List TraceItem)
      (r : Result (Option Visit) OutOfMemory) → IfOk r (λ v. Closes s stack v after u)
      → OnOk r (now ≡ before ++ item.Leave ∷ []) → IfOk r (λ v. IsWalkTurn Begins inside s stack v after before now u)
  turn-closes u stack after before now (Ok (Some v)) c noted = last-so u stack after before now v c noted
  turn-closes u stack after before now (Ok None) c noted = record {
    items = item.Leave ∷ [];
    notes = noted;
    turns = ended c.waiting c.top c.visit c.is c.end c.returns;
  }
  turn-closes u stack after before now (Err m) c noted = tt

  -- ---- its question is asked

  module _ (stack : List Frame) (question : Next) (asks : HasQuestion stack question) where
    abbrev TurnOf : Asking → List TraceItem → WalkState World → Type 0
    TurnOf (asking.Answered r) t u = (after : List Frame) → TakesAnswer stack r after → StepsWalk Begins inside s stack after t u
    TurnOf (asking.Open f) t u =
        f.local.attributes.max_hop_count < 2 ^ 32 → StepsWalk Begins inside s stack (stack ++ f ∷ []) t u

    turn-of : (a : Asking) (t : List TraceItem) (u : WalkState World) → Comes Begins inside s question a t u → TurnOf a t u
    turn-of a t u (has-answer step) = λ after takes. answered question _ asks step takes
    turn-of a t u (has-begun is inner b o) = λ few. begun _ _ _ _ _ _ _ (subst (HasQuestion stack) is asks) inner b o few

    pub turn-answered : {X : Type 0} (r : StepAnswer) (u : WalkState World) (before now : List TraceItem)
        (after : List Frame) (res : Result X OutOfMemory)
        → IsAsked Begins inside s question (asking.Answered r) before now u
        → OnOk res (TakesAnswer stack r after) → OnOk res (IsWalkTurn Begins inside s stack None after before now u)
    turn-answered r u before now after (Ok x) a takes = record {
      items = a.items;
      notes = a.notes;
      turns = turn-of (asking.Answered r) a.items u a.asks after takes;
    }
    turn-answered r u before now after (Err m) a takes = tt

    open-so : (f : Frame) (u : WalkState World) (before now : List TraceItem) (after : List Frame)
        → IsAsked Begins inside s question (asking.Open f) before now u → f.local.attributes.max_hop_count < 2 ^ 32
        → after ≡ stack ++ f ∷ [] → IsWalkTurn Begins inside s stack None after before now u
    open-so f u before now after a few put = record {
      items = a.items;
      notes = a.notes;
      turns = subst (λ (fs : List Frame). StepsWalk Begins inside s stack fs a.items u) (sym put)
          (turn-of (asking.Open f) a.items u a.asks few);
    }

    pub turn-opened : {X : Type 0} (f : Frame) (u : WalkState World) (before now : List TraceItem) (after : List Frame)
        (res : Result X OutOfMemory) → IsAsked Begins inside s question (asking.Open f) before now u
        → f.local.attributes.max_hop_count < 2 ^ 32 → OnOk res (after ≡ stack ++ f ∷ [])
        → OnOk res (IsWalkTurn Begins inside s stack None after before now u)
    turn-opened f u before now after (Ok x) a few put = open-so f u before now after a few put
    turn-opened f u before now after (Err m) a few put = tt
