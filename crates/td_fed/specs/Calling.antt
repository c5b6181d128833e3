-- What a question comes to that no trader of the group answers: the item that shows it, its answer, and the calls of
-- peers that were made (OMG's Trading Object Service, interfaces Lookup, query, and DynamicPropEval, evalDP).
use Rattle.std.specs.Prelude.{◌≡◌, ℕ, false, List, [], ◌∷◌, ◌++◌, None, Some}
use Rattle.td_typecode.specs.declared.code.Any.{Any}
use Rattle.td_typecode.specs.declared.code.TypeCode.{TypeCode}
use Rattle.td_typecode.specs.declared.reference.Ior.{Ior}
use Rattle.td_ior.specs.Profiles.{iiop_of}
use Rattle.td_ior.specs.declared.profile.Iiop.{Iiop}
use Rattle.td_ops.specs.declared.call.Query.{Query}
use Rattle.td_walk.specs.Peering.{Exchange, HasSmallOffers, Querying, Evaluating, is_memory}
use Rattle.td_walk.specs.Peering.{Answered as Replied, Evaluated as Valued, Failed as Missed}
use Rattle.td_walk.specs.declared.answer.Next.{Next}
use Rattle.td_walk.specs.declared.answer.Next.TheVariants.{Evaluate, Forward}
use Rattle.td_walk.specs.declared.answer.StepAnswer.{StepAnswer}
use Rattle.td_walk.specs.declared.answer.StepAnswer.TheVariants as answer
use Rattle.td_walk.specs.declared.answer.SubAnswer.{SubAnswer}
use Rattle.td_walk.specs.declared.fault.PeerFault.{PeerFault}
use Rattle.td_walk.specs.declared.trace.TraceItem.{TraceItem}
use Rattle.td_walk.specs.declared.trace.TraceItem.TheVariants as item

-- A trader outside replied, with offers of at most 6 MiB each, or the call failed; a dynamic property has a value, the
-- call failed, or its evaluator has no IIOP profile and isn't called. A call that ran out of memory comes to no answer.
pub data AsksOutside (calls : List Exchange) : Next → StepAnswer → TraceItem → List Exchange
    → Type 0 where
  replied : (target : Ior) (q : Query) (a : SubAnswer) → HasSmallOffers a
      → AsksOutside calls (Forward target q) (answer.Offers a) (item.Outside a)
      (calls ++ record { call = Querying target q; gave = Replied a } ∷ [])
  unreplied : (target : Ior) (q : Query) (f : PeerFault) → is_memory f ≡ false
      → AsksOutside calls (Forward target q) answer.Failed (item.Failed f)
      (calls ++ record { call = Querying target q; gave = Missed f } ∷ [])
  valued : (e : Ior) (name : List ℕ) (returned : TypeCode) (extra value : Any) (p : Iiop)
      → iiop_of e ≡ Some p
      → AsksOutside calls (Evaluate e name returned extra) (answer.Evaluated value)
      (item.Evaluated value) (calls ++ record {
        call = Evaluating e name returned extra;
        gave = Valued value;
      } ∷ [])
  unvalued : (e : Ior) (name : List ℕ) (returned : TypeCode) (extra : Any) (p : Iiop)
      (f : PeerFault)
      → iiop_of e ≡ Some p → is_memory f ≡ false
      → AsksOutside calls (Evaluate e name returned extra) answer.Failed (item.Failed f)
      (calls ++ record { call = Evaluating e name returned extra; gave = Missed f } ∷ [])
  unreached : (e : Ior) (name : List ℕ) (returned : TypeCode) (extra : Any) → iiop_of e ≡ None
      → AsksOutside calls (Evaluate e name returned extra) answer.Failed item.Unreachable calls

-- and the item came behind the others
pub record IsPeered (calls : List Exchange) (question : Next) (r : StepAnswer)
    (before after : List TraceItem) (now : List Exchange) : Type 0 where
  pub head : TraceItem
  pub notes : after ≡ before ++ head ∷ []
  pub peered : AsksOutside calls question r head now

-- how far a question came that ran out of memory: nothing was done, or it came to this, and its answer was lost
pub data IsPeeredSoFar (calls : List Exchange) (question : Next)
    (before : List TraceItem) : (after : List TraceItem)
    → (now : List Exchange) → Type 0 where
  not_called : IsPeeredSoFar calls question before before calls
  called : (r : StepAnswer) {after : List TraceItem} {now : List Exchange}
      → IsPeered calls question r before after now → IsPeeredSoFar calls question before after now
