-- Worked examples of walks, from query to answer (OMG's Trading Object Service, "Link Follow Behavior", starting_trader
-- and interface DynamicPropEval).
use Rattle.std.specs.Prelude.{◌≡◌, ℕ, zero, suc, true, List, [], ◌∷◌, Option, None, Some, codes}
use Rattle.td_typecode.specs.declared.code.Any.{Any}
use Rattle.td_typecode.specs.declared.code.TypeCode.TheVariants as code
use Rattle.td_typecode.specs.declared.code.Value.TheVariants as value
use Rattle.td_typecode.specs.declared.reference.Ior.{Ior}
use Rattle.td_ior.specs.Profiles.{iiop_of}
use Rattle.td_ior.specs.declared.profile.Iiop.{Iiop}
use Rattle.td_ops.specs.declared.call.Query.{Query}
use Rattle.td_ops.specs.declared.outcome.Outcome.{Outcome}
use Rattle.td_store.specs.Examples.{dynamic_code, nobody, nothing_more, offer, printer, usual}
use Rattle.td_store.specs.declared.local.Local.{Local}
use Rattle.td_value.specs.declared.enumerations.FollowOption.TheVariants.{Always}
use Rattle.td_value.specs.declared.structures.DynamicProp.{DynamicProp}
use Rattle.td_value.specs.declared.structures.Property.{Property}
use Rattle.td_walk.specs.Peering.{Exchange, PeerAnswer, PeerCall, Querying, Evaluating}
use Rattle.td_walk.specs.Peering.{Answered as Replied, Evaluated as Valued, Failed as Missed}
use Rattle.td_walk.specs.Resolving.{may_stand}
use Rattle.td_walk.specs.SubQueries.{link_query, path_query}
use Rattle.td_walk.specs.declared.answer.SubAnswer.{SubAnswer}
use Rattle.td_walk.specs.declared.fault.PeerFault.TheVariants as fault
use Rattle.td_walk.specs.declared.trace.TraceItem.{TraceItem}
use Rattle.td_walk.specs.declared.trace.TraceItem.TheVariants as item
use Rattle.td_walk.specs.declared.trace.Visit.{Visit}
use Rattle.td_walk.specs.declared.trace.Visit.TheVariants as visit
use Rattle.td_query_walk.specs.Examples.{along, example_query, elsewhere, given_there, link, over, plain, search}
use Rattle.td_query_walk.specs.WalkLaws.{BeginsIn, Group}
use Rattle.td_query_walk.specs.Walks.{WalkState, Start, Refused, Repeat, Search, Path, Walk, no_offers}

-- ---- groups of two traders, whose world counts the queries that began

abbrev pub begins_so : (first second : Start) → (trader : ℕ) → Start
begins_so first second zero = first
begins_so first second (suc trader) = second

abbrev pub group : (first second : Start) → (world : ℕ) → (trader : ℕ) → Query → Start × ℕ
group first second world trader q = (begins_so first second trader, suc world)

-- each query begins alike
abbrev pub alike : Start → Group
alike start = group start start

-- no target is a trader's of the group
abbrev pub nowhere : (world : ℕ) → (target : Ior) → Option ℕ
nowhere world target = None

-- each target is the second trader's
abbrev pub at_second : (world : ℕ) → (target : Ior) → Option ℕ
at_second world target = Some 1

-- ---- walks

abbrev pub course : (word : ℕ → ℕ) → (world : ℕ) → List Exchange → WalkState ℕ
course word world calls = record { world = world; words = word; calls = calls }

-- the first query of all is asked of the first trader; so many queries began then, and these calls were made
abbrev pub FirstQueryGives : Group → (inside : ℕ → Ior → Option ℕ) → (word : ℕ → ℕ) → List TraceItem
    → Visit
    → (begun : ℕ) → List Exchange → Type 0
FirstQueryGives g inside word items v begun calls =
    Walk (BeginsIn g) inside (course word 0 []) 0 example_query items v (course word begun calls)

abbrev pub one_call : PeerCall → PeerAnswer → List Exchange
one_call call gave = record { call = call; gave = gave } ∷ []

-- ---- answers

-- one offer with these properties
abbrev pub one_offer : List Property → SubAnswer
one_offer properties = record {
  offers = record { reference = nobody; properties = properties } ∷ [];
  limits = [];
}

abbrev pub answers : SubAnswer → Visit
answers a = visit.Answered a usual.max_list

-- ---- a search over an offer with a dynamic property

abbrev pub content_by : (evaluator : Ior) → Property
content_by evaluator = record {
  name = codes "Queue";
  value = record {
    code = dynamic_code;
    value = value.Struct (value.ObjRef evaluator ∷ value.Code code.ULong
        ∷ value.AnyValue nothing_more ∷ []);
  };
}

abbrev pub content : (evaluator : Ior) → DynamicProp
content evaluator = record {
  eval_if = evaluator;
  returned_type = code.ULong;
  extra_info = nothing_more;
}

abbrev pub over_queue : (evaluator : Ior) → Local
over_queue evaluator = search (offer 3 printer 1 (content_by evaluator ∷ []) ∷ []) []

abbrev pub queue : Any → Property
queue v = record { name = codes "Queue"; value = v }

abbrev pub evaluate_queue : (evaluator : Ior) → PeerCall
evaluate_queue evaluator = Evaluating evaluator (codes "Queue") code.ULong nothing_more

pub record WorkedWalks (word : ℕ → ℕ) : Type 0 where
  -- a query that is refused, and one whose identifier is remembered
  pub refusal : (o : Outcome)
      → FirstQueryGives (alike (Refused 3 o)) nowhere word (item.Refused 0 3 ∷ [])
      (visit.Refused o) 1 []
  pub repetition : FirstQueryGives (alike (Repeat 3 7)) nowhere word (item.Repeat 0 3 7 ∷ [])
      (visit.Answered no_offers 0) 1 []
  -- along a path to a trader outside, whose answer it is
  pub on_the_way : FirstQueryGives (alike (Path along)) nowhere word
      (item.Path 0 0 ∷ item.Outside given_there ∷ item.Leave ∷ []) (answers given_there) 1
      (one_call (Querying elsewhere (path_query along)) (Replied given_there))
  -- over a link to the second trader, which finds nothing either
  pub within : FirstQueryGives (group (Search (over Always [])) (Search (search [] []))) at_second
      word
      (item.Search 0 0 1 ∷ item.Search 1 0 1 ∷ item.Leave ∷ item.Leave ∷ []) (answers no_offers) 2
      []
  -- over a link to a trader outside, which can't be reached: what matched here is left
  pub without_answer : FirstQueryGives (alike (Search (over Always (plain ∷ [])))) nowhere word
      (item.Search 0 0 1 ∷ item.Failed fault.Wire ∷ item.Leave ∷ []) (answers (one_offer [])) 1
      (one_call (Querying elsewhere (link_query (over Always (plain ∷ [])) (Some 999)
      (link Always))) (Missed fault.Wire))
  -- a desired property is evaluated, and its value stands in the offer
  pub evaluation : (e : Ior) (p : Iiop) (v : Any) → iiop_of e ≡ Some p → may_stand (content e) v
      ≡ true
      → FirstQueryGives (alike (Search (over_queue e))) nowhere word (item.Search 0 0 1
      ∷ item.Evaluated v
      ∷ item.Leave ∷ []) (answers (one_offer (queue v ∷ []))) 1
      (one_call (evaluate_queue e) (Valued v))
  -- where its evaluation fails, and where its evaluator has no profile and isn't called, it is absent
  pub failed_evaluation : (e : Ior) (p : Iiop) → iiop_of e ≡ Some p
      → FirstQueryGives (alike (Search (over_queue e))) nowhere word
      (item.Search 0 0 1 ∷ item.Failed fault.Exception ∷ item.Leave ∷ []) (answers (one_offer [])) 1
      (one_call (evaluate_queue e) (Missed fault.Exception))
  pub without_profile : FirstQueryGives (alike (Search (over_queue nobody))) nowhere word
      (item.Search 0 0 1 ∷ item.Unreachable ∷ item.Leave ∷ []) (answers (one_offer [])) 1 []
