-- The walk of a query: a visit with all that it goes on to, as one relation over the finished trace (OMG's Trading
-- Object Service, interface Lookup, query, and "Link Follow Behavior").
use Rattle.std.specs.Prelude.{◌≡◌, ℕ, false, List, [], ◌∷◌, ◌++◌, Option, None, Some}
use Rattle.td_typecode.specs.declared.code.Any.{Any}
use Rattle.td_typecode.specs.declared.code.TypeCode.{TypeCode}
use Rattle.td_typecode.specs.declared.reference.Ior.{Ior}
use Rattle.td_ior.specs.Profiles.{iiop_of}
use Rattle.td_ior.specs.declared.profile.Iiop.{Iiop}
use Rattle.td_ops.specs.declared.call.Query.{Query}
use Rattle.td_ops.specs.declared.outcome.Outcome.{Outcome}
use Rattle.td_store.specs.declared.local.Local.{Local}
use Rattle.td_walk.specs.Answers.{HasDrawn, IsAnswer}
use Rattle.td_walk.specs.Peering.{Exchange, PeerAnswer, HasSmallOffers, PeerCall, Querying, Evaluating, is_memory}
use Rattle.td_walk.specs.Peering.{Answered as Replied, Evaluated as Valued, Failed as Missed}
use Rattle.td_walk.specs.Visits.{next_of}
use Rattle.td_walk.specs.declared.answer.Next.{Next}
use Rattle.td_walk.specs.declared.answer.Next.TheVariants.{Done, Evaluate, Forward}
use Rattle.td_walk.specs.declared.answer.StepAnswer.{StepAnswer}
use Rattle.td_walk.specs.declared.answer.StepAnswer.TheVariants as answer
use Rattle.td_walk.specs.declared.answer.SubAnswer.{SubAnswer}
use Rattle.td_walk.specs.declared.fault.PeerFault.{PeerFault}
use Rattle.td_walk.specs.declared.trace.TraceItem.{TraceItem}
use Rattle.td_walk.specs.declared.trace.TraceItem.TheVariants as item
use Rattle.td_walk.specs.declared.trace.Visit.{Visit}
use Rattle.td_walk.specs.declared.trace.Visit.TheVariants as visit

-- ---- how a visit begins

-- how a query begins at a trader, with the point at which it came there
pub data Start : Type 0 where
  Refused : (point : ℕ) → Outcome → Start
  Repeat : (point : ℕ) → (mark : ℕ) → Start
  Search : Local → Start
  Path : Local → Start

-- ---- how far everything has come

-- the traders, the random words to come, and the calls that were made of peers
pub record WalkState (World : Type 0) : Type 0 where
  pub world : World
  pub words : ℕ → ℕ
  pub calls : List Exchange

abbrev pub with_world : {World : Type 0} → WalkState World → World → WalkState World
with_world s w = record s { world = w }

-- a peer was called, and gave this
abbrev pub call_peer : {World : Type 0} → WalkState World → PeerCall → PeerAnswer → WalkState World
call_peer s call gave = record s { calls = s.calls ++ record { call = call; gave = gave } ∷ [] }

-- ---- answers

abbrev pub no_offers : SubAnswer
no_offers = record { offers = []; limits = [] }

-- what a visit gives to one that asked for it: one that is refused gives nothing
abbrev pub answer_in : Visit → SubAnswer
answer_in (visit.Answered a max_list) = a
answer_in (visit.Refused o) = no_offers

-- the visit ends with this answer: no question is left, and the ranking draws its words
pub record EndsVisit {World : Type 0} (s : WalkState World) (l : Local) (answers : List StepAnswer)
    (a : SubAnswer) (u : WalkState World) : Type 0 where
  pub done : next_of l answers ≡ Done
  pub answer : IsAnswer l answers s.words a
  pub drawn : HasDrawn l answers s.words u.words
  pub world : u.world ≡ s.world
  pub calls : u.calls ≡ s.calls

-- ---- the walk

-- the item with which a visit of a trader begins that asks questions
pub data OpensWith (trader : ℕ) (l : Local) : Start → TraceItem → Type 0 where
  searching : OpensWith trader l (Search l) (item.Search trader l.point l.mark)
  passing : OpensWith trader l (Path l) (item.Path trader l.point)

-- `Begins` is how a query begins at a trader of the group, and `inside` the number of the trader whose Lookup a target
-- is, where it is one of the group's.
mutual
  -- The trace is one visit of the trader with this query, and all that it goes on to; it comes to this.
  pub data Walk {World : Type 0} (Begins : World → (trader : ℕ) → Query → Start → World → Type 0)
      (inside : World → (target : Ior) → Option ℕ) : WalkState World → (trader : ℕ) → Query
      → List TraceItem → Visit → WalkState World → Type 0 where
    refused : {s : WalkState World} {k : ℕ} {q : Query} {point : ℕ} {o : Outcome} {w : World}
        → Begins s.world k q (Refused point o) w
        → Walk Begins inside s k q (item.Refused k point ∷ []) (visit.Refused o) (with_world s w)
    repeat : {s : WalkState World} {k : ℕ} {q : Query} {point mark : ℕ} {w : World}
        → Begins s.world k q (Repeat point mark) w
        → Walk Begins inside s k q (item.Repeat k point mark ∷ []) (visit.Answered no_offers 0)
        (with_world s w)
    asking : {s : WalkState World} {k : ℕ} {q : Query} {start : Start} {w : World} {l : Local}
        {head : TraceItem}
        {t : List TraceItem} {answers : List StepAnswer} {m : WalkState World} {a : SubAnswer}
        {u : WalkState World}
        → Begins s.world k q start w → OpensWith k l start head
        → Steps Begins inside (with_world s w) l [] t answers m → EndsVisit m l answers a u
        → Walk Begins inside s k q (head ∷ t ++ item.Leave ∷ [])
        (visit.Answered a l.attributes.max_list) u

  -- From these answers on each next question is asked, until none is left.
  pub data Steps {World : Type 0} (Begins : World → (trader : ℕ) → Query → Start → World → Type 0)
      (inside : World → (target : Ior) → Option ℕ) : WalkState World → Local → List StepAnswer
      → List TraceItem → List StepAnswer → WalkState World → Type 0 where
    done : {s : WalkState World} {l : Local} {answers : List StepAnswer} → next_of l answers ≡ Done
        → Steps Begins inside s l answers [] answers s
    asked : {s : WalkState World} {l : Local} {answers : List StepAnswer} {t : List TraceItem}
        {r : StepAnswer}
        {m : WalkState World} {ts : List TraceItem} {all : List StepAnswer} {u : WalkState World}
        → Step Begins inside s (next_of l answers) t r m
        → Steps Begins inside m l (answers ++ r ∷ []) ts all u
        → Steps Begins inside s l answers (t ++ ts) all u

  -- One question, and its answer.
  pub data Step {World : Type 0} (Begins : World → (trader : ℕ) → Query → Start → World → Type 0)
      (inside : World → (target : Ior) → Option ℕ) : WalkState World → Next → List TraceItem
      → StepAnswer → WalkState World → Type 0 where
    visited : {s : WalkState World} {target : Ior} {q : Query} {k : ℕ} {t : List TraceItem}
        {v : Visit}
        {u : WalkState World}
        → inside s.world target ≡ Some k → Walk Begins inside s k q t v u
        → Step Begins inside s (Forward target q) t (answer.Offers (answer_in v)) u
    outside : {s : WalkState World} {target : Ior} {q : Query} {a : SubAnswer}
        → inside s.world target
        ≡ None
        → HasSmallOffers a → Step Begins inside s (Forward target q) (item.Outside a ∷ [])
        (answer.Offers a) (call_peer s (Querying target q) (Replied a))
    no_memory_with : {s : WalkState World} {target : Ior} {q : Query} {f : PeerFault}
        → inside s.world target ≡ None
        → is_memory f ≡ false → Step Begins inside s (Forward target q)
        (item.Failed f ∷ []) answer.Failed (call_peer s (Querying target q) (Missed f))
    evaluated : {s : WalkState World} {e : Ior} {name : List ℕ} {returned : TypeCode}
        {extra value : Any} {p : Iiop}
        → iiop_of e ≡ Some p
        → Step Begins inside s (Evaluate e name returned extra) (item.Evaluated value ∷ [])
        (answer.Evaluated value) (call_peer s (Evaluating e name returned extra) (Valued value))
    unevaluated : {s : WalkState World} {e : Ior} {name : List ℕ} {returned : TypeCode}
        {extra : Any}
        {p : Iiop}
        {f : PeerFault} → iiop_of e ≡ Some p → is_memory f ≡ false
        → Step Begins inside s (Evaluate e name returned extra) (item.Failed f ∷ []) answer.Failed
        (call_peer s (Evaluating e name returned extra) (Missed f))
    unreachable : {s : WalkState World} {e : Ior} {name : List ℕ} {returned : TypeCode}
        {extra : Any}
        → iiop_of e ≡ None
        → Step Begins inside s (Evaluate e name returned extra)
        (item.Unreachable ∷ []) answer.Failed s

-- ---- what a trace shows of the calls

-- what a peer gave, as an item shows it
abbrev pub shown_by : TraceItem → List PeerAnswer
shown_by (item.Evaluated v) = Valued v ∷ []
shown_by (item.Outside a) = Replied a ∷ []
shown_by (item.Failed f) = Missed f ∷ []
shown_by other = []

abbrev pub peer_answers : List TraceItem → List PeerAnswer
peer_answers [] = []
peer_answers (i ∷ is) = shown_by i ++ peer_answers is

abbrev pub given_in : List Exchange → List PeerAnswer
given_in [] = []
given_in (x ∷ xs) = x.gave ∷ given_in xs

-- the items show, in order, the calls that were made and what each gave
abbrev pub Asked : List TraceItem → List Exchange → Type 0
Asked items calls = given_in calls ≡ peer_answers items
