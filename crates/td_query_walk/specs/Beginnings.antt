-- What a trace shows of a query that ended when out of memory: the beginning of a walk (OMG's Trading Object Service,
-- interface Lookup, query, and "Link Follow Behavior"; CORBA, the system exception NO_MEMORY).
use Rattle.std.specs.Prelude.{◌≡◌, ℕ, List, [], ◌∷◌, ◌++◌, Option, Some}
use Rattle.td_typecode.specs.declared.reference.Ior.{Ior}
use Rattle.td_ops.specs.declared.call.Query.{Query}
use Rattle.td_store.specs.declared.local.Local.{Local}
use Rattle.td_walk.specs.Visits.{next_of}
use Rattle.td_walk.specs.declared.answer.Next.TheVariants.{Forward}
use Rattle.td_walk.specs.declared.answer.StepAnswer.{StepAnswer}
use Rattle.td_walk.specs.declared.trace.TraceItem.{TraceItem}
use Rattle.td_walk.specs.declared.trace.Visit.{Visit}
use Rattle.td_query_walk.specs.Walks.{WalkState, OpensWith, Start, Step, Walk, with_world}

-- `Begins` and `inside` are a walk's. By `Watches` others acted on a trader before the query came to begin there.
mutual
  -- The items are the beginning of a visit of the trader with this query, and of all that it goes on to: the query
  -- didn't begin there; or the visit is whole, as one that is refused or a repeat is; or it began, and went on so far.
  pub data WalkBegins {World : Type 0}
      (Begins : World → (trader : ℕ) → Query → Start → World → Type 0)
      (Watches : World → (trader : ℕ) → World → Type 0)
      (inside : World → (target : Ior) → Option ℕ) : WalkState World → (trader : ℕ) → Query
      → List TraceItem → WalkState World → Type 0 where
    unbegun : {s : WalkState World} {k : ℕ} {q : Query} → WalkBegins Begins Watches inside s k q []
        s
    watched : {s : WalkState World} {k : ℕ} {q : Query} {w : World} → Watches s.world k w
        → WalkBegins Begins Watches inside s k q [] (with_world s w)
    whole : {s : WalkState World} {k : ℕ} {q : Query} {t : List TraceItem} {v : Visit}
        {u : WalkState World}
        → Walk Begins inside s k q t v u → WalkBegins Begins Watches inside s k q t u
    unended : {s : WalkState World} {k : ℕ} {q : Query} {start : Start} {w : World} {l : Local}
        {head : TraceItem}
        {t : List TraceItem} {u : WalkState World} → Begins s.world k q start w
        → OpensWith k l start head
        → StepsBegin Begins Watches inside (with_world s w) l [] t u
        → WalkBegins Begins Watches inside s k q (head ∷ t) u

  -- From these answers on so many next questions were asked: none more; or one was answered, and others behind it; or
  -- one goes to a trader of the group, and the walk from there has begun so.
  pub data StepsBegin {World : Type 0}
      (Begins : World → (trader : ℕ) → Query → Start → World → Type 0)
      (Watches : World → (trader : ℕ) → World → Type 0)
      (inside : World → (target : Ior) → Option ℕ) : WalkState World → Local → List StepAnswer
      → List TraceItem → WalkState World → Type 0 where
    no_more : {s : WalkState World} {l : Local} {answers : List StepAnswer}
        → StepsBegin Begins Watches inside s l answers [] s
    one_more : {s : WalkState World} {l : Local} {answers : List StepAnswer} {t : List TraceItem}
        {r : StepAnswer}
        {m : WalkState World} {ts : List TraceItem} {u : WalkState World}
        → Step Begins inside s (next_of l answers) t r m
        → StepsBegin Begins Watches inside m l (answers ++ r ∷ []) ts u
        → StepsBegin Begins Watches inside s l answers (t ++ ts) u
    visiting : {s : WalkState World} {l : Local} {answers : List StepAnswer} {target : Ior}
        {q : Query}
        {k : ℕ}
        {t : List TraceItem} {u : WalkState World} → next_of l answers ≡ Forward target q
        → inside s.world target ≡ Some k → WalkBegins Begins Watches inside s k q t u
        → StepsBegin Begins Watches inside s l answers t u
