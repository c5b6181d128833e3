-- What a walk gives can be written, where the traders' values and what peers gave can be.
use Rattle.std.proofs.Common.{ℕ, List, [], ◌∷◌, ◌++◌, sym, subst, arith}
use Rattle.td_cdr.specs.Sound.{sequence}
use Rattle.td_fed.proofs.Members.{Beginnings, Insides}
use Rattle.td_ops.specs.declared.call.Query.{Query}
use Rattle.td_store.specs.declared.local.Local.{Local}
use Rattle.td_trader.specs.Worlds.{View}
use Rattle.td_trader_laws.specs.WritableWorlds.{IsWritableWorld}
use Rattle.td_types.proofs.Sequences.{each-append, sequence-each, sequence-from}
use Rattle.td_value.specs.Structures.{offer}
use Rattle.td_walk.specs.Peering.{AdmitsGift, AdmitsGifts}
use Rattle.td_walk.specs.declared.answer.Next.{Next}
use Rattle.td_walk.specs.declared.answer.StepAnswer.{StepAnswer}
use Rattle.td_walk.specs.declared.trace.TraceItem.{TraceItem}
use Rattle.td_walk.specs.declared.trace.TraceItem.TheVariants as item
use Rattle.td_walk.specs.declared.trace.Visit.{Visit}
use Rattle.td_walk.specs.declared.trace.Visit.TheVariants as visit
use Rattle.td_query_walk.proofs.Walked.{shown-append}
use Rattle.td_query_walk.specs.Walks.{WalkState, OpensWith, Refused, Repeat, Start, Step, Steps, Walk, answer_in}
use Rattle.td_query_walk.specs.Walks.{peer_answers}
use Rattle.td_query_walk.specs.Walks.{asked, asking, done, evaluated, outside, passing, refused, repeat, searching}
use Rattle.td_query_walk.specs.Walks.{no_memory_with, unevaluated, unreachable, visited}
use Rattle.td_session_runs_laws.proofs.WalkingAnswers.{AreWritableSteps, IsWritableLocal, IsWritableStep, answer-writes}
use Rattle.td_session_runs_laws.proofs.WalkingItems.{each-parts}
use Rattle.td_session_runs_laws.proofs.WalkingOffers.{AreOffers}
use Rattle.td_session_runs_laws.proofs.WalkingStarts.{StartsWith}

-- ---- what a trace shows

gifts-parts : (t ts : List TraceItem) → AdmitsGifts (peer_answers (t ++ ts)) → AdmitsGifts (peer_answers t) × AdmitsGifts (peer_answers ts)
gifts-parts t ts h =
    each-parts AdmitsGift (peer_answers t) (peer_answers ts) (subst AdmitsGifts (shown-append t ts) h)

-- within a visit
gifts-within : {k : ℕ} {l : Local} {start : Start} {head : TraceItem} (t : List TraceItem) → OpensWith k l start head
    → AdmitsGifts (peer_answers (head ∷ t ++ item.Leave ∷ [])) → AdmitsGifts (peer_answers t)
gifts-within t searching h = (gifts-parts t (item.Leave ∷ []) h).0
gifts-within t passing h = (gifts-parts t (item.Leave ∷ []) h).0

opened-with : {k : ℕ} {l : Local} {start : Start} {head : TraceItem} → OpensWith k l start head → StartsWith start
    → IsWritableLocal l
opened-with searching h = h
opened-with passing h = h

-- ---- what a visit gives

-- a refused one gives nothing
abbrev pub GivesOffers : Visit → Type 0
GivesOffers (visit.Refused o) = Unit {0}
GivesOffers (visit.Answered a max_list) = (sequence offer).format.admits a.offers

gives-each : (v : Visit) → GivesOffers v → AreOffers (answer_in v)
gives-each (visit.Refused o) h = tt
gives-each (visit.Answered a max_list) h = sequence-each offer a.offers h

-- queries begin so that traders can be written, and what they are served with
pub record StaysWritable (B : Beginnings) : Type 0 where
  pub world : (w u : List View) (k : ℕ) (q : Query) (start : Start) → IsWritableWorld w → B w k q start u
      → IsWritableWorld u
  pub start : (w u : List View) (k : ℕ) (q : Query) (start : Start) → IsWritableWorld w → B w k q start u
      → StartsWith start

-- the answers of steps so far, and the traders behind them
abbrev StepsWrite : List StepAnswer → List View → Type 0
StepsWrite answers w = AreWritableSteps answers × IsWritableWorld w

mutual
  pub walk-writes : (B : Beginnings) (inside : Insides) (stays : StaysWritable B) {s : WalkState (List View)} {k : ℕ}
      {q : Query} {t : List TraceItem} {v : Visit} {u : WalkState (List View)} → Walk B inside s k q t v u
      → IsWritableWorld s.world → AdmitsGifts (peer_answers t) → GivesOffers v × IsWritableWorld u.world
  walk-writes B inside stays (refused {s = s} {k = k} {q = q} {point = p} {o = o} {w = w} b) world gifts =
      (tt, stays.world s.world w k q (Refused p o) world b)
  walk-writes B inside stays (repeat {s = s} {k = k} {q = q} {point = p} {mark = n} {w = w} b) world gifts = (
    sequence-from offer [] (omega arith) tt,
    stays.world s.world w k q (Repeat p n) world b,
  )
  walk-writes B inside stays (asking {s = s} {k = k} {q = q} {start = start} {w = w} {l = l} {t = t}
      {answers = answers} {m = m} {a = a} b o steps ends) world gifts =
      let local = opened-with o (stays.start s.world w k q start world b) in
      let r =
      steps-write B inside stays steps (stays.world s.world w k q start world b) tt (gifts-within t o gifts) in (
        answer-writes l answers m.words a local r.0 ends.answer,
        subst IsWritableWorld (sym ends.world) r.1,
      )

  steps-write : (B : Beginnings) (inside : Insides) (stays : StaysWritable B) {s : WalkState (List View)} {l : Local}
      {answers : List StepAnswer} {t : List TraceItem} {all : List StepAnswer} {u : WalkState (List View)}
      → Steps B inside s l answers t all u → IsWritableWorld s.world → AreWritableSteps answers
      → AdmitsGifts (peer_answers t) → StepsWrite all u.world
  steps-write B inside stays (done e) world given gifts = (given, world)
  steps-write B inside stays (asked {answers = answers} {t = t} {r = r} {ts = ts} step steps) world given gifts =
      let parts = gifts-parts t ts gifts in
      let first = step-writes B inside stays step world parts.0 in
      steps-write B inside stays steps first.1
      (each-append IsWritableStep answers (r ∷ []) given (first.0, tt)) parts.1

  step-writes : (B : Beginnings) (inside : Insides) (stays : StaysWritable B) {s : WalkState (List View)}
      {question : Next} {t : List TraceItem} {r : StepAnswer} {u : WalkState (List View)}
      → Step B inside s question t r u → IsWritableWorld s.world → AdmitsGifts (peer_answers t)
      → IsWritableStep r × IsWritableWorld u.world
  step-writes B inside stays (visited {v = v} i walk) world gifts =
      let h = walk-writes B inside stays walk world gifts in (gives-each v h.0, h.1)
  step-writes B inside stays (outside i small) world gifts = (gifts.0, world)
  step-writes B inside stays (no_memory_with i f) world gifts = (tt, world)
  step-writes B inside stays (evaluated i) world gifts = (gifts.0, world)
  step-writes B inside stays (unevaluated i f) world gifts = (tt, world)
  step-writes B inside stays (unreachable i) world gifts = (tt, world)
