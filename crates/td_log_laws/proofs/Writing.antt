-- What a network of traders answers can be written, where their values can be.
use Rattle.std.proofs.Common.{◌≡◌, ℕ, List, [], Option, None, Some, refl, arith, length}
use Rattle.td_cdr.specs.Sound.{sequence}
use Rattle.td_typecode.specs.Values.{any_value}
use Rattle.td_typecode.specs.declared.code.Any.{Any}
use Rattle.td_iter.specs.Heads.{AreLimits}
use Rattle.td_log_laws.proofs.Keeping.{BeginsSo, CallHas, Invariant, IsKept, StageHas, WorldHas, event-keeps}
use Rattle.td_lookup.proofs.Limited.{answer_limits}
use Rattle.td_walk.specs.Answers.{IsAnswer}
use Rattle.td_walk.specs.declared.answer.SubAnswer.{SubAnswer}
use Rattle.td_net.specs.Worlds.{visit_answer, World, Becomes, Refused, step_of, value_answer}
use Rattle.td_net.specs.declared.call.Call.{Call}
use Rattle.td_net.specs.declared.call.Stage.{Stage}
use Rattle.td_net.specs.declared.event.Event.{Event}
use Rattle.td_net.specs.declared.event.Event.TheVariants.{Change as Changed, Ask, Deliver, Value, Answer, Lose}
use Rattle.td_ops.specs.Answers.{AdmitsOutcome}
use Rattle.td_ops.specs.Parameters.{query}
use Rattle.td_ops.specs.declared.call.Query.{Query}
use Rattle.td_ops.specs.declared.operation.Operation.TheVariants as operation
use Rattle.td_store.specs.declared.local.Local.{Local}
use Rattle.td_trader.specs.Admitted.{AdmitsChange}
use Rattle.td_trader.specs.PlainTraders.{PlainTrader, begin_at, store_of}
use Rattle.td_trader.specs.declared.begin.Begin.{Begin}
use Rattle.td_trader.specs.declared.begin.Begin.TheVariants as begin
use Rattle.td_trader_laws.proofs.Writing.{begun, changes, stores}
use Rattle.td_trader_laws.proofs.WritingQueries.{refused-written}
use Rattle.td_trader_laws.specs.WritableTraders.{IsWritableTrader}
use Rattle.td_session_runs_laws.proofs.WalkingAnswers.{AreWritableSteps, IsWritableLocal, IsWritableStep, answer-writes}
use Rattle.td_session_runs_laws.proofs.WalkingOffers.{AreOffers}
use Rattle.td_session_runs_laws.proofs.WalkingStarts.{BeginsWith, begin-writes}
use Rattle.td_types.proofs.Sequences.{sequence-each, sequence-from}
use Rattle.td_value.specs.Structures.{offer}
use Rattle.td_walk.specs.declared.answer.StepAnswer.{StepAnswer}
use Rattle.td_walk.specs.declared.trace.Visit.{Visit}
use Rattle.td_walk.specs.declared.trace.Visit.TheVariants as visit
use Rattle.td_query_walk.specs.Walks.{answer_in}

-- ---- what can be written of a network

-- what a call has ended with, where its query can be written
abbrev pub EndedWrites : Query → Visit → Type 0
EndedWrites q (visit.Refused o) = query.format.admits q → AdmitsOutcome operation.Query o
EndedWrites q (visit.Answered a max_list) = (sequence offer).format.admits a.offers × AreLimits a.limits

abbrev pub writable : Invariant
writable = record { trader = IsWritableTrader; local = IsWritableLocal; step = IsWritableStep; ended = EndedWrites }

abbrev pub StageWrites : Query → Stage → Type 0
StageWrites q s = StageHas writable q s

abbrev pub CallWrites : Call → Type 0
CallWrites k = CallHas writable k

abbrev pub WorldWrites : World → Type 0
WorldWrites w = WorldHas writable w

-- what comes from outside
abbrev pub EventWrites : Event → Type 0
EventWrites (Changed n c) = AdmitsChange c
EventWrites (Ask n q) = Unit {0}
EventWrites (Deliver c) = Unit {0}
EventWrites (Value c None) = Unit {0}
EventWrites (Value c (Some v)) = any_value.format.admits v
EventWrites (Answer c) = Unit {0}
EventWrites (Lose c) = Unit {0}

-- ---- events keep it so

valued-writes : (c : ℕ) (v : Option Any) → EventWrites (Value c v) → IsWritableStep (value_answer v)
valued-writes c None h = tt
valued-writes c (Some v) h = h

gives-writes : (q : Query) (v : Visit) → EndedWrites q v → AreOffers (answer_in v)
gives-writes q (visit.Refused o) h = tt
gives-writes q (visit.Answered a max_list) h = sequence-each offer a.offers h.0

begins-by : (t : PlainTrader) (q : Query) (b : Begin) → begin_at t q ≡ b → BeginsWith b → BeginsSo writable q b
begins-by t q (begin.Refused o) e h = λ p. refused-written t q o p e
begins-by t q (begin.Repeat number) e h =
    (sequence-from offer [] (omega arith) tt, record { few = omega arith; each = tt })
begins-by t q (begin.Search l) e h = h
begins-by t q (begin.Path l) e h = h

begins-writes : (t : PlainTrader) (q : Query) → IsWritableTrader t → BeginsSo writable q (begin_at t q)
begins-writes t q h =
    begins-by t q (begin_at t q) refl
    (begin-writes (store_of t) (length t.history) t.marks q (stores t h) t.bounds)

closes-writes : (q : Query) (l : Local) (rs : List StepAnswer) (word : ℕ → ℕ) (a : SubAnswer) → IsWritableLocal l
    → AreWritableSteps rs → IsAnswer l rs word a → EndedWrites q (visit_answer l a)
closes-writes q l rs word a local steps is =
    (answer-writes l rs word a local steps is, answer_limits l rs word a is)

stays-writable : IsKept writable EventWrites
stays-writable = record {
  failed = tt;
  valued = valued-writes;
  gives = gives-writes;
  begins = begins-writes;
  begun = begun;
  changed = λ n c t h event. (changes t c h event).after;
  closes = closes-writes;
}

-- an event leaves what can be written
pub event-writes : (w u : World) (e : Event) → WorldWrites w → EventWrites e → Becomes w (step_of w e) u
    → WorldWrites u
event-writes w u e h event b = event-keeps writable EventWrites stays-writable w u e h event b
