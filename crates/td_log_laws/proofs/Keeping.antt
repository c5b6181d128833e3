-- What holds of each trader, of each visit and of what each call ended with stays so, where each event keeps it.
use Rattle.std.proofs.Common.{◌≡◌, ℕ, zero, suc, ◌+◌, Bool, true, false, List, [], ◌∷◌, ◌++◌, slice_get, slice_set}
use Rattle.std.proofs.Common.{Option, None, Some, refl, sym, subst, is_some, length}
use Rattle.std.specs.List.{AllByRecursion}
use Rattle.td_typecode.specs.declared.code.Any.{Any}
use Rattle.td_typecode.specs.declared.reference.Ior.{Ior}
use Rattle.td_ior.specs.Profiles.{iiop_of}
use Rattle.td_net.specs.Supplies.{words_from}
use Rattle.td_net.specs.Worlds.{World, Becomes, VisitProgress, EventResult, Refused, Moved, Closing, answer_at}
use Rattle.td_net.specs.Worlds.{answer_by}
use Rattle.td_net.specs.Worlds.{answer_in_stage, ask_at, begun_by, change_at, deliver_at, deliver_in, deliver_to}
use Rattle.td_net.specs.Worlds.{deliver_call, delivery_of, evaluate_by, forward_by, hand_on, hand_answer, inside}
use Rattle.td_net.specs.Worlds.{lose_at}
use Rattle.td_net.specs.Worlds.{lose_by, open_call, placed_by, resume_caller, resumed_in, sent, settle, settle_by}
use Rattle.td_net.specs.Worlds.{step_of}
use Rattle.td_net.specs.Worlds.{value_answer, value_at, value_in, with_begun, visit_answer}
use Rattle.td_net.specs.declared.call.Call.{Call}
use Rattle.td_net.specs.declared.call.Stage.{Stage}
use Rattle.td_net.specs.declared.call.Stage.TheVariants.{Sent, Running, Evaluating, Waiting, Ended}
use Rattle.td_net.specs.declared.call.QuestionStep.{QuestionStep}
use Rattle.td_net.specs.declared.call.QuestionStep.TheVariants as step
use Rattle.td_net.specs.declared.event.Event.{Event}
use Rattle.td_net.specs.declared.event.Event.TheVariants.{Change as Changed, Ask, Deliver, Value, Answer, Lose}
use Rattle.td_net.specs.declared.advancing.Pending.{Pending}
use Rattle.td_net.specs.declared.advancing.Pending.TheVariants as pending
use Rattle.td_ops.specs.Parameters.{query}
use Rattle.td_ops.specs.declared.call.Change.{Change}
use Rattle.td_ops.specs.declared.call.Query.{Query}
use Rattle.td_store.specs.declared.local.Local.{Local}
use Rattle.td_trader.specs.PlainTraders.{PlainTrader, after_begin, after_change, begin_at}
use Rattle.td_walk.specs.Answers.{IsAnswer}
use Rattle.td_walk.specs.declared.answer.SubAnswer.{SubAnswer}
use Rattle.td_query_walk.specs.Walks.{no_offers, answer_in}
use Rattle.td_trader.specs.declared.begin.Begin.{Begin}
use Rattle.td_trader.specs.declared.begin.Begin.TheVariants as begin
use Rattle.td_trader_laws.proofs.Writing.{begun}
use Rattle.td_session_runs_laws.proofs.Parts.{each-at, each-set}
use Rattle.td_types.proofs.Sequences.{each-append}
use Rattle.td_visit.specs.Standing.{FrameState}
use Rattle.td_walk.specs.Visits.{next_of}
use Rattle.td_walk.specs.declared.answer.Next.{Next}
use Rattle.td_walk.specs.declared.answer.Next.TheVariants.{Done, Evaluate, Forward}
use Rattle.td_walk.specs.declared.answer.StepAnswer.{StepAnswer}
use Rattle.td_walk.specs.declared.answer.StepAnswer.TheVariants as given
use Rattle.td_walk.specs.declared.trace.Visit.{Visit}
use Rattle.td_walk.specs.declared.trace.Visit.TheVariants as visit
use Rattle.td_query_walk.specs.Reach.{turns_of}

-- ---- what is to hold

-- of a trader, of what a visit is served with, of the answer to a question, and of what a query has ended with
pub record Invariant : Type 1 where
  pub trader : PlainTrader → Type 0
  pub local : Local → Type 0
  pub step : StepAnswer → Type 0
  pub ended : Query → Visit → Type 0

module _ (inv : Invariant) where
  -- a visit that waits
  pub record FrameHas (f : FrameState) : Type 0 where
    pub local : inv.local f.local
    pub answers : AllByRecursion inv.step f.answers

  abbrev pub StageHas : Query → Stage → Type 0
  StageHas q Sent = Unit {0}
  StageHas q Running = Unit {0}
  StageHas q (Evaluating f) = FrameHas f
  StageHas q (Waiting f d) = FrameHas f
  StageHas q (Ended v) = inv.ended q v

  abbrev pub CallHas : Call → Type 0
  CallHas k = StageHas k.query k.stage

  pub record WorldHas (w : World) : Type 0 where
    pub traders : AllByRecursion inv.trader w.traders
    pub calls : AllByRecursion CallHas w.calls

  -- how a query begins
  abbrev pub BeginsSo : Query → Begin → Type 0
  BeginsSo q (begin.Refused o) = inv.ended q (visit.Refused o)
  BeginsSo q (begin.Repeat number) = inv.ended q (visit.Answered no_offers 0)
  BeginsSo q (begin.Search l) = inv.local l
  BeginsSo q (begin.Path l) = inv.local l

-- It is kept by these events, whatever each part of them does.
pub record IsKept (inv : Invariant) (events : Event → Type 0) : Type 0 where
  pub failed : inv.step given.Failed
  pub valued : (c : ℕ) (v : Option Any) → events (Value c v) → inv.step (value_answer v)
  pub gives : (q : Query) (v : Visit) → inv.ended q v → inv.step (given.Offers (answer_in v))
  pub begins : (t : PlainTrader) (q : Query) → inv.trader t → BeginsSo inv q (begin_at t q)
  pub begun : (t : PlainTrader) (q : Query) → inv.trader t → inv.trader (after_begin t q (begin_at t q))
  pub changed : (n : ℕ) (c : Change) (t : PlainTrader) → inv.trader t → events (Changed n c)
      → inv.trader (after_change t c)
  pub closes : (q : Query) (l : Local) (rs : List StepAnswer) (word : ℕ → ℕ) (a : SubAnswer) → inv.local l
      → AllByRecursion inv.step rs → IsAnswer l rs word a → inv.ended q (visit_answer l a)

module _ (inv : Invariant) (events : Event → Type 0) (kept : IsKept inv events) where
  abbrev TakenHas : EventResult → Type 0
  TakenHas (Refused f) = Unit {0}
  TakenHas (Moved v) = WorldHas inv v
  TakenHas (Closing v c k l rs ss) = WorldHas inv v × inv.local l × AllByRecursion inv.step rs

  call-set : (w : World) (c : ℕ) (k : Call) → WorldHas inv w → CallHas inv k
      → AllByRecursion (CallHas inv) (slice_set w.calls c k)
  call-set w c k h p = each-set (CallHas inv) w.calls c k h.calls p

  -- ---- steps

  failed-more : (rs : List StepAnswer) → AllByRecursion inv.step rs → AllByRecursion inv.step (rs ++ given.Failed ∷ [])
  failed-more rs h = each-append inv.step rs (given.Failed ∷ []) h (kept.failed, tt)

  module _ (go : List StepAnswer → List QuestionStep → VisitProgress)
      (later : (rs : List StepAnswer) (ss : List QuestionStep) → AllByRecursion inv.step rs → AllByRecursion inv.step (go rs ss).answers) where
    evaluate-keeps : (rs : List StepAnswer) (ss : List QuestionStep) (b : Bool) → AllByRecursion inv.step rs
        → AllByRecursion inv.step (evaluate_by go rs ss b).answers
    evaluate-keeps rs ss true h = h
    evaluate-keeps rs ss false h = later (rs ++ given.Failed ∷ []) (ss ++ step.Unreachable ∷ []) (failed-more rs h)

    forward-keeps : (rs : List StepAnswer) (ss : List QuestionStep) (q : Query) (k : Option ℕ) → AllByRecursion inv.step rs
        → AllByRecursion inv.step (forward_by go rs ss q k).answers
    forward-keeps rs ss q (Some k) h = h
    forward-keeps rs ss q None h = later (rs ++ given.Failed ∷ []) (ss ++ step.Outside ∷ []) (failed-more rs h)

    next-keeps : (at : Ior → Option ℕ) (rs : List StepAnswer) (ss : List QuestionStep) (n : Next) → AllByRecursion inv.step rs
        → AllByRecursion inv.step (settle_by go at rs ss n).answers
    next-keeps at rs ss Done h = h
    next-keeps at rs ss (Evaluate e name returned extra) h = evaluate-keeps rs ss (is_some (iiop_of e)) h
    next-keeps at rs ss (Forward target q) h = forward-keeps rs ss q (at target) h

  settle-keeps : (most : ℕ) (at : Ior → Option ℕ) (l : Local) (rs : List StepAnswer) (ss : List QuestionStep)
      → AllByRecursion inv.step rs → AllByRecursion inv.step (settle most at l rs ss).answers
  settle-keeps zero at l rs ss h = h
  settle-keeps (suc most) at l rs ss h =
      next-keeps (settle most at l) (settle-keeps most at l) at rs ss (next_of l rs) h

  -- ---- where a visit goes on

  placed-keeps : (w : World) (c : ℕ) (k : Call) (l : Local) (rs : List StepAnswer) (ss : List QuestionStep) (p : Pending)
      → WorldHas inv w → inv.local l → AllByRecursion inv.step rs → TakenHas (placed_by w c k l rs ss p)
  placed-keeps w c k l rs ss pending.Nothing h local steps = (h, local, steps)
  placed-keeps w c k l rs ss pending.Value h local steps =
      record { traders = h.traders; calls = call-set w c _ h (record { local = local; answers = steps }) }
  placed-keeps w c k l rs ss (pending.SubQuery target q) h local steps = record {
    traders = h.traders;
    calls = each-append (CallHas inv) (slice_set w.calls c _) (sent target q k.root (Some c) ∷ [])
        (call-set w c _ h (record { local = local; answers = steps })) (tt, tt);
  }

  goes-keeps : (w : World) (c : ℕ) (k : Call) (l : Local) (rs : List StepAnswer) (ss : List QuestionStep) → WorldHas inv w
      → inv.local l → AllByRecursion inv.step rs
      → (let s = settle (turns_of l + 1) (inside w.traders w.home) l rs ss in
      TakenHas (placed_by w c k l s.answers s.steps s.pending))
  goes-keeps w c k l rs ss h local steps =
      let s = settle (turns_of l + 1) (inside w.traders w.home) l rs ss in
      placed-keeps w c k l s.answers s.steps s.pending h local
      (settle-keeps (turns_of l + 1) (inside w.traders w.home) l rs ss steps)

  -- ---- how a query begins

  begun-keeps : (w : World) (c : ℕ) (k : Call) (b : Begin) → WorldHas inv w → BeginsSo inv k.query b
      → TakenHas (begun_by w c k b)
  begun-keeps w c k (begin.Refused o) h so = record { traders = h.traders; calls = call-set w c _ h so }
  begun-keeps w c k (begin.Repeat number) h so = record { traders = h.traders; calls = call-set w c _ h so }
  begun-keeps w c k (begin.Search l) h so = goes-keeps w c k l [] [] h so tt
  begun-keeps w c k (begin.Path l) h so = goes-keeps w c k l [] [] h so tt

  to-keeps : (w : World) (c : ℕ) (k : Call) (t : Option PlainTrader) → slice_get w.traders k.target ≡ t
      → WorldHas inv w → TakenHas (deliver_to w c k t)
  to-keeps w c k None is h = tt
  to-keeps w c k (Some t) is h =
      let one : inv.trader t = each-at inv.trader w.traders k.target t h.traders is in
      begun-keeps (with_begun w k.target t k.query) c (deliver_call k (delivery_of w.clock t)) (begin_at t k.query)
      (record {
        traders = each-set inv.trader w.traders k.target _ h.traders (kept.begun t k.query one);
        calls = h.calls;
      }) (kept.begins t k.query one)

  in-keeps : (w : World) (c : ℕ) (k : Call) (s : Stage) → WorldHas inv w → TakenHas (deliver_in w c k s)
  in-keeps w c k Sent h = to-keeps w c k (slice_get w.traders k.target) refl h
  in-keeps w c k Running h = tt
  in-keeps w c k (Evaluating f) h = tt
  in-keeps w c k (Waiting f e) h = tt
  in-keeps w c k (Ended v) h = tt

  -- ---- the answer to a question

  takes-keeps : (w : World) (p : ℕ) (k : Call) (f : FrameState) (s : QuestionStep) (r : StepAnswer) → WorldHas inv w
      → FrameHas inv f → inv.step r
      → (let t = settle (turns_of f.local + 1) (inside w.traders w.home) f.local (f.answers ++ r ∷ [])
      (k.steps ++ s ∷ []) in TakenHas (placed_by w p k f.local t.answers t.steps t.pending))
  takes-keeps w p k f s r h frame one =
      goes-keeps w p k f.local (f.answers ++ r ∷ []) (k.steps ++ s ∷ []) h frame.local
      (each-append inv.step f.answers (r ∷ []) frame.answers (one, tt))

  value-in-keeps : (w : World) (c : ℕ) (k : Call) (v : Option Any) (s : Stage) → WorldHas inv w
      → StageHas inv k.query s → events (Value c v) → TakenHas (value_in w c k v s)
  value-in-keeps w c k v Sent h stage event = tt
  value-in-keeps w c k v Running h stage event = tt
  value-in-keeps w c k v (Evaluating f) h stage event =
      takes-keeps w c k f _ (value_answer v) h stage (kept.valued c v event)
  value-in-keeps w c k v (Waiting f e) h stage event = tt
  value-in-keeps w c k v (Ended a) h stage event = tt

  resumed-in-keeps : (w : World) (p : ℕ) (k : Call) (s : QuestionStep) (r : StepAnswer) (stage : Stage) → WorldHas inv w
      → StageHas inv k.query stage → inv.step r → TakenHas (resumed_in w p k s r stage)
  resumed-in-keeps w p k s r Sent h stage one = h
  resumed-in-keeps w p k s r Running h stage one = h
  resumed-in-keeps w p k s r (Evaluating f) h stage one = h
  resumed-in-keeps w p k s r (Waiting f e) h stage one = takes-keeps w p k f s r h stage one
  resumed-in-keeps w p k s r (Ended v) h stage one = h

  resumed-keeps : (w : World) (p : ℕ) (s : QuestionStep) (r : StepAnswer) (k : Option Call) → slice_get w.calls p ≡ k
      → WorldHas inv w → inv.step r → TakenHas (resume_caller w p s r k)
  resumed-keeps w p s r None is h one = h
  resumed-keeps w p s r (Some k) is h one =
      resumed-in-keeps w p k s r k.stage h (each-at (CallHas inv) w.calls p k h.calls is) one

  hand-keeps : (w : World) (d : ℕ) (k : Call) (p : ℕ) (s : QuestionStep) (r : StepAnswer) → WorldHas inv w → CallHas inv k
      → inv.step r → TakenHas (hand_on w d k p s r)
  hand-keeps w d k p s r h call one =
      resumed-keeps (hand_answer w d k) p s r (slice_get (hand_answer w d k).calls p) refl
      (record { traders = h.traders; calls = call-set w d _ h call }) one

  answer-stage-keeps : (w : World) (d : ℕ) (k : Call) (p : ℕ) (s : Stage) → WorldHas inv w → CallHas inv k
      → StageHas inv k.query s → TakenHas (answer_in_stage w d k p s)
  answer-stage-keeps w d k p Sent h call stage = tt
  answer-stage-keeps w d k p Running h call stage = tt
  answer-stage-keeps w d k p (Evaluating f) h call stage = tt
  answer-stage-keeps w d k p (Waiting f g) h call stage = tt
  answer-stage-keeps w d k p (Ended v) h call stage = hand-keeps w d k p _ _ h call (kept.gives k.query v stage)

  answer-by-keeps : (w : World) (d : ℕ) (k : Call) (caller : Option ℕ) (b : Bool) → WorldHas inv w → CallHas inv k
      → TakenHas (answer_by w d k caller b)
  answer-by-keeps w d k None b h call = tt
  answer-by-keeps w d k (Some p) true h call = tt
  answer-by-keeps w d k (Some p) false h call = answer-stage-keeps w d k p k.stage h call call

  lose-by-keeps : (w : World) (d : ℕ) (k : Call) (caller : Option ℕ) (b : Bool) → WorldHas inv w → CallHas inv k
      → TakenHas (lose_by w d k caller b)
  lose-by-keeps w d k None b h call = tt
  lose-by-keeps w d k (Some p) true h call = tt
  lose-by-keeps w d k (Some p) false h call = hand-keeps w d k p _ _ h call kept.failed

  -- ---- the events

  change-keeps : (w : World) (n : ℕ) (c : Change) (t : Option PlainTrader) → slice_get w.traders n ≡ t → WorldHas inv w
      → events (Changed n c) → TakenHas (change_at w n c t)
  change-keeps w n c None is h event = tt
  change-keeps w n c (Some t) is h event = record {
    traders = each-set inv.trader w.traders n _ h.traders
        (kept.changed n c t (each-at inv.trader w.traders n t h.traders is) event);
    calls = h.calls;
  }

  ask-keeps : (w : World) (n : ℕ) (q : Query) (t : Option PlainTrader) → slice_get w.traders n ≡ t → WorldHas inv w
      → TakenHas (ask_at w n q t)
  ask-keeps w n q None is h = tt
  ask-keeps w n q (Some t) is h =
      let k = sent n q (length w.calls) None in
      to-keeps (open_call w k) (length w.calls) k (Some t) is
      (record { traders = h.traders; calls = each-append (CallHas inv) w.calls (k ∷ []) h.calls (tt, tt) })

  deliver-keeps : (w : World) (c : ℕ) (k : Option Call) → WorldHas inv w → TakenHas (deliver_at w c k)
  deliver-keeps w c None h = tt
  deliver-keeps w c (Some k) h = in-keeps w c k k.stage h

  value-keeps : (w : World) (c : ℕ) (v : Option Any) (k : Option Call) → slice_get w.calls c ≡ k → WorldHas inv w
      → events (Value c v) → TakenHas (value_at w c v k)
  value-keeps w c v None is h event = tt
  value-keeps w c v (Some k) is h event =
      value-in-keeps w c k v k.stage h (each-at (CallHas inv) w.calls c k h.calls is) event

  answer-at-keeps : (w : World) (d : ℕ) (k : Option Call) → slice_get w.calls d ≡ k → WorldHas inv w
      → TakenHas (answer_at w d k)
  answer-at-keeps w d None is h = tt
  answer-at-keeps w d (Some k) is h =
      answer-by-keeps w d k k.caller k.handed h (each-at (CallHas inv) w.calls d k h.calls is)

  lose-keeps : (w : World) (d : ℕ) (k : Option Call) → slice_get w.calls d ≡ k → WorldHas inv w
      → TakenHas (lose_at w d k)
  lose-keeps w d None is h = tt
  lose-keeps w d (Some k) is h =
      lose-by-keeps w d k k.caller k.handed h (each-at (CallHas inv) w.calls d k h.calls is)

  step-keeps : (w : World) (e : Event) → WorldHas inv w → events e → TakenHas (step_of w e)
  step-keeps w (Changed n c) h event = change-keeps w n c (slice_get w.traders n) refl h event
  step-keeps w (Ask n q) h event = ask-keeps w n q (slice_get w.traders n) refl h
  step-keeps w (Deliver c) h event = deliver-keeps w c (slice_get w.calls c) h
  step-keeps w (Value c v) h event = value-keeps w c v (slice_get w.calls c) refl h event
  step-keeps w (Answer d) h event = answer-at-keeps w d (slice_get w.calls d) refl h
  step-keeps w (Lose d) h event = lose-keeps w d (slice_get w.calls d) refl h

  becomes-keeps : (w u : World) (t : EventResult) → WorldHas inv w → TakenHas t → Becomes w t u → WorldHas inv u
  becomes-keeps w u (Refused f) all h b = subst (WorldHas inv) (sym b) all
  becomes-keeps w u (Moved v) all h b = subst (WorldHas inv) (sym b) h
  becomes-keeps w u (Closing v c k l rs ss) all h b =
      subst (WorldHas inv) (sym b.2)
      (record {
        traders = h.0.traders;
        calls = call-set v c _ h.0 (kept.closes k.query l rs (words_from v.words v.drawn) b.0 h.1 h.2 b.1);
      })

  -- an event leaves what can be written
  pub event-keeps : (w u : World) (e : Event) → WorldHas inv w → events e → Becomes w (step_of w e) u
      → WorldHas inv u
  event-keeps w u e h event b = becomes-keeps w u (step_of w e) h (step-keeps w e h event) b
