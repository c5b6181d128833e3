-- An event opens two calls at most.
use Rattle.std.proofs.Common.{ℕ, ◌+◌, ◌≤◌, Bool, true, false, List, [], ◌∷◌, length, slice_get, slice_set, Option, None}
use Rattle.std.proofs.Common.{Some, sym, subst, arith, length-append}
use Rattle.std.proofs.lemmas.List.{length-set}
use Rattle.td_typecode.specs.declared.code.Any.{Any}
use Rattle.td_net.specs.Worlds.{World, Becomes, EventResult, Refused, Moved, Closing, answer_at, answer_by}
use Rattle.td_net.specs.Worlds.{answer_in_stage}
use Rattle.td_net.specs.Worlds.{ask_at, begun_by, change_at, deliver_at, deliver_in, deliver_to, deliver_call}
use Rattle.td_net.specs.Worlds.{delivery_of}
use Rattle.td_net.specs.Worlds.{hand_on, hand_answer, lose_at, lose_by, open_call, placed_by, resume_caller, resumed_in}
use Rattle.td_net.specs.Worlds.{sent}
use Rattle.td_net.specs.Worlds.{step_of, value_at, value_in, waiting_call, with_begun}
use Rattle.td_net.specs.declared.call.Call.{Call}
use Rattle.td_net.specs.declared.call.Stage.{Stage}
use Rattle.td_net.specs.declared.call.Stage.TheVariants.{Sent, Running, Evaluating, Waiting, Ended}
use Rattle.td_net.specs.declared.call.QuestionStep.{QuestionStep}
use Rattle.td_net.specs.declared.event.Event.{Event}
use Rattle.td_net.specs.declared.event.Event.TheVariants.{Change as Changed, Ask, Deliver, Value, Answer, Lose}
use Rattle.td_net.specs.declared.advancing.Pending.{Pending}
use Rattle.td_net.specs.declared.advancing.Pending.TheVariants as pending
use Rattle.td_ops.specs.declared.call.Change.{Change}
use Rattle.td_ops.specs.declared.call.Query.{Query}
use Rattle.td_store.specs.declared.local.Local.{Local}
use Rattle.td_trader.specs.PlainTraders.{PlainTrader, begin_at}
use Rattle.td_trader.specs.declared.begin.Begin.{Begin}
use Rattle.td_trader.specs.declared.begin.Begin.TheVariants as begin
use Rattle.td_walk.specs.declared.answer.StepAnswer.{StepAnswer}

module _ (most : ℕ) where
  -- at most so many calls
  abbrev pub Grows : EventResult → Type 0
  Grows (Refused f) = Unit {0}
  Grows (Moved v) = length v.calls ≤ most
  Grows (Closing v c k l rs ss) = length v.calls ≤ most

  set-few : (calls : List Call) (c : ℕ) (k : Call) → length calls ≤ most → length (slice_set calls c k) ≤ most
  set-few calls c k h = omega (arith, h, length-set calls c k)

  placed-grows : (w : World) (c : ℕ) (k : Call) (l : Local) (rs : List StepAnswer) (ss : List QuestionStep) (p : Pending)
      → length w.calls + 1 ≤ most → Grows (placed_by w c k l rs ss p)
  placed-grows w c k l rs ss pending.Nothing h = omega (arith, h)
  placed-grows w c k l rs ss pending.Value h = set-few w.calls c _ (omega (arith, h))
  placed-grows w c k l rs ss (pending.SubQuery target q) h =
      let waits = waiting_call k l rs ss (length w.calls) in
      omega (
        arith,
        h,
        length-set w.calls c waits,
        length-append (slice_set w.calls c waits) (sent target q k.root (Some c) ∷ []),
      )

  begun-grows : (w : World) (c : ℕ) (k : Call) (b : Begin) → length w.calls + 1 ≤ most → Grows (begun_by w c k b)
  begun-grows w c k (begin.Refused o) h = set-few w.calls c _ (omega (arith, h))
  begun-grows w c k (begin.Repeat number) h = set-few w.calls c _ (omega (arith, h))
  begun-grows w c k (begin.Search l) h = placed-grows w c k l _ _ _ h
  begun-grows w c k (begin.Path l) h = placed-grows w c k l _ _ _ h

  to-grows : (w : World) (c : ℕ) (k : Call) (t : Option PlainTrader) → length w.calls + 1 ≤ most
      → Grows (deliver_to w c k t)
  to-grows w c k None h = tt
  to-grows w c k (Some t) h =
      begun-grows (with_begun w k.target t k.query) c (deliver_call k (delivery_of w.clock t)) (begin_at t k.query) h

  in-grows : (w : World) (c : ℕ) (k : Call) (s : Stage) → length w.calls + 1 ≤ most → Grows (deliver_in w c k s)
  in-grows w c k Sent h = to-grows w c k (slice_get w.traders k.target) h
  in-grows w c k Running h = tt
  in-grows w c k (Evaluating f) h = tt
  in-grows w c k (Waiting f e) h = tt
  in-grows w c k (Ended v) h = tt

  value-in-grows : (w : World) (c : ℕ) (k : Call) (v : Option Any) (s : Stage) → length w.calls + 1 ≤ most
      → Grows (value_in w c k v s)
  value-in-grows w c k v Sent h = tt
  value-in-grows w c k v Running h = tt
  value-in-grows w c k v (Evaluating f) h = placed-grows w c k f.local _ _ _ h
  value-in-grows w c k v (Waiting f e) h = tt
  value-in-grows w c k v (Ended a) h = tt

  resumed-in-grows : (w : World) (p : ℕ) (k : Call) (s : QuestionStep) (r : StepAnswer) (stage : Stage)
      → length w.calls + 1 ≤ most → Grows (resumed_in w p k s r stage)
  resumed-in-grows w p k s r Sent h = omega (arith, h)
  resumed-in-grows w p k s r Running h = omega (arith, h)
  resumed-in-grows w p k s r (Evaluating f) h = omega (arith, h)
  resumed-in-grows w p k s r (Waiting f e) h = placed-grows w p k f.local _ _ _ h
  resumed-in-grows w p k s r (Ended v) h = omega (arith, h)

  resumed-grows : (w : World) (p : ℕ) (s : QuestionStep) (r : StepAnswer) (k : Option Call) → length w.calls + 1 ≤ most
      → Grows (resume_caller w p s r k)
  resumed-grows w p s r None h = omega (arith, h)
  resumed-grows w p s r (Some k) h = resumed-in-grows w p k s r k.stage h

  hand-grows : (w : World) (d : ℕ) (k : Call) (p : ℕ) (s : QuestionStep) (r : StepAnswer) → length w.calls + 1 ≤ most
      → Grows (hand_on w d k p s r)
  hand-grows w d k p s r h =
      resumed-grows (hand_answer w d k) p s r (slice_get (hand_answer w d k).calls p)
      (omega (arith, h, length-set w.calls d (record k { handed = true })))

  answer-stage-grows : (w : World) (d : ℕ) (k : Call) (p : ℕ) (s : Stage) → length w.calls + 1 ≤ most
      → Grows (answer_in_stage w d k p s)
  answer-stage-grows w d k p Sent h = tt
  answer-stage-grows w d k p Running h = tt
  answer-stage-grows w d k p (Evaluating f) h = tt
  answer-stage-grows w d k p (Waiting f g) h = tt
  answer-stage-grows w d k p (Ended v) h = hand-grows w d k p _ _ h

  answer-by-grows : (w : World) (d : ℕ) (k : Call) (caller : Option ℕ) (b : Bool) → length w.calls + 1 ≤ most
      → Grows (answer_by w d k caller b)
  answer-by-grows w d k None b h = tt
  answer-by-grows w d k (Some p) true h = tt
  answer-by-grows w d k (Some p) false h = answer-stage-grows w d k p k.stage h

  lose-by-grows : (w : World) (d : ℕ) (k : Call) (caller : Option ℕ) (b : Bool) → length w.calls + 1 ≤ most
      → Grows (lose_by w d k caller b)
  lose-by-grows w d k None b h = tt
  lose-by-grows w d k (Some p) true h = tt
  lose-by-grows w d k (Some p) false h = hand-grows w d k p _ _ h

  change-grows : (w : World) (n : ℕ) (c : Change) (t : Option PlainTrader) → length w.calls + 1 ≤ most
      → Grows (change_at w n c t)
  change-grows w n c None h = tt
  change-grows w n c (Some t) h = omega (arith, h)

  ask-grows : (w : World) (n : ℕ) (q : Query) (t : Option PlainTrader) → length w.calls + 2 ≤ most
      → Grows (ask_at w n q t)
  ask-grows w n q None h = tt
  ask-grows w n q (Some t) h =
      let k = sent n q (length w.calls) None in
      to-grows (open_call w k) (length w.calls) k (Some t) (omega (arith, h, length-append w.calls (k ∷ [])))

  deliver-grows : (w : World) (c : ℕ) (k : Option Call) → length w.calls + 1 ≤ most → Grows (deliver_at w c k)
  deliver-grows w c None h = tt
  deliver-grows w c (Some k) h = in-grows w c k k.stage h

  value-grows : (w : World) (c : ℕ) (v : Option Any) (k : Option Call) → length w.calls + 1 ≤ most
      → Grows (value_at w c v k)
  value-grows w c v None h = tt
  value-grows w c v (Some k) h = value-in-grows w c k v k.stage h

  answer-grows : (w : World) (d : ℕ) (k : Option Call) → length w.calls + 1 ≤ most → Grows (answer_at w d k)
  answer-grows w d None h = tt
  answer-grows w d (Some k) h = answer-by-grows w d k k.caller k.handed h

  lose-grows : (w : World) (d : ℕ) (k : Option Call) → length w.calls + 1 ≤ most → Grows (lose_at w d k)
  lose-grows w d None h = tt
  lose-grows w d (Some k) h = lose-by-grows w d k k.caller k.handed h

  step-grows : (w : World) (e : Event) → length w.calls + 2 ≤ most → Grows (step_of w e)
  step-grows w (Changed n c) h = change-grows w n c (slice_get w.traders n) (omega (arith, h))
  step-grows w (Ask n q) h = ask-grows w n q (slice_get w.traders n) h
  step-grows w (Deliver c) h = deliver-grows w c (slice_get w.calls c) (omega (arith, h))
  step-grows w (Value c v) h = value-grows w c v (slice_get w.calls c) (omega (arith, h))
  step-grows w (Answer d) h = answer-grows w d (slice_get w.calls d) (omega (arith, h))
  step-grows w (Lose d) h = lose-grows w d (slice_get w.calls d) (omega (arith, h))

  becomes-grows : (w u : World) (t : EventResult) → length w.calls ≤ most → Grows t → Becomes w t u
      → length u.calls ≤ most
  becomes-grows w u (Refused f) few h b = subst (λ (z : World). length z.calls ≤ most) (sym b) few
  becomes-grows w u (Moved v) few h b = subst (λ (z : World). length z.calls ≤ most) (sym b) h
  becomes-grows w u (Closing v c k l rs ss) few h b =
      subst (λ (z : World). length z.calls ≤ most) (sym b.2) (set-few v.calls c _ h)

pub two-more : (w u : World) (e : Event) → Becomes w (step_of w e) u → length u.calls ≤ length w.calls + 2
two-more w u e b =
    becomes-grows (length w.calls + 2) w u (step_of w e) (omega arith)
    (step-grows (length w.calls + 2) w e (omega arith)) b
