-- The limits that ended calls have stay such as a query can have.
use Rattle.std.proofs.Common.{◌≡◌, ℕ, zero, suc, Bool, true, false, List, [], ◌∷◌, ◌++◌, length, slice_get, slice_set}
use Rattle.std.proofs.Common.{Option, None, Some, refl, sym, subst, arith}
use Rattle.td_lookup.proofs.Limited.{answer_limits}
use Rattle.td_net.specs.Supplies.{words_from}
use Rattle.td_net.specs.Worlds.{World, Becomes, EventResult, Refused, Moved, Closing, answer_at, answer_by}
use Rattle.td_net.specs.Worlds.{answer_in_stage}
use Rattle.td_net.specs.Worlds.{ask_at, begun_by, change_at, deliver_at, deliver_in, deliver_to, deliver_call}
use Rattle.td_net.specs.Worlds.{delivery_of, hand_on, hand_answer, open_call, with_begun}
use Rattle.td_net.specs.Worlds.{lose_at}
use Rattle.td_net.specs.Worlds.{lose_by, placed_by, resume_caller, resumed_in, sent, step_of, value_at, value_in}
use Rattle.td_net.specs.declared.call.Call.{Call}
use Rattle.td_net.specs.declared.call.Stage.{Stage}
use Rattle.td_net.specs.declared.call.Stage.TheVariants.{Sent, Running, Evaluating, Waiting, Ended}
use Rattle.td_net.specs.declared.call.QuestionStep.{QuestionStep}
use Rattle.td_net.specs.declared.event.Event.{Event}
use Rattle.td_net.specs.declared.event.Event.TheVariants.{Change as Changed, Ask, Deliver, Value, Answer, Lose}
use Rattle.td_net.specs.declared.advancing.Pending.{Pending}
use Rattle.td_net.specs.declared.advancing.Pending.TheVariants as pending
use Rattle.td_typecode.specs.declared.code.Any.{Any}
use Rattle.td_ops.specs.declared.call.Change.{Change}
use Rattle.td_ops.specs.declared.call.Query.{Query}
use Rattle.td_store.specs.declared.local.Local.{Local}
use Rattle.td_trader.specs.PlainTraders.{PlainTrader, begin_at}
use Rattle.td_trader.specs.declared.begin.Begin.{Begin}
use Rattle.td_trader.specs.declared.begin.Begin.TheVariants as begin
use Rattle.td_walk.specs.declared.answer.StepAnswer.{StepAnswer}
use Rattle.td_audit.specs.Events.{AreLimited, LimitedAt}

-- ---- lists of calls

limited-set : (calls : List Call) (c : ℕ) (k : Call) → AreLimited calls → LimitedAt k.stage
    → AreLimited (slice_set calls c k)
limited-set [] c k all h = tt
limited-set (x ∷ xs) zero k all h = (h, all.1)
limited-set (x ∷ xs) (suc c) k all h = (all.0, limited-set xs c k all.1 h)

limited-more : (calls : List Call) (k : Call) → AreLimited calls → LimitedAt k.stage → AreLimited (calls ++ k ∷ [])
limited-more [] k all h = (h, tt)
limited-more (x ∷ xs) k all h = (all.0, limited-more xs k all.1 h)

limited-at : (calls : List Call) (c : ℕ) (k : Call) → AreLimited calls → slice_get calls c ≡ Some k
    → LimitedAt k.stage
limited-at [] c k all is = absurd cc
limited-at (x ∷ xs) zero k all is = let e : x ≡ k = cc in subst (λ (z : Call). LimitedAt z.stage) e all.0
limited-at (x ∷ xs) (suc c) k all is = limited-at xs c k all.1 is

-- ---- what an event leaves

abbrev TakenLimited : EventResult → Type 0
TakenLimited (Refused f) = Unit {0}
TakenLimited (Moved v) = AreLimited v.calls
TakenLimited (Closing v c k l rs ss) = AreLimited v.calls

becomes-limited : (w u : World) (t : EventResult) → AreLimited w.calls → TakenLimited t → Becomes w t u → AreLimited u.calls
becomes-limited w u (Refused f) all h b = subst (λ (z : World). AreLimited z.calls) (sym b) all
becomes-limited w u (Moved v) all h b = subst (λ (z : World). AreLimited z.calls) (sym b) h
becomes-limited w u (Closing v c k l rs ss) all h b =
    subst (λ (z : World). AreLimited z.calls) (sym b.2)
    (limited-set v.calls c _ h (answer_limits l rs (words_from v.words v.drawn) b.0 b.1))

placed-limited : (w : World) (c : ℕ) (k : Call) (l : Local) (rs : List StepAnswer) (ss : List QuestionStep) (p : Pending)
    → AreLimited w.calls → TakenLimited (placed_by w c k l rs ss p)
placed-limited w c k l rs ss pending.Nothing all = all
placed-limited w c k l rs ss pending.Value all = limited-set w.calls c _ all tt
placed-limited w c k l rs ss (pending.SubQuery target q) all =
    limited-more (slice_set w.calls c _) (sent target q k.root (Some c)) (limited-set w.calls c _ all tt) tt

-- ---- the events

change-limited : (w : World) (n : ℕ) (c : Change) (t : Option PlainTrader) → AreLimited w.calls
    → TakenLimited (change_at w n c t)
change-limited w n c None all = tt
change-limited w n c (Some t) all = all

begun-limited : (w : World) (c : ℕ) (k : Call) (b : Begin) → AreLimited w.calls → TakenLimited (begun_by w c k b)
begun-limited w c k (begin.Refused o) all = limited-set w.calls c _ all tt
begun-limited w c k (begin.Repeat number) all =
    limited-set w.calls c _ all (record { few = omega arith; each = tt })
begun-limited w c k (begin.Search l) all = placed-limited w c k l _ _ _ all
begun-limited w c k (begin.Path l) all = placed-limited w c k l _ _ _ all

to-limited : (w : World) (c : ℕ) (k : Call) (t : Option PlainTrader) → AreLimited w.calls
    → TakenLimited (deliver_to w c k t)
to-limited w c k None all = tt
to-limited w c k (Some t) all =
    begun-limited (with_begun w k.target t k.query) c (deliver_call k (delivery_of w.clock t)) (begin_at t k.query) all

in-limited : (w : World) (c : ℕ) (k : Call) (s : Stage) → AreLimited w.calls → TakenLimited (deliver_in w c k s)
in-limited w c k Sent all = to-limited w c k (slice_get w.traders k.target) all
in-limited w c k Running all = tt
in-limited w c k (Evaluating f) all = tt
in-limited w c k (Waiting f d) all = tt
in-limited w c k (Ended v) all = tt

deliver-limited : (w : World) (c : ℕ) (k : Option Call) → AreLimited w.calls → TakenLimited (deliver_at w c k)
deliver-limited w c None all = tt
deliver-limited w c (Some k) all = in-limited w c k k.stage all

ask-limited : (w : World) (n : ℕ) (q : Query) (t : Option PlainTrader) → AreLimited w.calls
    → TakenLimited (ask_at w n q t)
ask-limited w n q None all = tt
ask-limited w n q (Some t) all =
    let k = sent n q (length w.calls) None in
    to-limited (open_call w k) (length w.calls) k (Some t) (limited-more w.calls k all tt)

value-in-limited : (w : World) (c : ℕ) (k : Call) (v : Option Any) (s : Stage) → AreLimited w.calls
    → TakenLimited (value_in w c k v s)
value-in-limited w c k v Sent all = tt
value-in-limited w c k v Running all = tt
value-in-limited w c k v (Evaluating f) all = placed-limited w c k f.local _ _ _ all
value-in-limited w c k v (Waiting f d) all = tt
value-in-limited w c k v (Ended a) all = tt

value-limited : (w : World) (c : ℕ) (v : Option Any) (k : Option Call) → AreLimited w.calls
    → TakenLimited (value_at w c v k)
value-limited w c v None all = tt
value-limited w c v (Some k) all = value-in-limited w c k v k.stage all

resumed-in-limited : (w : World) (p : ℕ) (k : Call) (s : QuestionStep) (r : StepAnswer) (stage : Stage) → AreLimited w.calls
    → TakenLimited (resumed_in w p k s r stage)
resumed-in-limited w p k s r Sent all = all
resumed-in-limited w p k s r Running all = all
resumed-in-limited w p k s r (Evaluating f) all = all
resumed-in-limited w p k s r (Waiting f d) all = placed-limited w p k f.local _ _ _ all
resumed-in-limited w p k s r (Ended v) all = all

resumed-limited : (w : World) (p : ℕ) (s : QuestionStep) (r : StepAnswer) (k : Option Call) → AreLimited w.calls
    → TakenLimited (resume_caller w p s r k)
resumed-limited w p s r None all = all
resumed-limited w p s r (Some k) all = resumed-in-limited w p k s r k.stage all

hand-limited : (w : World) (d : ℕ) (k : Call) (p : ℕ) (s : QuestionStep) (r : StepAnswer) → AreLimited w.calls
    → LimitedAt k.stage → TakenLimited (hand_on w d k p s r)
hand-limited w d k p s r all h =
    resumed-limited (hand_answer w d k) p s r (slice_get (hand_answer w d k).calls p)
    (limited-set w.calls d (record k { handed = true }) all h)

answer-stage-limited : (w : World) (d : ℕ) (k : Call) (p : ℕ) (s : Stage) → AreLimited w.calls → LimitedAt k.stage
    → TakenLimited (answer_in_stage w d k p s)
answer-stage-limited w d k p Sent all h = tt
answer-stage-limited w d k p Running all h = tt
answer-stage-limited w d k p (Evaluating f) all h = tt
answer-stage-limited w d k p (Waiting f e) all h = tt
answer-stage-limited w d k p (Ended v) all h = hand-limited w d k p _ _ all h

answer-by-limited : (w : World) (d : ℕ) (k : Call) (caller : Option ℕ) (b : Bool) → AreLimited w.calls
    → LimitedAt k.stage → TakenLimited (answer_by w d k caller b)
answer-by-limited w d k None b all h = tt
answer-by-limited w d k (Some p) true all h = tt
answer-by-limited w d k (Some p) false all h = answer-stage-limited w d k p k.stage all h

answer-limited : (w : World) (d : ℕ) (k : Option Call) → AreLimited w.calls → slice_get w.calls d ≡ k
    → TakenLimited (answer_at w d k)
answer-limited w d None all is = tt
answer-limited w d (Some k) all is = answer-by-limited w d k k.caller k.handed all (limited-at w.calls d k all is)

lose-by-limited : (w : World) (d : ℕ) (k : Call) (caller : Option ℕ) (b : Bool) → AreLimited w.calls
    → LimitedAt k.stage → TakenLimited (lose_by w d k caller b)
lose-by-limited w d k None b all h = tt
lose-by-limited w d k (Some p) true all h = tt
lose-by-limited w d k (Some p) false all h = hand-limited w d k p _ _ all h

lose-limited : (w : World) (d : ℕ) (k : Option Call) → AreLimited w.calls → slice_get w.calls d ≡ k
    → TakenLimited (lose_at w d k)
lose-limited w d None all is = tt
lose-limited w d (Some k) all is = lose-by-limited w d k k.caller k.handed all (limited-at w.calls d k all is)

step-limited : (w : World) (e : Event) → AreLimited w.calls → TakenLimited (step_of w e)
step-limited w (Changed n c) all = change-limited w n c (slice_get w.traders n) all
step-limited w (Ask n q) all = ask-limited w n q (slice_get w.traders n) all
step-limited w (Deliver c) all = deliver-limited w c (slice_get w.calls c) all
step-limited w (Value c v) all = value-limited w c v (slice_get w.calls c) all
step-limited w (Answer d) all = answer-limited w d (slice_get w.calls d) all refl
step-limited w (Lose d) all = lose-limited w d (slice_get w.calls d) all refl

-- whatever comes to the network
pub event-limited : (w u : World) (e : Event) → AreLimited w.calls → Becomes w (step_of w e) u → AreLimited u.calls
event-limited w u e all b = becomes-limited w u (step_of w e) all (step-limited w e all) b
