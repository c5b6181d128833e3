-- A call stays where it stands, with its root and its query.
use Rattle.std.proofs.Common.{◌≡◌, ℕ, ◌<◌, Bool, true, false, List, [], ◌∷◌, ◌++◌, length, slice_get, slice_set}
use Rattle.std.proofs.Common.{Option, None, Some, refl, sym, subst, ap, ◌∙◌, arith, ◌⊎◌, inl, inr, length-append}
use Rattle.std.proofs.lemmas.List.{length-set}
use Rattle.td_typecode.specs.declared.code.Any.{Any}
use Rattle.td_net.specs.Schedules.{Run, over, then}
use Rattle.td_net.specs.Worlds.{World, Becomes, EventResult, Refused, Moved, Closing, answer_at, answer_by}
use Rattle.td_net.specs.Worlds.{answer_in_stage}
use Rattle.td_net.specs.Worlds.{ask_at, begun_by, change_at, deliver_at, deliver_in, deliver_to, deliver_call}
use Rattle.td_net.specs.Worlds.{delivery_of}
use Rattle.td_net.specs.Worlds.{fault_in, fault_of, hand_on, hand_answer, open_call, with_begun, lose_at, lose_by}
use Rattle.td_net.specs.Worlds.{placed_by}
use Rattle.td_net.specs.Worlds.{resume_caller, resumed_in, sent, step_of, value_at, value_in}
use Rattle.td_net.specs.declared.call.Call.{Call}
use Rattle.td_net.specs.declared.call.Stage.{Stage}
use Rattle.td_net.specs.declared.call.Stage.TheVariants.{Sent, Running, Evaluating, Waiting, Ended}
use Rattle.td_net.specs.declared.call.QuestionStep.{QuestionStep}
use Rattle.td_net.specs.declared.event.Event.{Event}
use Rattle.td_net.specs.declared.event.Event.TheVariants.{Change as Changed, Ask, Deliver, Value, Answer, Lose}
use Rattle.td_net.specs.declared.advancing.Pending.{Pending}
use Rattle.td_net.specs.declared.advancing.Pending.TheVariants as pending
use Rattle.td_net_laws.proofs.Places.{get-append, get-last, get-set}
use Rattle.td_ops.specs.declared.call.Change.{Change}
use Rattle.td_ops.specs.declared.call.Query.{Query}
use Rattle.td_store.specs.declared.local.Local.{Local}
use Rattle.td_trader.specs.PlainTraders.{PlainTrader, begin_at}
use Rattle.td_trader.specs.declared.begin.Begin.{Begin}
use Rattle.td_trader.specs.declared.begin.Begin.TheVariants as begin
use Rattle.td_walk.specs.declared.answer.StepAnswer.{StepAnswer}

-- the call of this number is there, and this holds of it
pub record Keeps (P : Call → Type 0) (d : ℕ) (calls : List Call) : Type 0 where
  pub within : d < length calls
  pub holds : (k : Call) → slice_get calls d ≡ Some k → P k

-- it is told by the call's root and query
abbrev pub IsFixed : (Call → Type 0) → Type 0
IsFixed P = (k m : Call) → m.root ≡ k.root → m.query ≡ k.query → P k → P m

-- there is a call of this number, with the root and the query of the other one
record Stands (calls : List Call) (c : ℕ) (k : Call) : Type 0 where
  old : Call
  is : slice_get calls c ≡ Some old
  root : k.root ≡ old.root
  query : k.query ≡ old.query

module _ (P : Call → Type 0) (fixed : IsFixed P) (d : ℕ) where
  root-set : (calls : List Call) (c : ℕ) (k m : Call) → Stands calls c k → m.root ≡ k.root → m.query ≡ k.query
      → Keeps P d calls → Keeps P d (slice_set calls c m)
  root-set calls c k m stands root query h = record {
    within = let w = h.within in omega (arith, w, length-set calls c m);
    holds = λ x here. by x (get-set calls c d stands.old m x stands.is here);
  } where
    by : (x : Call) → ((d ≡ c) × (m ≡ x)) ⊎ ((d ≡ c → ⊥) × (slice_get calls d ≡ Some x)) → P x
    by x (inl e) =
        fixed stands.old x (sym (ap (λ (z : Call). z.root) e.1) ∙ (root ∙ stands.root))
        (sym (ap (λ (z : Call). z.query) e.1) ∙ (query ∙ stands.query))
        (h.holds stands.old (subst (λ (z : ℕ). slice_get calls z ≡ Some stands.old) (sym e.0) stands.is))
    by x (inr e) = h.holds x e.1

  root-more : (calls : List Call) (m : Call) → Keeps P d calls → Keeps P d (calls ++ m ∷ [])
  root-more calls m h = record {
    within = let w = h.within in omega (arith, w, length-append calls (m ∷ []));
    holds = λ x here. by x (get-append calls m d x here);
  } where
    by : (x : Call) → ((d ≡ length calls) × (m ≡ x)) ⊎ (slice_get calls d ≡ Some x) → P x
    by x (inl e) = absurd (let w = h.within in let same = e.0 in let no : ⊥ = omega (arith, w, same) in no)
    by x (inr e) = h.holds x e

  abbrev TakenRoot : EventResult → Type 0
  TakenRoot (Refused f) = Unit {0}
  TakenRoot (Moved v) = Keeps P d v.calls
  TakenRoot (Closing v c k l rs ss) = Keeps P d v.calls × Stands v.calls c k

  becomes-root : (w u : World) (t : EventResult) → Keeps P d w.calls → TakenRoot t → Becomes w t u → Keeps P d u.calls
  becomes-root w u (Refused f) all h b = subst (λ (z : World). Keeps P d z.calls) (sym b) all
  becomes-root w u (Moved v) all h b = subst (λ (z : World). Keeps P d z.calls) (sym b) h
  becomes-root w u (Closing v c k l rs ss) all h b =
      subst (λ (z : World). Keeps P d z.calls) (sym b.2) (root-set v.calls c k _ h.1 refl refl h.0)

  placed-root : (w : World) (c : ℕ) (k : Call) (l : Local) (rs : List StepAnswer) (ss : List QuestionStep) (p : Pending)
      → Keeps P d w.calls → Stands w.calls c k → TakenRoot (placed_by w c k l rs ss p)
  placed-root w c k l rs ss pending.Nothing h at = (h, at)
  placed-root w c k l rs ss pending.Value h at = root-set w.calls c k _ at refl refl h
  placed-root w c k l rs ss (pending.SubQuery target q) h at =
      root-more (slice_set w.calls c _) (sent target q k.root (Some c)) (root-set w.calls c k _ at refl refl h)

  begun-root : (w : World) (c : ℕ) (k : Call) (b : Begin) → Keeps P d w.calls → Stands w.calls c k
      → TakenRoot (begun_by w c k b)
  begun-root w c k (begin.Refused o) h at = root-set w.calls c k _ at refl refl h
  begun-root w c k (begin.Repeat number) h at = root-set w.calls c k _ at refl refl h
  begun-root w c k (begin.Search l) h at = placed-root w c k l _ _ _ h at
  begun-root w c k (begin.Path l) h at = placed-root w c k l _ _ _ h at

  -- what was delivered has the same root
  to-root : (w : World) (c : ℕ) (k : Call) (t : Option PlainTrader) → Keeps P d w.calls → Stands w.calls c k
      → TakenRoot (deliver_to w c k t)
  to-root w c k None h at = tt
  to-root w c k (Some t) h at =
      begun-root (with_begun w k.target t k.query) c (deliver_call k (delivery_of w.clock t)) (begin_at t k.query) h
      (record { old = at.old; is = at.is; root = at.root; query = at.query })

  in-root : (w : World) (c : ℕ) (k : Call) (s : Stage) → Keeps P d w.calls → Stands w.calls c k
      → TakenRoot (deliver_in w c k s)
  in-root w c k Sent h at = to-root w c k (slice_get w.traders k.target) h at
  in-root w c k Running h at = tt
  in-root w c k (Evaluating f) h at = tt
  in-root w c k (Waiting f e) h at = tt
  in-root w c k (Ended v) h at = tt

  itself : (calls : List Call) (c : ℕ) (k : Call) → slice_get calls c ≡ Some k → Stands calls c k
  itself calls c k is = record { old = k; is = is; root = refl; query = refl }

  value-in-root : (w : World) (c : ℕ) (k : Call) (v : Option Any) (s : Stage) → Keeps P d w.calls
      → Stands w.calls c k → TakenRoot (value_in w c k v s)
  value-in-root w c k v Sent h at = tt
  value-in-root w c k v Running h at = tt
  value-in-root w c k v (Evaluating f) h at = placed-root w c k f.local _ _ _ h at
  value-in-root w c k v (Waiting f e) h at = tt
  value-in-root w c k v (Ended a) h at = tt

  resumed-in-root : (w : World) (p : ℕ) (k : Call) (s : QuestionStep) (r : StepAnswer) (stage : Stage) → Keeps P d w.calls
      → Stands w.calls p k → TakenRoot (resumed_in w p k s r stage)
  resumed-in-root w p k s r Sent h at = h
  resumed-in-root w p k s r Running h at = h
  resumed-in-root w p k s r (Evaluating f) h at = h
  resumed-in-root w p k s r (Waiting f e) h at = placed-root w p k f.local _ _ _ h at
  resumed-in-root w p k s r (Ended v) h at = h

  resumed-root : (w : World) (p : ℕ) (s : QuestionStep) (r : StepAnswer) (k : Option Call) → Keeps P d w.calls
      → slice_get w.calls p ≡ k → TakenRoot (resume_caller w p s r k)
  resumed-root w p s r None h is = h
  resumed-root w p s r (Some k) h is = resumed-in-root w p k s r k.stage h (itself w.calls p k is)

  hand-root : (w : World) (e : ℕ) (k : Call) (p : ℕ) (s : QuestionStep) (r : StepAnswer) → Keeps P d w.calls
      → Stands w.calls e k → TakenRoot (hand_on w e k p s r)
  hand-root w e k p s r h at = resumed-root (hand_answer w e k) p s r _ (root-set w.calls e k _ at refl refl h) refl

  answer-stage-root : (w : World) (e : ℕ) (k : Call) (p : ℕ) (s : Stage) → Keeps P d w.calls → Stands w.calls e k
      → TakenRoot (answer_in_stage w e k p s)
  answer-stage-root w e k p Sent h at = tt
  answer-stage-root w e k p Running h at = tt
  answer-stage-root w e k p (Evaluating f) h at = tt
  answer-stage-root w e k p (Waiting f g) h at = tt
  answer-stage-root w e k p (Ended v) h at = hand-root w e k p _ _ h at

  answer-by-root : (w : World) (e : ℕ) (k : Call) (caller : Option ℕ) (b : Bool) → Keeps P d w.calls
      → Stands w.calls e k → TakenRoot (answer_by w e k caller b)
  answer-by-root w e k None b h at = tt
  answer-by-root w e k (Some p) true h at = tt
  answer-by-root w e k (Some p) false h at = answer-stage-root w e k p k.stage h at

  lose-by-root : (w : World) (e : ℕ) (k : Call) (caller : Option ℕ) (b : Bool) → Keeps P d w.calls
      → Stands w.calls e k → TakenRoot (lose_by w e k caller b)
  lose-by-root w e k None b h at = tt
  lose-by-root w e k (Some p) true h at = tt
  lose-by-root w e k (Some p) false h at = hand-root w e k p _ _ h at

  -- ---- the events

  change-root : (w : World) (n : ℕ) (c : Change) (t : Option PlainTrader) → Keeps P d w.calls
      → TakenRoot (change_at w n c t)
  change-root w n c None h = tt
  change-root w n c (Some t) h = h

  ask-root : (w : World) (n : ℕ) (q : Query) (t : Option PlainTrader) → Keeps P d w.calls → TakenRoot (ask_at w n q t)
  ask-root w n q None h = tt
  ask-root w n q (Some t) h =
      let k = sent n q (length w.calls) None in
      to-root _ (length w.calls) k (Some t) (root-more w.calls k h)
      (itself (w.calls ++ k ∷ []) (length w.calls) k (get-last w.calls k))

  deliver-root : (w : World) (c : ℕ) (k : Option Call) → Keeps P d w.calls → slice_get w.calls c ≡ k
      → TakenRoot (deliver_at w c k)
  deliver-root w c None h is = tt
  deliver-root w c (Some k) h is = in-root w c k k.stage h (itself w.calls c k is)

  value-root : (w : World) (c : ℕ) (v : Option Any) (k : Option Call) → Keeps P d w.calls → slice_get w.calls c ≡ k
      → TakenRoot (value_at w c v k)
  value-root w c v None h is = tt
  value-root w c v (Some k) h is = value-in-root w c k v k.stage h (itself w.calls c k is)

  answer-root : (w : World) (e : ℕ) (k : Option Call) → Keeps P d w.calls → slice_get w.calls e ≡ k
      → TakenRoot (answer_at w e k)
  answer-root w e None h is = tt
  answer-root w e (Some k) h is = answer-by-root w e k k.caller k.handed h (itself w.calls e k is)

  lose-root : (w : World) (e : ℕ) (k : Option Call) → Keeps P d w.calls → slice_get w.calls e ≡ k
      → TakenRoot (lose_at w e k)
  lose-root w e None h is = tt
  lose-root w e (Some k) h is = lose-by-root w e k k.caller k.handed h (itself w.calls e k is)

  step-root : (w : World) (e : Event) → Keeps P d w.calls → TakenRoot (step_of w e)
  step-root w (Changed n c) h = change-root w n c (slice_get w.traders n) h
  step-root w (Ask n q) h = ask-root w n q (slice_get w.traders n) h
  step-root w (Deliver c) h = deliver-root w c (slice_get w.calls c) h refl
  step-root w (Value c v) h = value-root w c v (slice_get w.calls c) h refl
  step-root w (Answer e) h = answer-root w e (slice_get w.calls e) h refl
  step-root w (Lose e) h = lose-root w e (slice_get w.calls e) h refl

  pub run-keeps : (w u : World) (es : List Event) → Keeps P d w.calls → Run w es u → Keeps P d u.calls
  run-keeps w u [] h over = h
  run-keeps w u (e ∷ es) h (then {v = v} b rest) =
      run-keeps v u es (becomes-root w v (step_of w e) h (step-root w e h) b) rest

-- ---- the Ask itself

opened-root : (P : Call → Type 0) (calls : List Call) (k : Call) → P k → Keeps P (length calls) (calls ++ k ∷ [])
opened-root P calls k p = record {
  within = omega (arith, length-append calls (k ∷ []));
  holds = λ x here. (let e : ◌≡◌ {A = Option Call} (Some k) (Some x) = sym (get-last calls k) ∙ here in
      let same : k ≡ x = cc in subst P same p);
}

-- what an accepted event makes of a world isn't told by the world before
becomes-other : (w x u : World) (t : EventResult) → fault_in t ≡ None → Becomes w t u → Becomes x t u
becomes-other w x u (Refused f) e b = absurd (cc)
becomes-other w x u (Moved v) e b = b
becomes-other w x u (Closing v c k l rs ss) e b = b

module _ (P : Call → Type 0) (fixed : IsFixed P) where
  asked-by : (w u : World) (n : ℕ) (q : Query) (t : Option PlainTrader) → P (sent n q (length w.calls) None)
      → (fault_in (ask_at w n q t) ≡ None) → Becomes w (ask_at w n q t) u → Keeps P (length w.calls) u.calls
  asked-by w u n q None p f b = absurd (let e = f in cc)
  asked-by w u n q (Some t) p f b =
      let k = sent n q (length w.calls) None in
      let here = opened-root P w.calls k p in
      becomes-root P fixed (length w.calls) (open_call w k) u (ask_at w n q (Some t)) here
      (to-root P fixed (length w.calls) (open_call w k) (length w.calls) k (Some t) here
      (itself P fixed (length w.calls) (w.calls ++ k ∷ []) (length w.calls) k (get-last w.calls k)))
      (becomes-other w (open_call w k) u (ask_at w n q (Some t)) f b)

  -- what holds of the call that an Ask opens
  pub asked-keeps : (w u : World) (n : ℕ) (q : Query) → P (sent n q (length w.calls) None)
      → fault_of w (Ask n q) ≡ None → Becomes w (step_of w (Ask n q)) u → Keeps P (length w.calls) u.calls
  asked-keeps w u n q p f b = asked-by w u n q (slice_get w.traders n) p f b

-- ---- the call that an Ask opens stays its own root

abbrev pub HasRoot : ℕ → Call → Type 0
HasRoot d k = k.root ≡ d

pub root-fixed : (d : ℕ) → IsFixed (HasRoot d)
root-fixed d k m root query h = root ∙ h

abbrev pub HasQuery : Query → Call → Type 0
HasQuery q k = k.query ≡ q

pub query-fixed : (q : Query) → IsFixed (HasQuery q)
query-fixed q k m root query h = query ∙ h
