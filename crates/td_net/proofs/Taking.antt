-- How an event is taken that comes to a call: refused where the call isn't there or isn't in the state that it needs.
use Rattle.std.proofs.Common.{◌≡◌, ◌⊎◌, inl, inr, ℕ, zero, suc, ◌<◌, ◌≤◌, Bool, true, false, List, [], ◌∷◌}
use Rattle.std.proofs.Common.{length, slice_get}
use Rattle.std.proofs.Common.{slice_set, slice_index_or, refl, sym, ◌∙◌, ap, subst, arith, is_some}
use Rattle.std.proofs.lemmas.Option.{slice_get_past, slice_get_read}
use Rattle.std.specs.Prelude.{Option, None, Some, Result, Ok, Err}
use Rattle.td_typecode.specs.declared.code.Any.{Any}
use Rattle.td_net.proofs.Becoming.{set-get}
use Rattle.td_net.proofs.Delivering.{Goes, begun-goes, goes-on}
use Rattle.td_net.specs.Supplies.{WordSupply}
use Rattle.td_net.specs.Worlds.{Becomes, Closing, HasVisits, IsLeft, KeepsEnded, Moved, Refused, EventResult, TakenAs}
use Rattle.td_net.specs.Worlds.{World}
use Rattle.td_net.specs.Worlds.{after, answer_at, answer_by, answer_in_stage, change_at, evaluates}
use Rattle.td_net.specs.Worlds.{frame_in, hand_on, hand_answer, lose_at, lose_by, resume_caller, resumed_in, takes}
use Rattle.td_net.specs.Worlds.{value_answer, value_at, value_in, value_step, visit_in, waits}
use Rattle.td_net.specs.declared.call.Call.{Call}
use Rattle.td_net.specs.declared.call.Stage.{Stage}
use Rattle.td_net.specs.declared.call.Stage.TheVariants.{Sent, Running, Evaluating, Waiting, Ended}
use Rattle.td_net.specs.declared.call.QuestionStep.{QuestionStep}
use Rattle.td_net.specs.declared.call.QuestionStep.TheVariants as step
use Rattle.td_net.specs.declared.event.NetFault.{NetFault}
use Rattle.td_net.specs.declared.event.NetFault.TheVariants.{NoCall, WrongState, Memory}
use Rattle.td_net.specs.Worlds.{ask_at, deliver_call, delivery_of, open_call, sent, with_begun, world}
use Rattle.td_ops.specs.declared.call.Change.{Change}
use Rattle.td_ops.specs.declared.call.Query.{Query}
use Rattle.td_trader.specs.PlainTraders.{PlainTrader, begin_at}
use Rattle.td_walk.specs.declared.trace.Address.{Address}
use Rattle.td_visit.specs.Standing.{FrameState}
use Rattle.td_walk.specs.declared.answer.StepAnswer.{StepAnswer}
use Rattle.td_walk.specs.declared.answer.StepAnswer.TheVariants as given
use Rattle.td_walk.specs.declared.trace.Visit.{Visit}
use Rattle.td_query_walk.specs.Walks.{answer_in}

-- ---- what stands there

pub there : {A : Type 0} (xs : List A) (i : ℕ) (x : A) → i < length xs → x ≡ slice_index_or xs i x
    → slice_get xs i ≡ Some x
there xs i x within value = slice_get_read xs (length xs) i x refl within value

pub nothing-there : {A : Type 0} (xs : List A) (i : ℕ) → length xs ≤ i → slice_get xs i ≡ None
nothing-there xs i h = slice_get_past xs i h

-- ---- events that go, and events that are refused

pub taken-ok : (v w : World) (t : EventResult) (u : World) → Goes t → Becomes v t u → TakenAs w t (Ok tt) u
taken-ok v w (Refused f) u goes b = absurd (let bad : ◌≡◌ {A = Option NetFault} (Some f) None = goes in cc)
taken-ok v w (Moved x) u goes b = b
taken-ok v w (Closing x c k l rs ss) u goes b = b

pub taken-err : (w : World) (t : EventResult) (u : World) → Goes t → IsLeft w t u → TakenAs w t (Err Memory) u
taken-err w (Refused f) u goes left = absurd (let bad : ◌≡◌ {A = Option NetFault} (Some f) None = goes in cc)
taken-err w (Moved v) u goes left = (refl, left)
taken-err w (Closing v c k l rs ss) u goes left = (refl, left)

pub refused-as : (w : World) (t : EventResult) (f : NetFault) (u : World) → t ≡ Refused f → u ≡ w → TakenAs w t (Err f) u
refused-as w t f u is same = subst (λ z. TakenAs w z (Err f) u) (sym is) (refl, same)

-- the traders are as they were
pub left-alone : (w : World) (t : EventResult) (calls : List Call) (s : WordSupply) (now : List Call) (drawn : ℕ)
    → HasVisits w calls s → KeepsEnded calls now → IsLeft w t (after w now drawn)
left-alone w t calls s now drawn h kept =
    record { traders = inl refl; ended = subst (λ z. KeepsEnded z now) (sym h.calls_are) kept }

pub unchanged : (w : World) (calls : List Call) (s : WordSupply) → HasVisits w calls s → after w calls s.drawn ≡ w
unchanged w calls s h =
    ap (λ z. after w z s.drawn) (sym h.calls_are) ∙ ap (λ z. after w w.calls z) (sym h.drawn_is)

-- what stands at a call's place in the world
pub at-call : (w : World) (calls : List Call) (s : WordSupply) (c : ℕ) (o : Option Call) → HasVisits w calls s
    → slice_get calls c ≡ o → slice_get w.calls c ≡ o
at-call w calls s c o h is = ap (λ z. slice_get z c) h.calls_are ∙ is

-- a trader can't judge a change when out of memory
pub change-wants : (ts : List PlainTrader) (n : ℕ) (c : Change) (x new : PlainTrader) (w : World) → n < length ts
    → x ≡ slice_index_or ts n x → new ≡ x → w.traders ≡ ts
    → TakenAs w (change_at w n c (slice_get w.traders n)) (Err Memory) (record w { traders = slice_set ts n new })
change-wants ts n c x new w within value same h =
    let is : slice_get ts n ≡ Some x = there ts n x within value in
    let at : slice_get w.traders n ≡ Some x = ap (λ z. slice_get z n) h ∙ is in
    let as_before : slice_set ts n new ≡ w.traders = ap (slice_set ts n) same ∙ (set-get ts n x is ∙ sym h) in
    subst (λ o. TakenAs w (change_at w n c o) (Err Memory) (record w { traders = slice_set ts n new })) (sym at)
    (refl, record { traders = inl as_before; ended = λ d v e. e })

-- a call can't be opened when out of memory
pub ask-wants : (ts : List PlainTrader) (home : Address) (calls now : List Call) (clock : ℕ) (s : WordSupply) (n : ℕ)
    (q : Query) (t : PlainTrader) → slice_get ts n ≡ Some t → now ≡ calls
    → let w = world ts home calls clock s.all s.drawn in
    TakenAs w (ask_at w n q (slice_get ts n)) (Err Memory) (world ts home now clock s.all s.drawn)
ask-wants ts home calls now clock s n q t is same =
    let w = world ts home calls clock s.all s.drawn in
    let v = open_call w (sent n q (length calls) None) in
    let u = world ts home now clock s.all s.drawn in
    subst (λ o. TakenAs w (ask_at w n q o) (Err Memory) u) (sym is)
    (taken-err w (ask_at w n q (Some t)) u
    (begun-goes (with_begun v n t q) (length calls) (deliver_call (sent n q (length calls) None) (delivery_of clock t))
    (begin_at t q))
    (record { traders = inl refl; ended = subst (λ z. KeepsEnded calls z) (sym same) (λ d a e. e) }))

-- ---- values

module _ (w : World) (c : ℕ) (v : Option Any) where
  value-goes : (k : Call) (f : FrameState) → Goes (takes w c k f (value_step v) (value_answer v))
  value-goes k f = goes-on w c k f.local _ _

  value-in-ok : (k : Call) (stage : Stage) (u : World) → evaluates stage ≡ true
      → ((f : FrameState) → frame_in stage ≡ Some f → Becomes w (takes w c k f (value_step v) (value_answer v)) u)
      → TakenAs w (value_in w c k v stage) (Ok tt) u
  value-in-ok k Sent u is h = absurd (let bad : false ≡ true = is in cc)
  value-in-ok k Running u is h = absurd (let bad : false ≡ true = is in cc)
  value-in-ok k (Evaluating f) u is h = taken-ok w w _ u (value-goes k f) (h f refl)
  value-in-ok k (Waiting f d) u is h = absurd (let bad : false ≡ true = is in cc)
  value-in-ok k (Ended a) u is h = absurd (let bad : false ≡ true = is in cc)

  value-in-err : (k : Call) (stage : Stage) (u : World) → evaluates stage ≡ true
      → ((t : EventResult) → IsLeft w t u) → TakenAs w (value_in w c k v stage) (Err Memory) u
  value-in-err k Sent u is h = absurd (let bad : false ≡ true = is in cc)
  value-in-err k Running u is h = absurd (let bad : false ≡ true = is in cc)
  value-in-err k (Evaluating f) u is h = taken-err w _ u (value-goes k f) (h _)
  value-in-err k (Waiting f d) u is h = absurd (let bad : false ≡ true = is in cc)
  value-in-err k (Ended a) u is h = absurd (let bad : false ≡ true = is in cc)

  value-in-not : (k : Call) (stage : Stage) (u : World) → evaluates stage ≡ false → u ≡ w
      → TakenAs w (value_in w c k v stage) (Err WrongState) u
  value-in-not k Sent u is same = (refl, same)
  value-in-not k Running u is same = (refl, same)
  value-in-not k (Evaluating f) u is same = absurd (let bad : true ≡ false = is in cc)
  value-in-not k (Waiting f d) u is same = (refl, same)
  value-in-not k (Ended a) u is same = (refl, same)

  -- in the terms of the code: x stands at the call's place
  module _ (calls : List Call) (s : WordSupply) (h : HasVisits w calls s) where
    pub value-nowhere : slice_get calls c ≡ None
        → TakenAs w (value_at w c v (slice_get w.calls c)) (Err NoCall) (after w calls s.drawn)
    value-nowhere is =
        subst (λ o. TakenAs w (value_at w c v o) (Err NoCall) (after w calls s.drawn))
        (sym (at-call w calls s c None h is)) (refl, unchanged w calls s h)

    pub value-refused : (x : Call) → slice_get calls c ≡ Some x → evaluates x.stage ≡ false
        → TakenAs w (value_at w c v (slice_get w.calls c)) (Err WrongState) (after w calls s.drawn)
    value-refused x is not =
        subst (λ o. TakenAs w (value_at w c v o) (Err WrongState) (after w calls s.drawn))
        (sym (at-call w calls s c (Some x) h is)) (value-in-not x x.stage _ not (unchanged w calls s h))

    pub value-taken : (x : Call) (u : World) → slice_get calls c ≡ Some x → evaluates x.stage ≡ true
        → ((f : FrameState) → frame_in x.stage ≡ Some f → Becomes w (takes w c x f (value_step v) (value_answer v)) u)
        → TakenAs w (value_at w c v (slice_get w.calls c)) (Ok tt) u
    value-taken x u is does b =
        subst (λ o. TakenAs w (value_at w c v o) (Ok tt) u) (sym (at-call w calls s c (Some x) h is))
        (value-in-ok x x.stage u does b)

    pub value-wants : (x : Call) (now : List Call) (drawn : ℕ) → slice_get calls c ≡ Some x
        → evaluates x.stage ≡ true → KeepsEnded calls now
        → TakenAs w (value_at w c v (slice_get w.calls c)) (Err Memory) (after w now drawn)
    value-wants x now drawn is does kept =
        subst (λ o. TakenAs w (value_at w c v o) (Err Memory) (after w now drawn))
        (sym (at-call w calls s c (Some x) h is))
        (value-in-err x x.stage _ does (λ t. left-alone w t calls s now drawn h kept))

-- a call that waits for a value waits for an answer
pub evaluating-waits : (stage : Stage) → evaluates stage ≡ true → is_some (frame_in stage) ≡ true
evaluating-waits Sent is = is
evaluating-waits Running is = is
evaluating-waits (Evaluating f) is = refl
evaluating-waits (Waiting f d) is = refl
evaluating-waits (Ended a) is = is

pub waiting-waits : (stage : Stage) → waits stage ≡ true → is_some (frame_in stage) ≡ true
waiting-waits Sent is = is
waiting-waits Running is = is
waiting-waits (Evaluating f) is = refl
waiting-waits (Waiting f d) is = refl
waiting-waits (Ended a) is = is

-- ---- a caller is handed an answer

module _ (w : World) (p : ℕ) (s : QuestionStep) (r : StepAnswer) where
  resumed-by : (k : Call) (stage : Stage) (u : World) → waits stage ≡ true
      → ((f : FrameState) → frame_in stage ≡ Some f → Becomes w (takes w p k f s r) u)
      → Becomes w (resumed_in w p k s r stage) u
  resumed-by k Sent u is h = absurd (let bad : false ≡ true = is in cc)
  resumed-by k Running u is h = absurd (let bad : false ≡ true = is in cc)
  resumed-by k (Evaluating f) u is h = absurd (let bad : false ≡ true = is in cc)
  resumed-by k (Waiting f d) u is h = h f refl
  resumed-by k (Ended a) u is h = absurd (let bad : false ≡ true = is in cc)

  not-resumed-by : (k : Call) (stage : Stage) (u : World) → waits stage ≡ false → u ≡ w
      → Becomes w (resumed_in w p k s r stage) u
  not-resumed-by k Sent u is same = same
  not-resumed-by k Running u is same = same
  not-resumed-by k (Evaluating f) u is same = same
  not-resumed-by k (Waiting f d) u is same = absurd (let bad : true ≡ false = is in cc)
  not-resumed-by k (Ended a) u is same = same

  goes-in : (k : Call) (stage : Stage) → Goes (resumed_in w p k s r stage)
  goes-in k Sent = refl
  goes-in k Running = refl
  goes-in k (Evaluating f) = refl
  goes-in k (Waiting f d) = goes-on w p k f.local _ _
  goes-in k (Ended a) = refl

  pub resumed-goes : (o : Option Call) → Goes (resume_caller w p s r o)
  resumed-goes None = refl
  resumed-goes (Some k) = goes-in k k.stage

  module _ (calls : List Call) (words : WordSupply) (h : HasVisits w calls words) where
    pub given-nowhere : slice_get calls p ≡ None
        → Becomes w (resume_caller w p s r (slice_get w.calls p)) (after w calls words.drawn)
    given-nowhere is =
        subst (λ o. Becomes w (resume_caller w p s r o) (after w calls words.drawn))
        (sym (at-call w calls words p None h is)) (unchanged w calls words h)

    pub not-given : (x : Call) → slice_get calls p ≡ Some x → waits x.stage ≡ false
        → Becomes w (resume_caller w p s r (slice_get w.calls p)) (after w calls words.drawn)
    not-given x is not =
        subst (λ o. Becomes w (resume_caller w p s r o) (after w calls words.drawn))
        (sym (at-call w calls words p (Some x) h is)) (not-resumed-by x x.stage _ not (unchanged w calls words h))

    pub given-to : (x : Call) (u : World) → slice_get calls p ≡ Some x → waits x.stage ≡ true
        → ((f : FrameState) → frame_in x.stage ≡ Some f → Becomes w (takes w p x f s r) u)
        → Becomes w (resume_caller w p s r (slice_get w.calls p)) u
    given-to x u is does b =
        subst (λ o. Becomes w (resume_caller w p s r o) u) (sym (at-call w calls words p (Some x) h is))
        (resumed-by x x.stage u does b)

-- ---- an answer is handed on, or lost

-- a call that is written anew with its stage
pub keeps-stage : (calls : List Call) (c : ℕ) (k x : Call) → slice_get calls c ≡ Some k → x.stage ≡ k.stage
    → KeepsEnded calls (slice_set calls c x)
keeps-stage [] c k x is same d v ended = ended
keeps-stage (y ∷ ys) zero k x is same zero v ended =
    let e : y ≡ k = cc in
    ap visit_in same ∙ (ap (λ (z : Call). visit_in z.stage) (sym e) ∙ ended)
keeps-stage (y ∷ ys) zero k x is same (suc d) v ended = ended
keeps-stage (y ∷ ys) (suc c) k x is same zero v ended = ended
keeps-stage (y ∷ ys) (suc c) k x is same (suc d) v ended = keeps-stage ys c k x is same d v ended

pub kept-on : (a b c : List Call) → KeepsEnded a b → KeepsEnded b c → KeepsEnded a c
kept-on a b c h k d v ended = k d v (h d v ended)

not-ended : (w : World) (d : ℕ) (k : Call) (p : ℕ) (stage : Stage) → visit_in stage ≡ None
    → answer_in_stage w d k p stage ≡ Refused WrongState
not-ended w d k p Sent is = refl
not-ended w d k p Running is = refl
not-ended w d k p (Evaluating f) is = refl
not-ended w d k p (Waiting f e) is = refl
not-ended w d k p (Ended v) is = absurd (let bad : ◌≡◌ {A = Option Visit} (Some v) None = is in cc)

ended-so : (w : World) (d : ℕ) (k : Call) (p : ℕ) (stage : Stage) (v : Visit) → visit_in stage ≡ Some v
    → answer_in_stage w d k p stage ≡ hand_on w d k p (step.Given d) (given.Offers (answer_in v))
ended-so w d k p Sent v is = absurd (let bad : ◌≡◌ {A = Option Visit} None (Some v) = is in cc)
ended-so w d k p Running v is = absurd (let bad : ◌≡◌ {A = Option Visit} None (Some v) = is in cc)
ended-so w d k p (Evaluating f) v is = absurd (let bad : ◌≡◌ {A = Option Visit} None (Some v) = is in cc)
ended-so w d k p (Waiting f e) v is = absurd (let bad : ◌≡◌ {A = Option Visit} None (Some v) = is in cc)
ended-so w d k p (Ended a) v is =
    let same : a ≡ v = cc in ap (λ z. hand_on w d k p (step.Given d) (given.Offers (answer_in z))) same

no-second : (w : World) (d : ℕ) (k : Call) (o : Option ℕ) → answer_by w d k o true ≡ Refused WrongState
no-second w d k None = refl
no-second w d k (Some p) = refl

no-second-loss : (w : World) (d : ℕ) (k : Call) (o : Option ℕ) → lose_by w d k o true ≡ Refused WrongState
no-second-loss w d k None = refl
no-second-loss w d k (Some p) = refl

module _ (w : World) (d : ℕ) (calls : List Call) (s : WordSupply) (h : HasVisits w calls s) where
  pub answer-nowhere : slice_get calls d ≡ None → answer_at w d (slice_get w.calls d) ≡ Refused NoCall
  answer-nowhere is = ap (answer_at w d) (at-call w calls s d None h is)

  pub lose-nowhere : slice_get calls d ≡ None → lose_at w d (slice_get w.calls d) ≡ Refused NoCall
  lose-nowhere is = ap (lose_at w d) (at-call w calls s d None h is)

  module _ (x : Call) (is : slice_get calls d ≡ Some x) where
    answer-of : answer_at w d (slice_get w.calls d) ≡ answer_by w d x x.caller x.handed
    answer-of = ap (answer_at w d) (at-call w calls s d (Some x) h is)

    lose-of : lose_at w d (slice_get w.calls d) ≡ lose_by w d x x.caller x.handed
    lose-of = ap (lose_at w d) (at-call w calls s d (Some x) h is)

    pub answer-unasked : x.caller ≡ None → answer_at w d (slice_get w.calls d) ≡ Refused WrongState
    answer-unasked none = answer-of ∙ ap (λ z. answer_by w d x z x.handed) none

    pub lose-unasked : x.caller ≡ None → lose_at w d (slice_get w.calls d) ≡ Refused WrongState
    lose-unasked none = lose-of ∙ ap (λ z. lose_by w d x z x.handed) none

    pub answer-twice : x.handed ≡ true → answer_at w d (slice_get w.calls d) ≡ Refused WrongState
    answer-twice twice = answer-of ∙ (ap (λ z. answer_by w d x x.caller z) twice ∙ no-second w d x x.caller)

    pub lose-twice : x.handed ≡ true → lose_at w d (slice_get w.calls d) ≡ Refused WrongState
    lose-twice twice = lose-of ∙ (ap (λ z. lose_by w d x x.caller z) twice ∙ no-second-loss w d x x.caller)

    module _ (p : ℕ) (caller : x.caller ≡ Some p) (once : x.handed ≡ false) where
      answer-first : answer_at w d (slice_get w.calls d) ≡ answer_in_stage w d x p x.stage
      answer-first =
          answer-of ∙ (ap (λ z. answer_by w d x z x.handed) caller ∙ ap (λ z. answer_by w d x (Some p) z) once)

      pub answer-early : visit_in x.stage ≡ None → answer_at w d (slice_get w.calls d) ≡ Refused WrongState
      answer-early unended = answer-first ∙ not-ended w d x p x.stage unended

      pub answer-so : (v : Visit) → visit_in x.stage ≡ Some v
          → answer_at w d (slice_get w.calls d) ≡ hand_on w d x p (step.Given d) (given.Offers (answer_in v))
      answer-so v ended = answer-first ∙ ended-so w d x p x.stage v ended

      pub lose-so : lose_at w d (slice_get w.calls d) ≡ hand_on w d x p (step.Lost d) given.Failed
      lose-so = lose-of ∙ (ap (λ z. lose_by w d x z x.handed) caller ∙ ap (λ z. lose_by w d x (Some p) z) once)

    -- what the code does once the call is marked
    module _ (p : ℕ) (y : Call) (marked : y ≡ record x { handed = true }) (t : EventResult) (step_is : QuestionStep)
        (answer : StepAnswer) (t_is : t ≡ hand_on w d x p step_is answer) where
      handed-goes : Goes t
      handed-goes =
          subst Goes (sym t_is)
          (resumed-goes (hand_answer w d x) p step_is answer (slice_get (hand_answer w d x).calls p))

      has-handed : HasVisits (hand_answer w d x) (slice_set calls d y) s
      has-handed = record {
        calls_are =
            ap (λ z. slice_set z d (record x { handed = true })) h.calls_are
            ∙ ap (λ z. slice_set calls d z) (sym marked);
        words_are = h.words_are;
        drawn_is = h.drawn_is;
      }

      pub handed-on : (u : List Call) (drawn : ℕ)
          → ((v : World) → v.traders ≡ w.traders → v.home ≡ w.home → HasVisits v (slice_set calls d y) s
          → Becomes v (resume_caller v p step_is answer (slice_get v.calls p)) (after v u drawn))
          → TakenAs w t (Ok tt) (after w u drawn)
      handed-on u drawn later =
          taken-ok (hand_answer w d x) w t (after w u drawn) handed-goes
          (subst (λ z. Becomes (hand_answer w d x) z (after w u drawn)) (sym t_is)
          (later (hand_answer w d x) refl refl has-handed))

      pub handed-wants : (u : List Call) (drawn : ℕ) → KeepsEnded (slice_set calls d y) u
          → TakenAs w t (Err Memory) (after w u drawn)
      handed-wants u drawn kept =
          taken-err w t (after w u drawn) handed-goes
          (left-alone w t calls s u drawn h
          (kept-on calls (slice_set calls d y) u
          (keeps-stage calls d x y is (ap (λ (z : Call). z.stage) marked)) kept))

    -- where the offers can't be copied
    pub handed-fails : (t : EventResult) (p : ℕ) (step_is : QuestionStep) (answer : StepAnswer)
        → t ≡ hand_on w d x p step_is answer → TakenAs w t (Err Memory) (after w calls s.drawn)
    handed-fails t p step_is answer t_is =
        taken-err w t (after w calls s.drawn)
        (subst Goes (sym t_is)
        (resumed-goes (hand_answer w d x) p step_is answer (slice_get (hand_answer w d x).calls p)))
        (left-alone w t calls s calls s.drawn h (λ c v e. e))

-- ---- an event as the network takes it

-- what is done to the calls and words of a world is done to the network's
pub as-world : (ts : List PlainTrader) (home : Address) (calls now : List Call) (clock : ℕ) (s z : WordSupply)
    (t : EventResult) (r : Result Unit NetFault) → z.all ≡ s.all
    → TakenAs (world ts home calls clock s.all s.drawn) t r
    (after (world ts home calls clock s.all s.drawn) now z.drawn)
    → TakenAs (world ts home calls clock s.all s.drawn) t r (world ts home now clock z.all z.drawn)
as-world ts home calls now clock s z t r same h =
    subst (λ x. TakenAs (world ts home calls clock s.all s.drawn) t r (world ts home now clock x z.drawn)) (sym same) h
