-- What every event keeps of the calls: each one's equation, who waits for whom, and that all are still there.
use Rattle.std.proofs.Common.{◌≡◌, ℕ, ◌+◌, List, [], ◌∷◌, ◌++◌, length, slice_get, slice_set, Option, Some, None}
use Rattle.std.proofs.Common.{Bool}
use Rattle.std.proofs.Common.{true, false, refl, sym, ◌∙◌, ap, subst, arith, ◌⊎◌, inl, inr, length-append}
use Rattle.td_typecode.specs.declared.code.Any.{Any}
use Rattle.td_typecode.specs.declared.reference.Ior.{Ior}
use Rattle.td_net.specs.Schedules.{Run, over, then}
use Rattle.td_net.specs.Worlds.{World, Becomes, inside, sent, goes_on, change_at, delivery_of, deliver_call, begun_by}
use Rattle.td_net.specs.Worlds.{with_begun}
use Rattle.td_net.specs.Worlds.{deliver_to, deliver_in, deliver_at, open_call, ask_at, takes, value_step, value_answer}
use Rattle.td_net.specs.Worlds.{value_in}
use Rattle.td_net.specs.Worlds.{value_at, resumed_in, resume_caller, hand_answer, hand_on, answer_in_stage, answer_by}
use Rattle.td_net.specs.Worlds.{answer_at}
use Rattle.td_net.specs.Worlds.{lose_by, lose_at, step_of}
use Rattle.td_net.specs.declared.call.Call.{Call}
use Rattle.td_net.specs.declared.call.Delivery.{Delivery}
use Rattle.td_net.specs.declared.call.Stage.{Stage}
use Rattle.td_net.specs.declared.call.Stage.TheVariants.{Sent, Running, Evaluating, Waiting, Ended}
use Rattle.td_net.specs.declared.call.QuestionStep.{QuestionStep}
use Rattle.td_net.specs.declared.call.QuestionStep.TheVariants as step
use Rattle.td_net.specs.declared.event.Event.{Event}
use Rattle.td_net.specs.declared.event.Event.TheVariants.{Change as Changed, Ask, Deliver, Value, Answer, Lose}
use Rattle.td_net_laws.proofs.Below.{Begins, IsLocal, along, begins, refused, repeats, searches}
use Rattle.td_net_laws.proofs.Going.{Went, goes_on-went}
use Rattle.td_net_laws.proofs.Names.{inside-set}
use Rattle.td_net_laws.proofs.Places.{get-set_same, get-set_other, get-set, get-last}
use Rattle.td_net_laws.proofs.Points.{past-begin, past-change}
use Rattle.td_net_laws.proofs.Rights.{CallerRight, Later, Over, Right, RootRight, Rights, Same, Stands, StageRight}
use Rattle.td_net_laws.proofs.Rights.{later-more}
use Rattle.td_net_laws.proofs.Rights.{later-on, later-same, later-set, rights-open, rights-set, same-itself, seeks}
use Rattle.td_net_laws.proofs.Marking.{same_or_not}
use Rattle.td_net_laws.proofs.Waits.{IsWaiting, Kids, NobodyFor, NoKids, Waits, WaitsAt, kids-open, kids-set}
use Rattle.td_net_laws.proofs.Waits.{none-yet}
use Rattle.td_net_laws.proofs.Waits.{waits-open, waits-set}
use Rattle.td_net_laws.specs.Arrivals.{Way, Nowhere, Along, Here, HasReadPolicies, path_at, search_at}
use Rattle.td_net_laws.specs.Arrivals.{stated_identifier}
use Rattle.td_net_laws.specs.Arrivals.{way_of}
use Rattle.td_net_laws.specs.Steps.{GivesAnswer, AsksEach, EndedAs, Led, IsSubCall, given as gave, lost, nothing_yet}
use Rattle.td_net_laws.specs.Steps.{unvalued, valued}
use Rattle.td_ops.specs.declared.call.Change.{Change}
use Rattle.td_ops.specs.declared.call.Query.{Query}
use Rattle.td_store.specs.declared.local.Local.{Local}
use Rattle.td_trader.specs.Beginning.{is_search}
use Rattle.td_trader.specs.PlainTraders.{PlainTrader, after_begin, after_change, begin_at}
use Rattle.td_trader.specs.declared.begin.Begin.{Begin}
use Rattle.td_trader.specs.declared.begin.Begin.TheVariants as begin
use Rattle.td_trader_laws.specs.Reaching.{AreReached}
use Rattle.td_visit.specs.Standing.{FrameState}
use Rattle.td_walk.specs.Visits.{next_of}
use Rattle.td_walk.specs.declared.answer.Next.TheVariants.{Forward}
use Rattle.td_walk.specs.declared.answer.StepAnswer.{StepAnswer}
use Rattle.td_walk.specs.declared.answer.StepAnswer.TheVariants as given
use Rattle.td_walk.specs.declared.answer.SubAnswer.{SubAnswer}
use Rattle.td_walk.specs.declared.trace.Visit.{Visit}
use Rattle.td_walk.specs.declared.trace.Visit.TheVariants as visit
use Rattle.td_query_walk.specs.Walks.{answer_in, no_offers}

pub record Sound (within : Ior → Option ℕ) (w : World) : Type 0 where
  pub inside : (x : Ior) → inside w.traders w.home x ≡ within x
  pub rights : Rights w.calls within w.words
  pub waits : Waits w.calls
  pub kids : Kids w.calls

-- an event kept what is known, and all calls are still there
pub record Kept (within : Ior → Option ℕ) (w u : World) : Type 0 where
  pub sound : Sound within u
  pub goes : Later w.calls u.calls
  pub words : u.words ≡ w.words

module _ (within : Ior → Option ℕ) where
  kept-same : (w : World) → Sound within w → Kept within w w
  kept-same w s = record { sound = s; goes = later-same w.calls; words = refl }

  unchanged : (w u : World) → Sound within w → u ≡ w → Kept within w u
  unchanged w u s e = subst (Kept within w) (sym e) (kept-same w s)

  kept-on : (w v u : World) → Kept within w v → Kept within v u → Kept within w u
  kept-on w v u a b = record {
    sound = b.sound;
    goes = later-on w.calls v.calls u.calls a.goes b.goes;
    words = b.words ∙ a.words;
  }

  -- a visit went on in a world with other traders of the same names, and the calls of this one
  kept-went : (w v u : World) → Went within v u → ((x : Ior) → inside v.traders v.home x ≡ within x)
      → v.calls ≡ w.calls → v.words ≡ w.words → Kept within w u
  kept-went w v u went same calls words = record {
    sound = record {
      inside = λ x. ap (λ z. inside z u.home x) went.traders ∙ (ap (λ z. inside v.traders z x) went.home ∙ same x);
      rights = subst (Rights u.calls within) (sym went.words) went.rights;
      waits = went.waits;
      kids = went.kids;
    };
    goes = subst (λ z. Later z u.calls) calls went.goes;
    words = went.words ∙ words;
  }

  -- ---- a delivery

  module _ (w : World) (c : ℕ) (k : Call) (t : PlainTrader) (s : Sound within w) (is : slice_get w.calls c ≡ Some k)
      (staged : k.stage ≡ Sent) (there : slice_get w.traders k.target ≡ Some t) (reached : AreReached w.traders) where
    abbrev q : Query
    q = k.query

    abbrev d : Delivery
    d = delivery_of w.clock t

    abbrev m : Call
    m = deliver_call k d

    abbrev behind : World
    behind = with_begun w k.target t q

    none : k.delivery ≡ None
    none = subst (λ z. StageRight w.calls within c w.words k z) staged (s.rights c k is).stage

    no_kids : NoKids w.calls c
    no_kids = none-yet w.calls within c w.words k s.rights is none

    not_sent : (x : Stage) → x ≡ Sent → (v : Visit) → x ≡ Ended v → ⊥
    not_sent x e v o = absurd (let bad = sym e ∙ o in cc)

    not_waiting : (x : Stage) (e : ℕ) → x ≡ Sent → IsWaiting x e → ⊥
    not_waiting x e is h = subst (λ z. IsWaiting z e) is h

    nobody : NobodyFor w.calls c
    nobody e x here by open_yet =
        let a = s.waits e c x here by open_yet in
        let same : a.call ≡ k = (let i = a.is in cc) in
        not_waiting k.stage e staged (subst (λ (z : Call). IsWaiting z.stage e) same a.waits)

    same-query : Same k m
    same-query = record {
      target = refl;
      query = refl;
      root = refl;
      caller = refl;
      ended = λ v e. e;
      delivery = λ e y. absurd (let bad = sym none ∙ y in cc);
    }

    same-inside : (x : Ior) → inside behind.traders behind.home x ≡ within x
    same-inside x =
        inside-set w.traders k.target t (after_begin t q (begin_at t q)) w.home x there refl ∙ s.inside x

    -- it ends at once
    at-once : (v : Visit) → answer_in v ≡ no_offers
        → ((z : Call) → GivesAnswer w.calls within c (EndedAs w.calls) w.words z t
        (answer_in v) (way_of t q) (seeks t q))
        → (x u : World) → Becomes x (begun_by behind c m (begin_at t q)) u
        → u ≡ record behind { calls = slice_set w.calls c (record m { stage = Ended v; drawn = w.drawn }) }
        → Kept within w u
    at-once v gives is_answered x u become e =
        let z : Call = record m { stage = Ended v; drawn = w.drawn } in
        let r = s.rights c k is in
        let same : Same k z = record {
          target = refl;
          query = refl;
          root = refl;
          caller = refl;
          ended = λ a o. absurd (not_sent k.stage staged a o);
          delivery = λ e y. absurd (let bad = sym none ∙ y in cc);
        } in
        let right : Right w.calls within c w.words z = record {
          old = r.old;
          root = record { call = r.root.call; is = r.root.is; asked = r.root.asked; identifier = r.root.identifier };
          caller = caller_of z k.caller r.caller;
          stage = record { delivery = d; delivered = refl; is = is_answered z };
        } in
        subst (Kept within w) (sym e) record {
          sound = record {
            inside = same-inside;
            rights = rights-set w.calls within c w.words k z s.rights is same right;
            waits = waits-set w.calls c k z s.waits is nobody refl (λ e. e);
            kids = kids-set w.calls c k z s.kids is refl refl (inr no_kids);
          };
          goes = later-set w.calls c k z is same;
          words = refl;
        }
      where
        caller_of : (z : Call) (o : Option ℕ) → CallerRight w.calls c k o
            → CallerRight w.calls c (record m { stage = Ended v; drawn = w.drawn }) o
        caller_of z None x = x
        caller_of z (Some p) x = record {
          before = x.before;
          call = x.call;
          is = x.is;
          root = x.root;
          delivery = x.delivery;
          delivered = x.delivered;
          read = x.read;
          states = x.states;
        }

    goes-from : (l : Local) → IsLocal (way_of t q) (seeks t q) t q l → (x u : World)
        → Becomes x (goes_on behind c m l [] []) u → Kept within w u
    goes-from l local x u become =
        let went : Went within behind u =
        goes_on-went behind c k m d l within s.rights s.waits s.kids is same-query nobody refl refl local
        (inr no_kids)
        (not_sent k.stage staged) same-inside [] [] nothing_yet (inr no_kids) x u become in
        kept-went w behind u went same-inside refl refl

    by_begin : (b : Begin) → Begins t q b → begin_at t q ≡ b → (x u : World) → Becomes x (begun_by behind c m b) u
        → Kept within w u
    by_begin _ (refused o way) e x u become =
        at-once (visit.Refused o) refl
        (λ z. subst (λ y. GivesAnswer w.calls within c (EndedAs w.calls) w.words z t no_offers y (seeks t q))
        (sym way) refl)
        x u (subst (λ y. Becomes x (begun_by behind c m y) u) (sym e) become) become
    by_begin _ (repeats number way held) e x u become =
        at-once (visit.Answered no_offers 0) refl
        (λ z. subst (λ y. GivesAnswer w.calls within c (EndedAs w.calls) w.words z t no_offers y (seeks t q)) (sym way)
        (subst (λ y. GivesAnswer w.calls within c (EndedAs w.calls) w.words z t no_offers Here y)
        (sym (ap is_search e)) refl))
        x u (subst (λ y. Becomes x (begun_by behind c m y) u) (sym e) become) become
    by_begin _ (along link way) e x u become =
        goes-from (path_at t link q) (subst (λ y. IsLocal y (seeks t q) t q (path_at t link q)) (sym way) refl)
        x u become
    by_begin _ (searches way fresh) e x u become =
        goes-from (search_at t q)
        (subst (λ y. IsLocal y (seeks t q) t q (search_at t q)) (sym way) (ap is_search e, refl)) x u become

    pub kept-delivered : (x u : World) → Becomes x (deliver_to w c k (Some t)) u → Kept within w u
    kept-delivered x u become =
        by_begin (begin_at t q) (begins t q (reached k.target t there)) refl x u become

  -- ---- a value

  module _ (w : World) (c : ℕ) (k : Call) (f : FrameState) (s : Sound within w) (is : slice_get w.calls c ≡ Some k)
      (staged : k.stage ≡ Evaluating f) where
    right : StageRight w.calls within c w.words k (Evaluating f)
    right = subst (λ z. StageRight w.calls within c w.words k z) staged (s.rights c k is).stage

    not_ended : (x : Stage) → x ≡ Evaluating f → (v : Visit) → x ≡ Ended v → ⊥
    not_ended x e v o = absurd (let bad = sym e ∙ o in cc)

    not_asking : (x : Stage) (e : ℕ) → x ≡ Evaluating f → IsWaiting x e → ⊥
    not_asking x e is h = subst (λ z. IsWaiting z e) is h

    nobody_asks : NobodyFor w.calls c
    nobody_asks e x here by open_yet =
        let a = s.waits e c x here by open_yet in
        let same : a.call ≡ k = (let i = a.is in cc) in
        not_asking k.stage e staged (subst (λ (z : Call). IsWaiting z.stage e) same a.waits)

    led_on : (v : Option Any)
        → Led w.calls within c f.local (f.answers ++ value_answer v ∷ []) (k.steps ++ value_step v ∷ [])
    led_on None = unvalued right.0.led right.1.asks right.1.reachable
    led_on (Some x) = valued x right.0.led right.1.asks right.1.reachable

    pub kept-valued : (v : Option Any) (o u : World) → Becomes o (takes w c k f (value_step v) (value_answer v)) u
        → Kept within w u
    kept-valued v o u become =
        let went : Went within w u =
        goes_on-went w c k k right.0.delivery f.local within s.rights s.waits s.kids is (same-itself k)
        nobody_asks refl
        right.0.delivered right.0.local (inl refl) (not_ended k.stage staged) s.inside
        (f.answers ++ value_answer v ∷ [])
        (k.steps ++ value_step v ∷ []) (led_on v) (inl (rw length-append (omega arith))) o u become in
        kept-went w w u went s.inside refl refl

  -- ---- an answer, or a loss

  module _ (w : World) (d : ℕ) (k : Call) (p : ℕ) (s : Sound within w) (is : slice_get w.calls d ≡ Some k)
      (by : k.caller ≡ Some p) (open_yet : k.handed ≡ false) where
    abbrev content : Call
    content = record k { handed = true }

    abbrev calls1 : List Call
    calls1 = slice_set w.calls d content

    content-same : Same k content
    content-same = record {
      target = refl;
      query = refl;
      root = refl;
      caller = refl;
      ended = λ a e. e;
      delivery = λ e y. y;
    }

    content-stands : (f : FrameState) → Stands w.calls within d k f → Stands w.calls within d content f
    content-stands f h = record { delivery = h.delivery; delivered = h.delivered; local = h.local; led = h.led }

    content-stage : (x : Stage) → StageRight w.calls within d w.words k x → StageRight w.calls within d w.words content x
    content-stage Sent h = h
    content-stage Running h = h
    content-stage (Evaluating f) h = (content-stands f h.0, h.1)
    content-stage (Waiting f e) h = (content-stands f h.0, h.1)
    content-stage (Ended v) h = record {
      delivery = h.delivery;
      delivered = h.delivered;
      is = ended (way_of h.delivery.seen.value k.query) (seeks h.delivery.seen.value k.query)
          h.delivery.seen.value h.is;
    }
      where
        asked : (l : Local) → AsksEach w.calls within d (EndedAs w.calls) w.words k (answer_in v) l
            → AsksEach w.calls within d (EndedAs w.calls) w.words content (answer_in v) l
        asked l x = record { answers = x.answers; content = x.content; none_left = x.none_left; is_answer = x.is_answer }

        ended : (way : Way) (b : Bool) (t : PlainTrader)
            → GivesAnswer w.calls within d (EndedAs w.calls) w.words k t (answer_in v) way b
            → GivesAnswer w.calls within d (EndedAs w.calls) w.words content t (answer_in v) way b
        ended Nowhere b t x = x
        ended (Along link) b t x = asked (path_at t link k.query) x
        ended Here false t x = x
        ended Here true t x = asked (search_at t k.query) x

    content-caller : (o : Option ℕ) → CallerRight w.calls d k o → CallerRight w.calls d content o
    content-caller None h = h
    content-caller (Some q) x = record {
      before = x.before;
      call = x.call;
      is = x.is;
      root = x.root;
      delivery = x.delivery;
      delivered = x.delivered;
      read = x.read;
      states = x.states;
    }

    rights1 : Rights calls1 within w.words
    rights1 =
        let x = s.rights d k is in
        rights-set w.calls within d w.words k content s.rights is content-same record {
          old = x.old;
          root = record { call = x.root.call; is = x.root.is; asked = x.root.asked; identifier = x.root.identifier };
          caller = content-caller k.caller x.caller;
          stage = content-stage k.stage x.stage;
        }

    -- who waited still does
    waits-at1 : (q e : ℕ) → WaitsAt w.calls q e → WaitsAt calls1 q e
    waits-at1 q e a = go (same_or_not q d)
      where
        go : (q ≡ d) ⊎ (q ≡ d → ⊥) → WaitsAt calls1 q e
        go (inl x) = record {
          call = content;
          is = subst (λ z. slice_get calls1 z ≡ Some content) (sym x) (get-set_same w.calls d k content is);
          waits =
              let same : a.call ≡ k =
              (let h : slice_get w.calls d ≡ Some a.call = subst (λ z. slice_get w.calls z ≡ Some a.call) x
              a.is in cc) in
              subst (λ (z : Call). IsWaiting z.stage e) same a.waits;
        }
        go (inr x) = record { call = a.call; is = get-set_other w.calls d q content x ∙ a.is; waits = a.waits }

    still_open : (e : ℕ) (x : Call) → slice_get calls1 e ≡ Some x → x.handed ≡ false
        → (e ≡ d → ⊥) × (slice_get w.calls e ≡ Some x)
    still_open e x here yet =
        elim (get-set w.calls d e k content x is here) as (λ z. (e ≡ d → ⊥) × (slice_get w.calls e ≡ Some x)) [
          | inl h ↦ absurd (let y = ap (λ (z : Call). z.handed) h.1 in cc)
          | inr h ↦ h
        ]

    waits1 : Waits calls1
    waits1 e q x here by2 yet = waits-at1 q e (s.waits e q x (still_open e x here yet).1 by2 yet)

    waits_one : (x : Stage) (e f : ℕ) → IsWaiting x e → IsWaiting x f → e ≡ f
    waits_one Sent e f a b = elim a [ ]
    waits_one Running e f a b = elim a [ ]
    waits_one (Evaluating g) e f a b = elim a [ ]
    waits_one (Waiting g z) e f a b = sym a ∙ b
    waits_one (Ended v) e f a b = elim a [ ]

    nobody1 : NobodyFor calls1 p
    nobody1 e x here by2 yet =
        let o = still_open e x here yet in
        let a = s.waits e p x o.1 by2 yet in
        let b = s.waits d p k is by open_yet in
        let same : b.call ≡ a.call = (let i = a.is in let j = b.is in cc) in
        o.0 (waits_one a.call.stage e d a.waits (subst (λ (z : Call). IsWaiting z.stage d) same b.waits))

    kids1 : Kids calls1
    kids1 = kids-set w.calls d k content s.kids is refl refl (inl refl)

    w1 : Sound within (hand_answer w d k)
    w1 = record { inside = s.inside; rights = rights1; waits = waits1; kids = kids1 }

    -- what the answer adds to what the caller's visit was told
    abbrev Adds : QuestionStep → StepAnswer → Type 0
    Adds s a =
        (l : Local) (rs : List StepAnswer) (ss : List QuestionStep) (target : Ior) (n : ℕ) (q : Query)
        → Led calls1 within p l rs ss → next_of l rs ≡ Forward target q → within target ≡ Some n
        → IsSubCall calls1 p n q d → Led calls1 within p l (rs ++ a ∷ []) (ss ++ s ∷ [])

    not_over : (x : Stage) (f : FrameState) (e : ℕ) → x ≡ Waiting f e → (v : Visit) → x ≡ Ended v → ⊥
    not_over x f e is v o = absurd (let bad = sym is ∙ o in cc)

    resumed-kept : (q : Call) (x : Stage) (s : QuestionStep) (a : StepAnswer) → slice_get calls1 p ≡ Some q → q.stage ≡ x
        → IsWaiting x d → StageRight calls1 within p w.words q x → Adds s a → (v u : World)
        → Becomes v (resumed_in (hand_answer w d k) p q s a x) u → Kept within (hand_answer w d k) u
    resumed-kept q Sent s a here staged waiting right more v u become = elim waiting [ ]
    resumed-kept q Running s a here staged waiting right more v u become = elim waiting [ ]
    resumed-kept q (Evaluating f) s a here staged waiting right more v u become = elim waiting [ ]
    resumed-kept q (Ended y) s a here staged waiting right more v u become = elim waiting [ ]
    resumed-kept q (Waiting f e) s a here staged waiting right more v u become =
        let x = right.0 in
        let y = right.1 in
        let led : Led calls1 within p f.local (f.answers ++ a ∷ []) (q.steps ++ s ∷ []) =
        more f.local f.answers q.steps y.target y.number y.query x.led y.asks y.within
        (subst (λ z. IsSubCall calls1 p y.number y.query z) waiting y.opened) in
        let went : Went within (hand_answer w d k) u =
        goes_on-went (hand_answer w d k) p q q x.delivery f.local within rights1 waits1 kids1 here (same-itself q)
        nobody1 refl
        x.delivered x.local (inl refl) (not_over q.stage f e staged) w1.inside (f.answers ++ a ∷ [])
        (q.steps ++ s ∷ []) led
        (inl (rw length-append (omega arith))) v u become in
        kept-went (hand_answer w d k) (hand_answer w d k) u went w1.inside refl refl

    pub kept-hand_on : (s : QuestionStep) (a : StepAnswer) → Adds s a → (v u : World) → Becomes v (hand_on w d k p s a) u
        → Kept within w u
    kept-hand_on st a more v u become =
        let b = waits-at1 p d (s.waits d p k is by open_yet) in
        let kept : Kept within (hand_answer w d k) u =
        resumed-kept b.call b.call.stage st a b.is refl b.waits (rights1 p b.call b.is).stage more v u
        (subst (λ z. Becomes v (resume_caller (hand_answer w d k) p st a z) u) b.is become) in
        kept-on w (hand_answer w d k) u (record {
          sound = w1;
          goes = later-set w.calls d k content is content-same;
          words = refl;
        }) kept

    kept-lost : (v u : World) → Becomes v (hand_on w d k p (step.Lost d) given.Failed) u → Kept within w u
    kept-lost = kept-hand_on (step.Lost d) given.Failed (λ l rs ss target n q led next there o. lost led next there o)

    kept-given : (y : Visit) → k.stage ≡ Ended y → (v u : World)
        → Becomes v (hand_on w d k p (step.Given d) (given.Offers (answer_in y))) u → Kept within w u
    kept-given y ended =
        kept-hand_on (step.Given d) (given.Offers (answer_in y)) (λ l rs ss target n q led next there o.
        gave led next there o record {
          call = content;
          visit = y;
          is = get-set_same w.calls d k content is;
          ended = ended;
          gives = refl;
        })

  -- ---- each event

  kept-change : (w : World) (n : ℕ) (c : Change) (o : Option PlainTrader) → slice_get w.traders n ≡ o → Sound within w
      → (u : World) → Becomes w (change_at w n c o) u → Kept within w u
  kept-change w n c None is s u become = unchanged w u s become
  kept-change w n c (Some t) is s u become =
      subst (Kept within w) (sym become) record {
        sound = record {
          inside = λ x. inside-set w.traders n t (after_change t c) w.home x is
              (sym (past-change t c).name) ∙ s.inside x;
          rights = s.rights;
          waits = s.waits;
          kids = s.kids;
        };
        goes = later-same w.calls;
        words = refl;
      }

  kept-opened : (w : World) (n : ℕ) (q : Query) → Sound within w
      → Kept within w (open_call w (sent n q (length w.calls) None))
  kept-opened w n q s =
      let k : Call = sent n q (length w.calls) None in record {
        sound = record {
          inside = s.inside;
          rights = rights-open w.calls within w.words k s.rights record {
            old = omega arith;
            root = record { call = k; is = get-last w.calls k; asked = refl; identifier = λ read id e. e };
            caller = refl;
            stage = refl;
          };
          waits = waits-open w.calls k s.waits (λ p by. absurd (cc));
          kids = kids-open w.calls k s.kids refl (λ p by. absurd (cc));
        };
        goes = later-more w.calls k;
        words = refl;
      }

  kept-ask : (w : World) (n : ℕ) (q : Query) (o : Option PlainTrader) → slice_get w.traders n ≡ o
      → AreReached w.traders
      → Sound within w → (u : World) → Becomes w (ask_at w n q o) u → Kept within w u
  kept-ask w n q None is reached s u become = unchanged w u s become
  kept-ask w n q (Some t) is reached s u become =
      let k : Call = sent n q (length w.calls) None in
      let a = kept-opened w n q s in
      kept-on w (open_call w k) u a
      (kept-delivered (open_call w k) (length w.calls) k t a.sound (get-last w.calls k) refl is reached w u become)

  kept-deliver_to : (w : World) (c : ℕ) (k : Call) (o : Option PlainTrader) → slice_get w.calls c ≡ Some k
      → k.stage ≡ Sent → slice_get w.traders k.target ≡ o → AreReached w.traders → Sound within w → (u : World)
      → Becomes w (deliver_to w c k o) u → Kept within w u
  kept-deliver_to w c k None is staged there reached s u become = unchanged w u s become
  kept-deliver_to w c k (Some t) is staged there reached s u become =
      kept-delivered w c k t s is staged there reached w u become

  kept-deliver_in : (w : World) (c : ℕ) (k : Call) (x : Stage) → slice_get w.calls c ≡ Some k → k.stage ≡ x
      → AreReached w.traders → Sound within w → (u : World) → Becomes w (deliver_in w c k x) u → Kept within w u
  kept-deliver_in w c k Sent is staged reached s u become =
      kept-deliver_to w c k (slice_get w.traders k.target) is staged refl reached s u become
  kept-deliver_in w c k Running is staged reached s u become = unchanged w u s become
  kept-deliver_in w c k (Evaluating f) is staged reached s u become = unchanged w u s become
  kept-deliver_in w c k (Waiting f d) is staged reached s u become = unchanged w u s become
  kept-deliver_in w c k (Ended a) is staged reached s u become = unchanged w u s become

  kept-deliver : (w : World) (c : ℕ) (o : Option Call) → slice_get w.calls c ≡ o → AreReached w.traders
      → Sound within w → (u : World) → Becomes w (deliver_at w c o) u → Kept within w u
  kept-deliver w c None is reached s u become = unchanged w u s become
  kept-deliver w c (Some k) is reached s u become = kept-deliver_in w c k k.stage is refl reached s u become

  kept-value_in : (w : World) (c : ℕ) (k : Call) (v : Option Any) (x : Stage) → slice_get w.calls c ≡ Some k
      → k.stage ≡ x → Sound within w → (u : World) → Becomes w (value_in w c k v x) u → Kept within w u
  kept-value_in w c k v Sent is staged s u become = unchanged w u s become
  kept-value_in w c k v Running is staged s u become = unchanged w u s become
  kept-value_in w c k v (Evaluating f) is staged s u become = kept-valued w c k f s is staged v w u become
  kept-value_in w c k v (Waiting f d) is staged s u become = unchanged w u s become
  kept-value_in w c k v (Ended a) is staged s u become = unchanged w u s become

  kept-value : (w : World) (c : ℕ) (v : Option Any) (o : Option Call) → slice_get w.calls c ≡ o → Sound within w
      → (u : World) → Becomes w (value_at w c v o) u → Kept within w u
  kept-value w c v None is s u become = unchanged w u s become
  kept-value w c v (Some k) is s u become = kept-value_in w c k v k.stage is refl s u become

  kept-answer_in : (w : World) (d : ℕ) (k : Call) (p : ℕ) (x : Stage) → slice_get w.calls d ≡ Some k
      → k.caller ≡ Some p → k.handed ≡ false → k.stage ≡ x → Sound within w → (u : World)
      → Becomes w (answer_in_stage w d k p x) u → Kept within w u
  kept-answer_in w d k p Sent is by yet staged s u become = unchanged w u s become
  kept-answer_in w d k p Running is by yet staged s u become = unchanged w u s become
  kept-answer_in w d k p (Evaluating f) is by yet staged s u become = unchanged w u s become
  kept-answer_in w d k p (Waiting f e) is by yet staged s u become = unchanged w u s become
  kept-answer_in w d k p (Ended y) is by yet staged s u become = kept-given w d k p s is by yet y staged w u become

  kept-answer_by : (w : World) (d : ℕ) (k : Call) (o : Option ℕ) (b : Bool) → slice_get w.calls d ≡ Some k
      → k.caller ≡ o → k.handed ≡ b → Sound within w → (u : World) → Becomes w (answer_by w d k o b) u
      → Kept within w u
  kept-answer_by w d k None b is by yet s u become = unchanged w u s become
  kept-answer_by w d k (Some p) true is by yet s u become = unchanged w u s become
  kept-answer_by w d k (Some p) false is by yet s u become = kept-answer_in w d k p k.stage is by yet refl s u become

  kept-answer : (w : World) (d : ℕ) (o : Option Call) → slice_get w.calls d ≡ o → Sound within w → (u : World)
      → Becomes w (answer_at w d o) u → Kept within w u
  kept-answer w d None is s u become = unchanged w u s become
  kept-answer w d (Some k) is s u become = kept-answer_by w d k k.caller k.handed is refl refl s u become

  kept-lose_by : (w : World) (d : ℕ) (k : Call) (o : Option ℕ) (b : Bool) → slice_get w.calls d ≡ Some k
      → k.caller ≡ o → k.handed ≡ b → Sound within w → (u : World) → Becomes w (lose_by w d k o b) u → Kept within w u
  kept-lose_by w d k None b is by yet s u become = unchanged w u s become
  kept-lose_by w d k (Some p) true is by yet s u become = unchanged w u s become
  kept-lose_by w d k (Some p) false is by yet s u become = kept-lost w d k p s is by yet w u become

  kept-lose : (w : World) (d : ℕ) (o : Option Call) → slice_get w.calls d ≡ o → Sound within w → (u : World)
      → Becomes w (lose_at w d o) u → Kept within w u
  kept-lose w d None is s u become = unchanged w u s become
  kept-lose w d (Some k) is s u become = kept-lose_by w d k k.caller k.handed is refl refl s u become

  pub kept-event : (w : World) (e : Event) → AreReached w.traders → Sound within w → (u : World)
      → Becomes w (step_of w e) u → Kept within w u
  kept-event w (Changed n c) reached s u become = kept-change w n c (slice_get w.traders n) refl s u become
  kept-event w (Ask n q) reached s u become = kept-ask w n q (slice_get w.traders n) refl reached s u become
  kept-event w (Deliver c) reached s u become = kept-deliver w c (slice_get w.calls c) refl reached s u become
  kept-event w (Value c v) reached s u become = kept-value w c v (slice_get w.calls c) refl s u become
  kept-event w (Answer d) reached s u become = kept-answer w d (slice_get w.calls d) refl s u become
  kept-event w (Lose d) reached s u become = kept-lose w d (slice_get w.calls d) refl s u become
