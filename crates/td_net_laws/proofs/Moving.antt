-- What every event keeps of marks, of what was seen of traders, and of calls that were sent.
use Rattle.std.proofs.Common.{◌≡◌, ℕ, ◌+◌, List, [], ◌∷◌, ◌++◌, map, length, slice_get, slice_set, Option, Some, None}
use Rattle.std.proofs.Common.{option_map, Bool, true, false, refl, sym, ◌∙◌, ap, subst, inl, inr}
use Rattle.std.proofs.lemmas.List.{map-append, map-set}
use Rattle.std.proofs.lemmas.Option.{slice_get-map}
use Rattle.td_cdr.specs.Marks.{Marks}
use Rattle.td_typecode.specs.declared.code.Any.{Any}
use Rattle.td_net.specs.Schedules.{Run, over, then}
use Rattle.td_net.specs.Worlds.{World, VisitProgress, Becomes, with_calls, sent, waiting_call, evaluating_call}
use Rattle.td_net.specs.Worlds.{ended_call, visit_answer}
use Rattle.td_net.specs.Worlds.{place_visit, placed_by}
use Rattle.td_net.specs.Worlds.{goes_on, settle, inside, change_at, delivery_of, deliver_call, ended_at_once, begun_by}
use Rattle.td_net.specs.Worlds.{with_begun}
use Rattle.td_net.specs.Worlds.{deliver_to, deliver_in, deliver_at, open_call, ask_at, takes, value_step, value_answer}
use Rattle.td_net.specs.Worlds.{value_in}
use Rattle.td_net.specs.Worlds.{value_at, resumed_in, resume_caller, hand_answer, hand_on, answer_in_stage, answer_by}
use Rattle.td_net.specs.Worlds.{answer_at}
use Rattle.td_net.specs.Worlds.{lose_by, lose_at, step_of}
use Rattle.td_net.specs.declared.call.Call.{Call}
use Rattle.td_net.specs.declared.call.Stage.{Stage}
use Rattle.td_net.specs.declared.call.Stage.TheVariants.{Sent, Running, Evaluating, Waiting, Ended}
use Rattle.td_net.specs.declared.call.QuestionStep.{QuestionStep}
use Rattle.td_net.specs.declared.call.QuestionStep.TheVariants as step
use Rattle.td_net.specs.declared.event.Event.{Event}
use Rattle.td_net.specs.declared.event.Event.TheVariants.{Change as Changed, Ask, Deliver, Value, Answer, Lose}
use Rattle.td_net.specs.declared.advancing.Pending.{Pending}
use Rattle.td_net.specs.declared.advancing.Pending.TheVariants as pending
use Rattle.td_net_laws.proofs.Below.{IsBegun, begins, begun, marked-once, quiet, searching, unmarked}
use Rattle.td_net_laws.proofs.Marking.{Marking, at-append, at-old, marking-open, marking-search}
use Rattle.td_net_laws.proofs.Marking.{marking-unmarked}
use Rattle.td_net_laws.proofs.Places.{get-set_same, get-set, get-append, get-last, set-get}
use Rattle.td_net_laws.proofs.Points.{Points, change-marks, past-begin, past-change}
use Rattle.td_net_laws.proofs.Points.{points-deliver, points-open, points-set, reached-set}
use Rattle.td_net_laws.specs.Arrivals.{Arrival, ArrivesAt, CallHead, arrival_at, head_of}
use Rattle.td_ops.specs.declared.call.Change.{Change}
use Rattle.td_ops.specs.declared.call.Query.{Query}
use Rattle.td_store.specs.declared.local.Local.{Local}
use Rattle.td_trader.specs.PlainTraders.{PlainTrader, after_begin, after_change, begin_at}
use Rattle.td_trader.specs.declared.begin.Begin.{Begin}
use Rattle.td_trader.specs.declared.begin.Begin.TheVariants as begin
use Rattle.td_trader_laws.specs.Reaching.{AreReached, IsReached, by_change, by_query}
use Rattle.td_visit.specs.Standing.{FrameState}
use Rattle.td_walk.specs.declared.answer.StepAnswer.{StepAnswer}
use Rattle.td_walk.specs.declared.answer.StepAnswer.TheVariants as given
use Rattle.td_walk.specs.declared.trace.Visit.{Visit}
use Rattle.td_walk.specs.declared.trace.Visit.TheVariants as visit
use Rattle.td_query_walk.specs.Reach.{turns_of}
use Rattle.td_query_walk.specs.Walks.{answer_in, no_offers}

abbrev pub marks_of : PlainTrader → Marks
marks_of t = t.marks

-- a call that was sent hasn't come to its trader
abbrev pub Unsent : List Call → Type 0
Unsent calls = (c : ℕ) (k : Call) → slice_get calls c ≡ Some k → k.stage ≡ Sent → k.delivery ≡ None

unsent-set : (calls : List Call) (c : ℕ) (k m : Call) → Unsent calls → slice_get calls c ≡ Some k
    → (m.stage ≡ Sent → m.delivery ≡ None) → Unsent (slice_set calls c m)
unsent-set calls c k m all is own d x here staged =
    elim (get-set calls c d k m x is here) as (λ z. x.delivery ≡ None) [
      | inl e ↦ subst (λ (z : Call). z.stage ≡ Sent → z.delivery ≡ None) e.1 own staged
      | inr e ↦ all d x e.1 staged
    ]

unsent-open : (calls : List Call) (m : Call) → Unsent calls → m.delivery ≡ None → Unsent (calls ++ m ∷ [])
unsent-open calls m all none d x here staged =
    elim (get-append calls m d x here) as (λ z. x.delivery ≡ None) [
      | inl e ↦ ap (λ (z : Call). z.delivery) (sym e.1) ∙ none
      | inr e ↦ all d x e staged
    ]

abbrev pub AllSeen : List CallHead → Type 0
AllSeen hs = (h : CallHead) (d : Arrival) → ArrivesAt hs h d → IsReached d.seen

seen-open : (hs : List CallHead) (x : CallHead) → x.arrival ≡ None → AllSeen hs → AllSeen (hs ++ x ∷ [])
seen-open hs x none all h d a = all h d (at-append hs x h d none a)

seen-deliver : (hs : List CallHead) (c : ℕ) (o x : CallHead) (e : Arrival) → slice_get hs c ≡ Some o → x.arrival ≡ Some e
    → IsReached e.seen → AllSeen hs → AllSeen (slice_set hs c x)
seen-deliver hs c o x e was is reached all h d a =
    elim (at-old hs c o x h e d was is a) as (λ z. IsReached d.seen) [
      | inl y ↦ all h d y
      | inr y ↦ subst (λ (z : Arrival). IsReached z.seen) y.1 reached
    ]

pub record Marked (base : List Marks) (r : ℕ) (w : World) : Type 0 where
  pub marking : Marking base r (map marks_of w.traders) (map head_of w.calls) w.clock
  pub points : Points w.traders (map head_of w.calls)
  pub reached : AreReached w.traders
  pub unsent : Unsent w.calls
  -- each trader that a call saw is one that calls reach
  pub seen : AllSeen (map head_of w.calls)

pub head-get : (calls : List Call) (c : ℕ) (k : Call) → slice_get calls c ≡ Some k
    → slice_get (map head_of calls) c ≡ Some (head_of k)
head-get calls c k is = slice_get-map head_of calls c ∙ ap (option_map head_of) is

module _ (base : List Marks) (r : ℕ) where
  -- ---- a call is written anew, with a head that is known

  module _ (w : World) (c : ℕ) (k m : Call) (is : slice_get w.calls c ≡ Some k)
      (marking : Marking base r (map marks_of w.traders) (slice_set (map head_of w.calls) c (head_of m)) w.clock)
      (points : Points w.traders (slice_set (map head_of w.calls) c (head_of m))) (reached : AreReached w.traders)
      (unsent : Unsent w.calls) (seen : AllSeen (slice_set (map head_of w.calls) c (head_of m))) where
    -- the call is then z, which has m's head
    written : (z : Call) (drawn : ℕ) → head_of z ≡ head_of m → (z.stage ≡ Sent → z.delivery ≡ None)
        → Marked base r (record w { calls = slice_set w.calls c z; drawn = drawn })
    written z drawn same own =
        let heads : map head_of (slice_set w.calls c z) ≡ slice_set (map head_of w.calls) c (head_of m) =
        map-set head_of w.calls c z ∙ ap (slice_set (map head_of w.calls) c) same in record {
          marking = subst (λ z. Marking base r (map marks_of w.traders) z w.clock) (sym heads) marking;
          points = subst (Points w.traders) (sym heads) points;
          reached = reached;
          unsent = unsent-set w.calls c k z unsent is own;
          seen = subst AllSeen (sym heads) seen;
        }

    -- and one more call is opened
    and_opened : (z y : Call) → head_of z ≡ head_of m → (z.stage ≡ Sent → z.delivery ≡ None) → y.delivery ≡ None
        → Marked base r (with_calls w (slice_set w.calls c z ++ y ∷ []))
    and_opened z y same own none = opened_behind (record w { calls = slice_set w.calls c z; drawn = w.drawn }) y
        none (written z w.drawn same own)
      where
        opened_behind : (v : World) (y : Call) → y.delivery ≡ None → Marked base r v
            → Marked base r (with_calls v (v.calls ++ y ∷ []))
        opened_behind v y none s =
            let heads : map head_of (v.calls ++ y ∷ []) ≡ map head_of v.calls ++ head_of y ∷ [] =
            map-append head_of v.calls (y ∷ []) in
            let absent : (head_of y).arrival ≡ None = none_of y none in record {
              marking =
                  subst (λ z. Marking base r (map marks_of v.traders) z v.clock) (sym heads)
                  (marking-open base r (map marks_of v.traders) (map head_of v.calls) v.clock s.marking
                  (head_of y) absent);
              points =
                  subst (Points v.traders) (sym heads)
                  (points-open v.traders (map head_of v.calls) (head_of y) absent s.points);
              reached = s.reached;
              unsent = unsent-open v.calls y s.unsent none;
              seen = subst AllSeen (sym heads) (seen-open (map head_of v.calls) (head_of y) absent s.seen);
            }
          where
            none_of : (y : Call) → y.delivery ≡ None → (head_of y).arrival ≡ None
            none_of y none = rw none refl

    placed-kept : (l : Local) (rs : List StepAnswer) (ss : List QuestionStep) (p : Pending) (v u : World)
        → Becomes v (placed_by w c m l rs ss p) u → Marked base r u
    placed-kept l rs ss pending.Nothing v u b =
        subst (Marked base r) (sym b.2)
        (written (ended_call m ss w.drawn (visit_answer l b.0)) _ refl (λ e. absurd (cc)))
    placed-kept l rs ss pending.Value v u b =
        subst (Marked base r) (sym b) (written (evaluating_call m l rs ss) w.drawn refl (λ e. absurd (cc)))
    placed-kept l rs ss (pending.SubQuery target q) v u b =
        subst (Marked base r) (sym b)
        (and_opened (waiting_call m l rs ss (length w.calls)) (sent target q m.root (Some c)) refl (λ e. absurd (cc)) refl)

    pub goes_on-kept : (l : Local) (rs : List StepAnswer) (ss : List QuestionStep) (v u : World)
        → Becomes v (goes_on w c m l rs ss) u → Marked base r u
    goes_on-kept l rs ss v u b =
        let s : VisitProgress = settle (turns_of l + 1) (inside w.traders w.home) l rs ss in
        placed-kept l s.answers s.steps s.pending v u b

    begun-kept : (q : Begin) (v u : World) → Becomes v (begun_by w c m q) u → Marked base r u
    begun-kept (begin.Refused o) v u b =
        subst (Marked base r) (sym b)
        (written (record m { stage = Ended (visit.Refused o); drawn = w.drawn }) w.drawn refl (λ e. absurd (cc)))
    begun-kept (begin.Repeat number) v u b =
        subst (Marked base r) (sym b)
        (written (record m { stage = Ended (visit.Answered no_offers 0); drawn = w.drawn }) w.drawn refl
        (λ e. absurd (cc)))
    begun-kept (begin.Search l) v u b = goes_on-kept l [] [] v u b
    begun-kept (begin.Path l) v u b = goes_on-kept l [] [] v u b

  -- a call goes on from where it stood
  stood-kept : (w : World) (c : ℕ) (k : Call) → Marked base r w → slice_get w.calls c ≡ Some k → (l : Local)
      (rs : List StepAnswer) (ss : List QuestionStep) (v u : World) → Becomes v (goes_on w c k l rs ss) u → Marked base r u
  stood-kept w c k s is l rs ss v u b =
      let heads = set-get (map head_of w.calls) c (head_of k) (head-get w.calls c k is) in
      goes_on-kept w c k k is (subst (λ z. Marking base r (map marks_of w.traders) z w.clock) (sym heads) s.marking)
      (subst (Points w.traders) (sym heads) s.points) s.reached s.unsent (subst AllSeen (sym heads) s.seen) l rs
      ss v u b

  -- ---- a delivery

  module _ (w : World) (c : ℕ) (k : Call) (t : PlainTrader) (s : Marked base r w) (is : slice_get w.calls c ≡ Some k)
      (staged : k.stage ≡ Sent) (there : slice_get w.traders k.target ≡ Some t) where
    abbrev q : Query
    q = k.query

    abbrev t1 : PlainTrader
    t1 = after_begin t q (begin_at t q)

    abbrev m : Call
    m = deliver_call k (delivery_of w.clock t)

    abbrev hs : List CallHead
    hs = map head_of w.calls

    reached_t : IsReached t
    reached_t = s.reached k.target t there

    absent : (head_of k).arrival ≡ None
    absent = let none = s.unsent c k is staged in rw none refl

    marks_there : slice_get (map marks_of w.traders) k.target ≡ Some t.marks
    marks_there = slice_get-map marks_of w.traders k.target ∙ ap (option_map marks_of) there

    -- the marks of the traders then
    abbrev marks_then : List Marks
    marks_then = slice_set (map marks_of w.traders) k.target t1.marks

    marks_are : map marks_of (slice_set w.traders k.target t1) ≡ marks_then
    marks_are = map-set marks_of w.traders k.target t1

    marking-then : IsBegun t q (begin_at t q) → Marking base r marks_then (slice_set hs c (head_of m)) (w.clock + 1)
    marking-then (quiet other held) =
        subst (λ z. Marking base r z (slice_set hs c (head_of m)) (w.clock + 1))
        (sym (ap (slice_set (map marks_of w.traders) k.target) (unmarked t q (begin_at t q) other)
        ∙ set-get (map marks_of w.traders) k.target t.marks marks_there))
        (marking-unmarked base r (map marks_of w.traders) hs w.clock s.marking c (head_of k) (head_of m)
        (arrival_at w.clock t q) t.marks (head-get w.calls c k is) absent marks_there refl refl refl refl other held)
    marking-then (searching search here fresh) =
        marking-search base r (map marks_of w.traders) hs w.clock s.marking c (head_of k) (head_of m)
        (arrival_at w.clock t q) t.marks (head-get w.calls c k is) absent marks_there refl refl refl refl t1.marks
        (marked-once t q (begin_at t q) reached_t search) search here fresh

    pub delivered-kept : (v u : World) → Becomes v (deliver_to w c k (Some t)) u → Marked base r u
    delivered-kept v u b =
        let ts : List PlainTrader = slice_set w.traders k.target t1 in
        let t1_there : slice_get ts k.target ≡ Some t1 = get-set_same w.traders k.target t t1 there in
        let past = past-begin t q (begin_at t q) in
        begun-kept (with_begun w k.target t q) c k m is
        (subst (λ z. Marking base r z (slice_set hs c (head_of m)) (w.clock + 1)) (sym marks_are)
        (marking-then (begun t q (begin_at t q) (begins t q reached_t))))
        (points-deliver ts hs c (head_of k) (head_of m) (arrival_at w.clock t q) t1 (head-get w.calls c k is)
        refl t1_there
        past (points-set w.traders hs k.target t t1 there past s.points))
        (reached-set w.traders k.target t t1 there (by_query t q reached_t) s.reached) s.unsent
        (seen-deliver hs c (head_of k) (head_of m) (arrival_at w.clock t q) (head-get w.calls c k is) refl
        reached_t s.seen)
        (begin_at t q) v u b

  -- ---- an answer, or a loss

  handed-kept : (w : World) (d : ℕ) (k : Call) → Marked base r w → slice_get w.calls d ≡ Some k
      → Marked base r (hand_answer w d k)
  handed-kept w d k s is =
      let heads : map head_of (slice_set w.calls d (record k { handed = true })) ≡ map head_of w.calls =
      map-set head_of w.calls d (record k { handed = true })
      ∙ set-get (map head_of w.calls) d (head_of k) (head-get w.calls d k is) in record {
        marking = subst (λ z. Marking base r (map marks_of w.traders) z w.clock) (sym heads) s.marking;
        points = subst (Points w.traders) (sym heads) s.points;
        reached = s.reached;
        unsent = unsent-set w.calls d k (record k { handed = true }) s.unsent is (s.unsent d k is);
        seen = subst AllSeen (sym heads) s.seen;
      }

  moved : (w u : World) → Marked base r w → u ≡ w → Marked base r u
  moved w u s e = subst (Marked base r) (sym e) s

  resumed_in-kept : (w : World) (p : ℕ) (k : Call) (s : QuestionStep) (a : StepAnswer) (x : Stage) → Marked base r w
      → slice_get w.calls p ≡ Some k → (v u : World) → Becomes v (resumed_in w p k s a x) u → Marked base r u
  resumed_in-kept w p k s a Sent kept is v u b = moved w u kept b
  resumed_in-kept w p k s a Running kept is v u b = moved w u kept b
  resumed_in-kept w p k s a (Evaluating f) kept is v u b = moved w u kept b
  resumed_in-kept w p k s a (Ended y) kept is v u b = moved w u kept b
  resumed_in-kept w p k s a (Waiting f e) kept is v u b =
      stood-kept w p k kept is f.local (f.answers ++ a ∷ []) (k.steps ++ s ∷ []) v u b

  resumed-kept : (w : World) (p : ℕ) (s : QuestionStep) (a : StepAnswer) (o : Option Call) → slice_get w.calls p ≡ o
      → Marked base r w → (v u : World) → Becomes v (resume_caller w p s a o) u → Marked base r u
  resumed-kept w p s a None is kept v u b = moved w u kept b
  resumed-kept w p s a (Some k) is kept v u b = resumed_in-kept w p k s a k.stage kept is v u b

  hand_on-kept : (w : World) (d : ℕ) (k : Call) (p : ℕ) (s : QuestionStep) (a : StepAnswer) → Marked base r w
      → slice_get w.calls d ≡ Some k → (v u : World) → Becomes v (hand_on w d k p s a) u → Marked base r u
  hand_on-kept w d k p s a kept is v u b =
      resumed-kept (hand_answer w d k) p s a (slice_get (hand_answer w d k).calls p) refl (handed-kept w d k kept is) v u b

  -- ---- each event

  change-kept : (w : World) (n : ℕ) (c : Change) (o : Option PlainTrader) → slice_get w.traders n ≡ o
      → Marked base r w → (u : World) → Becomes w (change_at w n c o) u → Marked base r u
  change-kept w n c None is s u b = moved w u s b
  change-kept w n c (Some t) is s u b =
      let x : PlainTrader = after_change t c in
      let same : map marks_of (slice_set w.traders n x) ≡ map marks_of w.traders =
      map-set marks_of w.traders n x
      ∙ (ap (slice_set (map marks_of w.traders) n) (change-marks t c)
      ∙ set-get (map marks_of w.traders) n t.marks
      (slice_get-map marks_of w.traders n ∙ ap (option_map marks_of) is)) in
      subst (Marked base r) (sym b) record {
        marking = subst (λ z. Marking base r z (map head_of w.calls) w.clock) (sym same) s.marking;
        points = points-set w.traders (map head_of w.calls) n t x is (past-change t c) s.points;
        reached = reached-set w.traders n t x is (by_change t c (s.reached n t is)) s.reached;
        unsent = s.unsent;
        seen = s.seen;
      }

  opened-kept : (w : World) (k : Call) → Marked base r w → k.delivery ≡ None → Marked base r (open_call w k)
  opened-kept w k s none =
      let heads : map head_of (w.calls ++ k ∷ []) ≡ map head_of w.calls ++ head_of k ∷ [] =
      map-append head_of w.calls (k ∷ []) in
      let absent : (head_of k).arrival ≡ None = rw none refl in record {
        marking =
            subst (λ z. Marking base r (map marks_of w.traders) z w.clock) (sym heads)
            (marking-open base r (map marks_of w.traders) (map head_of w.calls) w.clock s.marking (head_of k) absent);
        points =
            subst (Points w.traders) (sym heads)
            (points-open w.traders (map head_of w.calls) (head_of k) absent s.points);
        reached = s.reached;
        unsent = unsent-open w.calls k s.unsent none;
        seen = subst AllSeen (sym heads) (seen-open (map head_of w.calls) (head_of k) absent s.seen);
      }

  ask-kept : (w : World) (n : ℕ) (q : Query) (o : Option PlainTrader) → slice_get w.traders n ≡ o → Marked base r w
      → (u : World) → Becomes w (ask_at w n q o) u → Marked base r u
  ask-kept w n q None is s u b = moved w u s b
  ask-kept w n q (Some t) is s u b =
      let k : Call = sent n q (length w.calls) None in
      delivered-kept (open_call w k) (length w.calls) k t (opened-kept w k s refl) (get-last w.calls k) refl is w u b

  deliver_to-kept : (w : World) (c : ℕ) (k : Call) (o : Option PlainTrader) → slice_get w.calls c ≡ Some k
      → k.stage ≡ Sent → slice_get w.traders k.target ≡ o → Marked base r w → (u : World)
      → Becomes w (deliver_to w c k o) u → Marked base r u
  deliver_to-kept w c k None is staged there s u b = moved w u s b
  deliver_to-kept w c k (Some t) is staged there s u b = delivered-kept w c k t s is staged there w u b

  deliver_in-kept : (w : World) (c : ℕ) (k : Call) (x : Stage) → slice_get w.calls c ≡ Some k → k.stage ≡ x
      → Marked base r w → (u : World) → Becomes w (deliver_in w c k x) u → Marked base r u
  deliver_in-kept w c k Sent is staged s u b =
      deliver_to-kept w c k (slice_get w.traders k.target) is staged refl s u b
  deliver_in-kept w c k Running is staged s u b = moved w u s b
  deliver_in-kept w c k (Evaluating f) is staged s u b = moved w u s b
  deliver_in-kept w c k (Waiting f d) is staged s u b = moved w u s b
  deliver_in-kept w c k (Ended a) is staged s u b = moved w u s b

  deliver-kept : (w : World) (c : ℕ) (o : Option Call) → slice_get w.calls c ≡ o → Marked base r w → (u : World)
      → Becomes w (deliver_at w c o) u → Marked base r u
  deliver-kept w c None is s u b = moved w u s b
  deliver-kept w c (Some k) is s u b = deliver_in-kept w c k k.stage is refl s u b

  value_in-kept : (w : World) (c : ℕ) (k : Call) (y : Option Any) (x : Stage) → slice_get w.calls c ≡ Some k
      → Marked base r w → (u : World) → Becomes w (value_in w c k y x) u → Marked base r u
  value_in-kept w c k y Sent is s u b = moved w u s b
  value_in-kept w c k y Running is s u b = moved w u s b
  value_in-kept w c k y (Waiting f d) is s u b = moved w u s b
  value_in-kept w c k y (Ended a) is s u b = moved w u s b
  value_in-kept w c k y (Evaluating f) is s u b =
      stood-kept w c k s is f.local (f.answers ++ value_answer y ∷ []) (k.steps ++ value_step y ∷ []) w u b

  value-kept : (w : World) (c : ℕ) (y : Option Any) (o : Option Call) → slice_get w.calls c ≡ o → Marked base r w
      → (u : World) → Becomes w (value_at w c y o) u → Marked base r u
  value-kept w c y None is s u b = moved w u s b
  value-kept w c y (Some k) is s u b = value_in-kept w c k y k.stage is s u b

  answer_in-kept : (w : World) (d : ℕ) (k : Call) (p : ℕ) (x : Stage) → slice_get w.calls d ≡ Some k
      → Marked base r w → (u : World) → Becomes w (answer_in_stage w d k p x) u → Marked base r u
  answer_in-kept w d k p Sent is s u b = moved w u s b
  answer_in-kept w d k p Running is s u b = moved w u s b
  answer_in-kept w d k p (Evaluating f) is s u b = moved w u s b
  answer_in-kept w d k p (Waiting f e) is s u b = moved w u s b
  answer_in-kept w d k p (Ended y) is s u b =
      hand_on-kept w d k p (step.Given d) (given.Offers (answer_in y)) s is w u b

  answer_by-kept : (w : World) (d : ℕ) (k : Call) (o : Option ℕ) (y : Bool) → slice_get w.calls d ≡ Some k
      → Marked base r w → (u : World) → Becomes w (answer_by w d k o y) u → Marked base r u
  answer_by-kept w d k None y is s u b = moved w u s b
  answer_by-kept w d k (Some p) true is s u b = moved w u s b
  answer_by-kept w d k (Some p) false is s u b = answer_in-kept w d k p k.stage is s u b

  answer-kept : (w : World) (d : ℕ) (o : Option Call) → slice_get w.calls d ≡ o → Marked base r w → (u : World)
      → Becomes w (answer_at w d o) u → Marked base r u
  answer-kept w d None is s u b = moved w u s b
  answer-kept w d (Some k) is s u b = answer_by-kept w d k k.caller k.handed is s u b

  lose_by-kept : (w : World) (d : ℕ) (k : Call) (o : Option ℕ) (y : Bool) → slice_get w.calls d ≡ Some k
      → Marked base r w → (u : World) → Becomes w (lose_by w d k o y) u → Marked base r u
  lose_by-kept w d k None y is s u b = moved w u s b
  lose_by-kept w d k (Some p) true is s u b = moved w u s b
  lose_by-kept w d k (Some p) false is s u b = hand_on-kept w d k p (step.Lost d) given.Failed s is w u b

  lose-kept : (w : World) (d : ℕ) (o : Option Call) → slice_get w.calls d ≡ o → Marked base r w → (u : World)
      → Becomes w (lose_at w d o) u → Marked base r u
  lose-kept w d None is s u b = moved w u s b
  lose-kept w d (Some k) is s u b = lose_by-kept w d k k.caller k.handed is s u b

  pub event-kept : (w : World) (e : Event) → Marked base r w → (u : World) → Becomes w (step_of w e) u
      → Marked base r u
  event-kept w (Changed n c) s u b = change-kept w n c (slice_get w.traders n) refl s u b
  event-kept w (Ask n q) s u b = ask-kept w n q (slice_get w.traders n) refl s u b
  event-kept w (Deliver c) s u b = deliver-kept w c (slice_get w.calls c) refl s u b
  event-kept w (Value c y) s u b = value-kept w c y (slice_get w.calls c) refl s u b
  event-kept w (Answer d) s u b = answer-kept w d (slice_get w.calls d) refl s u b
  event-kept w (Lose d) s u b = lose-kept w d (slice_get w.calls d) refl s u b

  pub run-kept : {w : World} {es : List Event} {u : World} → Marked base r w → Run w es u → Marked base r u
  run-kept s over = s
  run-kept {w = w} s (then {v = v} {e = e} become rest) = run-kept (event-kept w e s v become) rest
