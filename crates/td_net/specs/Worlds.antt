-- A network of traders whose calls wait for one another, and what each event does to it.
use Rattle.std.specs.Prelude.{◌≡◌, ◌⊎◌, ℕ, zero, suc, ◌+◌, Bool, true, false, if◌then◌else◌, List, [], ◌∷◌, ◌++◌}
use Rattle.std.specs.Prelude.{length, map, slice_get, slice_set, Option, None, Some, Result, Ok, Err, is_some}
use Rattle.std.specs.Option.{option_map, option_and_then}
use Rattle.std.specs.Str.{bytes_eq}
use Rattle.std.specs.declared.snapshot.Snapshot.{Snapshot}
use Rattle.td_typecode.specs.declared.code.Any.{Any}
use Rattle.td_typecode.specs.declared.reference.Ior.{Ior}
use Rattle.td_ior.specs.Profiles.{iiop_of}
use Rattle.td_ops.specs.declared.call.Change.{Change}
use Rattle.td_ops.specs.declared.call.Query.{Query}
use Rattle.td_targets.specs.Targets.{inside_group}
use Rattle.td_store.specs.declared.local.Local.{Local}
use Rattle.td_trader.specs.PlainTraders.{PlainTrader, after_begin, after_change, begin_at}
use Rattle.td_trader.specs.Solos.{solo_view}
use Rattle.td_trader.specs.declared.begin.Begin.{Begin}
use Rattle.td_trader.specs.declared.begin.Begin.TheVariants as begin
use Rattle.td_visit.specs.Standing.{FrameState}
use Rattle.td_walk.specs.Answers.{IsAnswer, drawn_by as drawn_for}
use Rattle.td_walk.specs.Visits.{AnswersRead, next_of, visit_of}
use Rattle.td_walk.specs.declared.answer.Next.{Next}
use Rattle.td_walk.specs.declared.answer.Next.TheVariants.{Done, Evaluate, Forward}
use Rattle.td_walk.specs.declared.answer.StepAnswer.{StepAnswer}
use Rattle.td_walk.specs.declared.answer.StepAnswer.TheVariants as given
use Rattle.td_walk.specs.declared.answer.SubAnswer.{SubAnswer}
use Rattle.td_walk.specs.declared.gathering.Gathered.{Gathered}
use Rattle.td_walk.specs.declared.trace.Address.{Address}
use Rattle.td_walk.specs.declared.trace.Visit.{Visit}
use Rattle.td_walk.specs.declared.trace.Visit.TheVariants as visit
use Rattle.td_query_walk.specs.Reach.{turns_of}
use Rattle.td_query_walk.specs.Walks.{answer_in, no_offers}
use Rattle.td_net.specs.Supplies.{WordSupply, drawn_after, words_from}
use Rattle.td_net.specs.declared.call.Call.{Call}
use Rattle.td_net.specs.declared.call.Delivery.{Delivery}
use Rattle.td_net.specs.declared.call.Stage.{Stage}
use Rattle.td_net.specs.declared.call.Stage.TheVariants.{Sent, Running, Evaluating, Waiting, Ended}
use Rattle.td_net.specs.declared.call.QuestionStep.{QuestionStep}
use Rattle.td_net.specs.declared.call.QuestionStep.TheVariants as step
use Rattle.td_net.specs.declared.event.CallState.{CallState}
use Rattle.td_net.specs.declared.event.CallState.TheVariants as state
use Rattle.td_net.specs.declared.event.Event.{Event}
use Rattle.td_net.specs.declared.event.Event.TheVariants.{Change as Changed, Ask, Deliver, Value, Answer, Lose}
use Rattle.td_net.specs.declared.event.NetFault.{NetFault}
use Rattle.td_net.specs.declared.event.NetFault.TheVariants.{NoTrader, NoCall, WrongState, Memory}
use Rattle.td_net.specs.declared.group.Group.{Group}
use Rattle.td_net.specs.declared.placing.Visits.{Visits}
use Rattle.td_net.specs.declared.advancing.Pending.{Pending}
use Rattle.td_net.specs.declared.advancing.Pending.TheVariants as pending

-- The traders, where the server of all of them listens, the calls that were opened, how many of them were delivered,
-- the random words, how many of these were drawn, and whether an event ran out of memory.
pub record World : Type 0 where
  pub traders : List PlainTrader
  pub home : Address
  pub calls : List Call
  pub clock : ℕ
  pub words : List ℕ
  pub drawn : ℕ
  pub no_memory_outcome : Bool

-- How an event is taken: it is refused, or the world becomes this, or the call of this number, which has no question
-- left, ends in this world with an answer to these steps.
pub data EventResult : Type 0 where
  Refused : NetFault → EventResult
  Moved : World → EventResult
  Closing : World → (c : ℕ) → Call → Local → List StepAnswer → List QuestionStep → EventResult

abbrev pub is_named : (name : List ℕ) → PlainTrader → Bool
is_named name t = bytes_eq t.name name

-- the number of the trader whose Lookup a target is, where it is one of the network's
abbrev pub inside : List PlainTrader → Address → Ior → Option ℕ
inside traders home target = inside_group home (map solo_view traders) target

-- ---- how far a visit goes on alone

-- where a visit stands: the answers and steps so far, and what it waits for
pub record VisitProgress : Type 0 where
  pub answers : List StepAnswer
  pub steps : List QuestionStep
  pub pending : Pending

abbrev pub visit_progress : List StepAnswer → List QuestionStep → Pending → VisitProgress
visit_progress rs ss p = record { answers = rs; steps = ss; pending = p }

-- an evaluator that can be reached is waited for
abbrev pub evaluate_by : (go : List StepAnswer → List QuestionStep → VisitProgress)
    → List StepAnswer → List QuestionStep
    → (reachable : Bool) → VisitProgress
evaluate_by go rs ss true = visit_progress rs ss pending.Value
evaluate_by go rs ss false = go (rs ++ given.Failed ∷ []) (ss ++ step.Unreachable ∷ [])

-- a trader of the network is asked
abbrev pub forward_by : (go : List StepAnswer → List QuestionStep → VisitProgress) → List StepAnswer
    → List QuestionStep
    → Query → (inside : Option ℕ) → VisitProgress
forward_by go rs ss q (Some k) = visit_progress rs ss (pending.SubQuery k q)
forward_by go rs ss q None = go (rs ++ given.Failed ∷ []) (ss ++ step.Outside ∷ [])

abbrev pub settle_by : (go : List StepAnswer → List QuestionStep → VisitProgress)
    → (inside : Ior → Option ℕ)
    → List StepAnswer → List QuestionStep → Next → VisitProgress
settle_by go inside rs ss Done = visit_progress rs ss pending.Nothing
settle_by go inside rs ss (Evaluate e name returned extra) = evaluate_by go rs ss
    (is_some (iiop_of e))
settle_by go inside rs ss (Forward target q) = forward_by go rs ss q (inside target)

-- Steps to targets outside, and to evaluators that can't be reached, fail at once. At most so many questions are asked.
abbrev pub settle : (most : ℕ) → (inside : Ior → Option ℕ) → Local → List StepAnswer
    → List QuestionStep
    → VisitProgress
settle zero inside l rs ss = visit_progress rs ss pending.Nothing
settle (suc most) inside l rs ss = settle_by (settle most inside l) inside rs ss (next_of l rs)

-- where a visit stands that asked one question: it waits, or the question failed and it goes on
abbrev pub or_further : (go : List StepAnswer → List QuestionStep → VisitProgress) → List StepAnswer
    → List QuestionStep
    → Option Pending → VisitProgress
or_further go rs ss None = go rs ss
or_further go rs ss (Some p) = visit_progress rs ss p

-- a visit that waits for nothing has no question left
abbrev pub IsDoneAt : Local → List StepAnswer → Pending → Type 0
IsDoneAt l rs pending.Nothing = next_of l rs ≡ Done
IsDoneAt l rs pending.Value = Unit {0}
IsDoneAt l rs (pending.SubQuery target q) = Unit {0}

-- ---- calls

-- a call that was opened
abbrev pub sent : (target : ℕ) → Query → (root : ℕ) → (caller : Option ℕ) → Call
sent target q root caller = record {
  target = target;
  query = q;
  root = root;
  caller = caller;
  handed = false;
  stage = Sent;
  delivery = None;
  steps = [];
  drawn = 0;
}

abbrev pub visit_state : Local → List StepAnswer → FrameState
visit_state l rs = record { local = l; answers = rs }

-- its visit waits for a value
abbrev pub evaluating_call : Call → Local → List StepAnswer → List QuestionStep → Call
evaluating_call k l rs ss = record k { stage = Evaluating (visit_state l rs); steps = ss }

-- its visit waits for the call of this number
abbrev pub waiting_call : Call → Local → List StepAnswer → List QuestionStep → (sub : ℕ) → Call
waiting_call k l rs ss sub = record k { stage = Waiting (visit_state l rs) sub; steps = ss }

-- it has ended with this, when so many words had been drawn
abbrev pub ended_call : Call → List QuestionStep → (drawn : ℕ) → Visit → Call
ended_call k ss drawn v = record k { stage = Ended v; steps = ss; drawn = drawn }

abbrev pub with_calls : World → List Call → World
with_calls w calls = record w { calls = calls }

-- The visit of the call k, which has the number c, ends, or waits for a value, or opens a call and waits for it.
abbrev pub placed_by : World → (c : ℕ) → Call → Local → List StepAnswer → List QuestionStep
    → Pending
    → EventResult
placed_by w c k l rs ss pending.Nothing = Closing w c k l rs ss
placed_by w c k l rs ss pending.Value = Moved
    (with_calls w (slice_set w.calls c (evaluating_call k l rs ss)))
placed_by w c k l rs ss (pending.SubQuery target q) =
    Moved (with_calls w (slice_set w.calls c (waiting_call k l rs ss (length w.calls))
    ++ sent target q k.root (Some c) ∷ []))

abbrev pub place_visit : World → (c : ℕ) → Call → Local → VisitProgress → EventResult
place_visit w c k l s = placed_by w c k l s.answers s.steps s.pending

-- a visit goes on from these answers
abbrev pub goes_on : World → (c : ℕ) → Call → Local → List StepAnswer → List QuestionStep
    → EventResult
goes_on w c k l rs ss = place_visit w c k l
    (settle (turns_of l + 1) (inside w.traders w.home) l rs ss)

-- ---- how a call ends

abbrev pub drawn_in : Local → AnswersRead Gathered → ℕ
drawn_in l (Ok r) = drawn_for l r.0
drawn_in l (Err question) = 0

-- how many words the ranking of a visit's answer draws
unfoldable pub drawn_by : Local → List StepAnswer → ℕ
drawn_by l rs = drawn_in l (visit_of l rs)

abbrev pub visit_answer : Local → SubAnswer → Visit
visit_answer l a = visit.Answered a l.attributes.max_list

-- the call has ended with this answer, and its words are drawn
abbrev pub end_call : World → (c : ℕ) → Call → Local → List StepAnswer → List QuestionStep
    → SubAnswer → World
end_call w c k l rs ss a = record w {
  calls = slice_set w.calls c (ended_call k ss w.drawn (visit_answer l a));
  drawn = drawn_after w.words w.drawn (drawn_by l rs);
}

-- What the world becomes; an event that is refused changes nothing.
abbrev pub Becomes : World → EventResult → World → Type 0
Becomes w (Refused f) u = u ≡ w
Becomes w (Moved v) u = u ≡ v
Becomes w (Closing v c k l rs ss) u =
    (a : SubAnswer) × IsAnswer l rs (words_from v.words v.drawn) a × (u ≡ end_call v c k l rs ss a)

-- ---- a change

abbrev pub change_at : World → (n : ℕ) → Change → Option PlainTrader → EventResult
change_at w n c None = Refused NoTrader
change_at w n c (Some t) = Moved (record w { traders = slice_set w.traders n (after_change t c) })

-- ---- how a call is delivered

abbrev pub seen_as : PlainTrader → Snapshot PlainTrader
seen_as t = record { marker = record {}; value = t }

-- so many calls were delivered before, and the trader was this
abbrev pub delivery_of : (clock : ℕ) → PlainTrader → Delivery
delivery_of clock t = record { serial = clock; seen = seen_as t }

abbrev pub deliver_call : Call → Delivery → Call
deliver_call k d = record k { delivery = Some d }

-- it ends at once
abbrev pub ended_at_once : World → (c : ℕ) → Call → Visit → EventResult
ended_at_once w c k v = Moved
    (with_calls w (slice_set w.calls c (record k { stage = Ended v; drawn = w.drawn })))

-- the query of the call k has begun at its trader
abbrev pub begun_by : World → (c : ℕ) → Call → Begin → EventResult
begun_by w c k (begin.Refused o) = ended_at_once w c k (visit.Refused o)
begun_by w c k (begin.Repeat number) = ended_at_once w c k (visit.Answered no_offers 0)
begun_by w c k (begin.Search l) = goes_on w c k l [] []
begun_by w c k (begin.Path l) = goes_on w c k l [] []

-- the trader of this number has begun a query, and one call more was delivered
abbrev pub with_begun : World → (n : ℕ) → PlainTrader → Query → World
with_begun w n t q = record w {
  traders = slice_set w.traders n (after_begin t q (begin_at t q));
  clock = w.clock + 1;
}

abbrev pub deliver_to : World → (c : ℕ) → Call → Option PlainTrader → EventResult
deliver_to w c k None = Refused NoTrader
deliver_to w c k (Some t) =
    begun_by (with_begun w k.target t k.query) c (deliver_call k (delivery_of w.clock t))
    (begin_at t k.query)

abbrev pub deliver_in : World → (c : ℕ) → Call → Stage → EventResult
deliver_in w c k Sent = deliver_to w c k (slice_get w.traders k.target)
deliver_in w c k other = Refused WrongState

abbrev pub deliver_at : World → (c : ℕ) → Option Call → EventResult
deliver_at w c None = Refused NoCall
deliver_at w c (Some k) = deliver_in w c k k.stage

abbrev pub open_call : World → Call → World
open_call w k = with_calls w (w.calls ++ k ∷ [])

-- the call of an Ask is its own root, and is delivered at once
abbrev pub ask_at : World → (n : ℕ) → Query → Option PlainTrader → EventResult
ask_at w n q None = Refused NoTrader
ask_at w n q (Some t) =
    let k = sent n q (length w.calls) None in
    deliver_to (open_call w k) (length w.calls) k (Some t)

-- ---- the answer to a visit's question

-- the visit of the call p takes an answer
abbrev pub takes : World → (p : ℕ) → Call → FrameState → QuestionStep → StepAnswer → EventResult
takes w p k f s r = goes_on w p k f.local (f.answers ++ r ∷ []) (k.steps ++ s ∷ [])

abbrev pub value_step : Option Any → QuestionStep
value_step None = step.Unvalued
value_step (Some v) = step.Valued (record { marker = record {}; value = v })

abbrev pub value_answer : Option Any → StepAnswer
value_answer None = given.Failed
value_answer (Some v) = given.Evaluated v

abbrev pub value_in : World → (c : ℕ) → Call → Option Any → Stage → EventResult
value_in w c k v (Evaluating f) = takes w c k f (value_step v) (value_answer v)
value_in w c k v other = Refused WrongState

abbrev pub value_at : World → (c : ℕ) → Option Any → Option Call → EventResult
value_at w c v None = Refused NoCall
value_at w c v (Some k) = value_in w c k v k.stage

abbrev pub resumed_in : World → (p : ℕ) → Call → QuestionStep → StepAnswer → Stage → EventResult
resumed_in w p k s r (Waiting f d) = takes w p k f s r
resumed_in w p k s r other = Moved w

-- A caller waits for its sub-call until it is handed an answer.
abbrev pub resume_caller : World → (p : ℕ) → QuestionStep → StepAnswer → Option Call → EventResult
resume_caller w p s r None = Moved w
resume_caller w p s r (Some k) = resumed_in w p k s r k.stage

abbrev pub hand_answer : World → (d : ℕ) → Call → World
hand_answer w d k = with_calls w (slice_set w.calls d (record k { handed = true }))

-- the caller p of the call k is handed an answer
abbrev pub hand_on : World → (d : ℕ) → Call → (p : ℕ) → QuestionStep → StepAnswer → EventResult
hand_on w d k p s r = resume_caller (hand_answer w d k) p s r
    (slice_get (hand_answer w d k).calls p)

abbrev pub answer_in_stage : World → (d : ℕ) → Call → (p : ℕ) → Stage → EventResult
answer_in_stage w d k p (Ended v) = hand_on w d k p (step.Given d) (given.Offers (answer_in v))
answer_in_stage w d k p other = Refused WrongState

-- a call has a caller that is handed an answer once
abbrev pub answer_by : World → (d : ℕ) → Call → (caller : Option ℕ) → (hand_answer : Bool)
    → EventResult
answer_by w d k None b = Refused WrongState
answer_by w d k (Some p) true = Refused WrongState
answer_by w d k (Some p) false = answer_in_stage w d k p k.stage

abbrev pub answer_at : World → (d : ℕ) → Option Call → EventResult
answer_at w d None = Refused NoCall
answer_at w d (Some k) = answer_by w d k k.caller k.handed

abbrev pub lose_by : World → (d : ℕ) → Call → (caller : Option ℕ) → (hand_answer : Bool)
    → EventResult
lose_by w d k None b = Refused WrongState
lose_by w d k (Some p) true = Refused WrongState
lose_by w d k (Some p) false = hand_on w d k p (step.Lost d) given.Failed

abbrev pub lose_at : World → (d : ℕ) → Option Call → EventResult
lose_at w d None = Refused NoCall
lose_at w d (Some k) = lose_by w d k k.caller k.handed

-- ---- an event

-- what an event is to a world
abbrev pub step_of : World → Event → EventResult
step_of w (Changed n c) = change_at w n c (slice_get w.traders n)
step_of w (Ask n q) = ask_at w n q (slice_get w.traders n)
step_of w (Deliver c) = deliver_at w c (slice_get w.calls c)
step_of w (Value c v) = value_at w c v (slice_get w.calls c)
step_of w (Answer d) = answer_at w d (slice_get w.calls d)
step_of w (Lose d) = lose_at w d (slice_get w.calls d)

abbrev pub fault_in : EventResult → Option NetFault
fault_in (Refused f) = Some f
fault_in (Moved u) = None
fault_in (Closing u c k l rs ss) = None

-- why an event is refused, if it is
abbrev pub fault_of : World → Event → Option NetFault
fault_of w e = fault_in (step_of w e)

-- ---- what is told of a call

abbrev pub visit_in : Stage → Option Visit
visit_in (Ended v) = Some v
visit_in other = None

-- the answer of the call of a number, once it has ended
abbrev pub visit_at : List Call → (c : ℕ) → Option Visit
visit_at calls c = option_and_then (λ (k : Call). visit_in k.stage) (slice_get calls c)

abbrev pub state_in : Stage → CallState
state_in Sent = state.Sent
state_in Running = state.Running
state_in (Evaluating f) = state.Evaluating
state_in (Waiting f d) = state.Waiting d
state_in (Ended v) = state.Ended

abbrev pub state_at : List Call → (c : ℕ) → Option CallState
state_at calls c = option_map (λ (k : Call). state_in k.stage) (slice_get calls c)

-- ---- where memory runs out

-- the traders behind an event
abbrev pub traders_behind : World → EventResult → List PlainTrader
traders_behind w (Refused f) = w.traders
traders_behind w (Moved v) = v.traders
traders_behind w (Closing v c k l rs ss) = v.traders

-- calls that have ended stay so
abbrev pub KeepsEnded : (before after : List Call) → Type 0
KeepsEnded before after = (c : ℕ) (v : Visit) → visit_at before c ≡ Some v → visit_at after c
    ≡ Some v

-- What an event leaves that runs out of memory: the traders are as before it or as behind it.
pub record IsLeft (w : World) (t : EventResult) (u : World) : Type 0 where
  pub traders : (u.traders ≡ w.traders) ⊎ (u.traders ≡ traders_behind w t)
  pub ended : KeepsEnded w.calls u.calls

-- The result of a call that takes an event: running out of memory aside, exactly what the event does.
abbrev pub TakenAs : World → EventResult → Result Unit NetFault → World → Type 0
TakenAs w (Refused f) (Ok x) u = ⊥
TakenAs w (Refused f) (Err g) u = (g ≡ f) × (u ≡ w)
TakenAs w t (Ok x) u = Becomes w t u
TakenAs w t (Err g) u = (g ≡ Memory) × IsLeft w t u

abbrev pub wants : Result Unit NetFault → Bool
wants (Ok x) = false
wants (Err NoTrader) = false
wants (Err NoCall) = false
wants (Err WrongState) = false
wants (Err Memory) = true

-- After an event that ran out of memory every event does, and changes nothing.
abbrev pub OnBy : (no_memory_outcome : Bool) → World → EventResult → Result Unit NetFault → World
    → Type 0
OnBy true w t r u = (r ≡ Err Memory) × (u ≡ w)
OnBy false w t r u = TakenAs w t r u × (u.no_memory_outcome ≡ wants r)

-- what `on` does with an event
abbrev pub OnAs : World → Event → Result Unit NetFault → World → Type 0
OnAs w e r u = OnBy w.no_memory_outcome w (step_of w e) r u

-- ---- how the code keeps a world

-- a world whose parts these are, in which no event ran out of memory
abbrev pub world : List PlainTrader → Address → List Call → (clock : ℕ) → (words : List ℕ)
    → (drawn : ℕ) → World
world traders home calls clock words drawn = record {
  traders = traders;
  home = home;
  calls = calls;
  clock = clock;
  words = words;
  drawn = drawn;
  no_memory_outcome = false;
}

-- the calls and the words of a world have gone on
abbrev pub after : World → List Call → (drawn : ℕ) → World
after w calls drawn = record w { calls = calls; drawn = drawn }

-- a network that no event has come to
abbrev pub start : List PlainTrader → Address → (words : List ℕ) → World
start traders home words = world traders home [] 0 words 0

-- what the code keeps, before any event ran out of memory
abbrev pub world_of : Group → Visits → (clock : ℕ) → World
world_of g v clock = world g.traders.items g.home v.calls.items clock v.words.all v.words.drawn

-- the world's traders are these
pub record HasGroup (w : World) (traders : List PlainTrader) (home : Address) : Type 0 where
  pub traders_are : w.traders ≡ traders
  pub home_is : w.home ≡ home

-- and its calls and words are these
pub record HasVisits (w : World) (calls : List Call) (words : WordSupply) : Type 0 where
  pub calls_are : w.calls ≡ calls
  pub words_are : w.words ≡ words.all
  pub drawn_is : w.drawn ≡ words.drawn

-- The result of a call that does what an event does that isn't refused.
abbrev pub DoneAs : World → EventResult → Result Unit NetFault → World → Type 0
DoneAs w t (Ok x) u = Becomes w t u
DoneAs w t (Err g) u = (g ≡ Memory) × IsLeft w t u

abbrev pub is_sent : Stage → Bool
is_sent Sent = true
is_sent other = false

abbrev pub evaluates : Stage → Bool
evaluates (Evaluating f) = true
evaluates other = false

abbrev pub waits : Stage → Bool
waits (Waiting f d) = true
waits other = false

-- the visit of a call that waits for an answer
abbrev pub frame_in : Stage → Option FrameState
frame_in Sent = None
frame_in Running = None
frame_in (Evaluating f) = Some f
frame_in (Waiting f d) = Some f
frame_in (Ended v) = None
