-- Lines that pass are a schedule.
use Rattle.std.proofs.Common.{◌≡◌, ℕ, ◌+◌, List, [], ◌∷◌, ◌++◌, slice_get, Option, None, Some, Ok, refl, sym, ap, subst}
use Rattle.std.proofs.Common.{arith}
use Rattle.td_audit.specs.Auditing.{ChangedAs, ChangedIn, ComparesReply, EndedIn, Happens, AuditsLine, LookedIn}
use Rattle.td_audit.specs.Auditing.{RepliedIn}
use Rattle.td_audit.specs.Auditing.{AuditState, asked_of, over, passes}
use Rattle.td_audit.specs.declared.asked.AskedQuery.{AskedQuery}
use Rattle.td_audit_laws.specs.Laws.{Passes, LinesAreSchedules, none as no_lines, more as more_lines}
use Rattle.td_log.specs.declared.line.Line.{Line}
use Rattle.td_log.specs.declared.line.Line.TheVariants as line
use Rattle.td_log.specs.declared.message.Recorded.{Recorded}
use Rattle.td_log.specs.declared.message.ReplyForm.{ReplyForm}
use Rattle.td_net.specs.Schedules.{AcceptsAll, Run, none, more, over as ended, then}
use Rattle.td_net.specs.Worlds.{World, Becomes, change_at, fault_in, fault_of, step_of, visit_at}
use Rattle.td_net.specs.declared.event.Event.{Event}
use Rattle.td_net.specs.declared.event.Event.TheVariants as event
use Rattle.td_ops.specs.declared.call.Change.{Change}
use Rattle.td_ops.specs.declared.call.Look.{Look}
use Rattle.td_ops.specs.declared.outcome.Outcome.{Outcome}
use Rattle.td_ops.specs.declared.outcome.Outcome.TheVariants.{Done, User, System}
use Rattle.td_servant.specs.Linking.{link_change}
use Rattle.td_trader.specs.PlainTraders.{PlainTrader, outcome_of}
use Rattle.td_audit.specs.Links.{register_of}
use Rattle.td_walk.specs.declared.trace.Address.{Address}
use Rattle.td_walk.specs.declared.trace.Visit.{Visit}

-- what a line that passes does to the network: an event or none
pub record Moves (w u : World) : Type 0 where
  pub events : List Event
  pub accepted : AcceptsAll w events u

one : (w u : World) (e : Event) → fault_of w e ≡ None → Becomes w (step_of w e) u → Moves w u
one w u e f b = record { events = e ∷ []; accepted = more f b none }

stays : (w u : World) → u ≡ w → Moves w u
stays w u e = record { events = []; accepted = subst (λ (z : World). AcceptsAll w [] z) (sym e) none }

happens-moves : (s t : AuditState) (e : Event) (asked : List AskedQuery) → Happens s e asked (Ok t) → Moves s.net t.net
happens-moves s t e asked h = one s.net t.net e h.0 h.1

compared-moves : (s t : AuditState) (right : Type 0) → ComparesReply s right (Ok t) → Moves s.net t.net
compared-moves s t right h = stays s.net t.net (ap (λ (z : AuditState). z.net) h.1)

-- a change is accepted as an event whatever its trader makes of it
change-taken : (w : World) (n : ℕ) (c : Change) (t : PlainTrader) → slice_get w.traders n ≡ Some t
    → fault_of w (event.Change n c) ≡ None
change-taken w n c t is = ap (λ (o : Option PlainTrader). fault_in (change_at w n c o)) is

changed-as : (s t : AuditState) (n : ℕ) (form : ReplyForm) (c : Change) (reply : Recorded) (o : Outcome)
    → fault_of s.net (event.Change n c) ≡ None → ChangedAs s (event.Change n c) form reply o (Ok t)
    → Moves s.net t.net
changed-as s t n form c reply (Done content) f h = one s.net t.net (event.Change n c) f h.1
changed-as s t n form c reply (User x) f h = absurd (cc)
changed-as s t n form c reply (System kind minor completion) f h = absurd (cc)

changed-in : (s t : AuditState) (n : ℕ) (form : ReplyForm) (c : Change) (reply : Recorded) (o : Option PlainTrader)
    → slice_get s.net.traders n ≡ o → ChangedIn s n form c reply o (Ok t) → Moves s.net t.net
changed-in s t n form c reply None is h = absurd (cc)
changed-in s t n form c reply (Some x) is h =
    changed-as s t n form c reply (outcome_of x c) (change-taken s.net n c x is) h

looked-in : (s t : AuditState) (form : ReplyForm) (l : Look) (reply : Recorded) (o : Option PlainTrader)
    → LookedIn s form l reply o (Ok t) → Moves s.net t.net
looked-in s t form l reply None h = absurd (cc)
looked-in s t form l reply (Some x) h = compared-moves s t _ h

ended-in : (s t : AuditState) (a : AskedQuery) (reply : Recorded) (o : Option Visit) → EndedIn s a reply o (Ok t)
    → Moves s.net t.net
ended-in s t a reply None h = absurd (cc)
ended-in s t a reply (Some v) h = compared-moves s t _ h

replied-in : (s t : AuditState) (c : ℕ) (reply : Recorded) (o : Option AskedQuery) → RepliedIn s c reply o (Ok t)
    → Moves s.net t.net
replied-in s t c reply None h = absurd (cc)
replied-in s t c reply (Some a) h = ended-in s t a reply (visit_at s.net.calls c) h

pub line-moves : (home : Address) (names : List (List ℕ)) (s t : AuditState) (l : Line) → AuditsLine home names s l (Ok t)
    → Moves s.net t.net
line-moves home names s t (line.Change n form c reply) h =
    changed-in s t n form c reply (slice_get s.net.traders n) refl h
line-moves home names s t (line.AddLink n form l reply) h =
    changed-in s t n form (link_change l (register_of home names l.target)) reply (slice_get s.net.traders n) refl h
line-moves home names s t (line.Look n form l reply) h =
    looked-in s t form l reply (slice_get s.net.traders n) h
line-moves home names s t (line.Ask n form q) h = happens-moves s t (event.Ask n q) _ h
line-moves home names s t (line.Deliver c) h = happens-moves s t (event.Deliver c) _ h
line-moves home names s t (line.Value c v) h = happens-moves s t (event.Value c v) _ h
line-moves home names s t (line.Answer c) h = happens-moves s t (event.Answer c) _ h
line-moves home names s t (line.Lose c) h = happens-moves s t (event.Lose c) _ h
line-moves home names s t (line.Reply c reply) h = replied-in s t c reply (asked_of c s.asked) h

-- one schedule behind another
accepted-on : (w v u : World) (es fs : List Event) → AcceptsAll w es v → AcceptsAll v fs u → AcceptsAll w (es ++ fs) u
accepted-on w v u [] fs none b = b
accepted-on w v u (e ∷ es) fs (more {v = x} f s a) b = more f s (accepted-on x v u es fs a b)

moves-on : (w v u : World) → Moves w v → Moves v u → Moves w u
moves-on w v u a b = record {
  events = a.events ++ b.events;
  accepted = accepted-on w v u a.events b.events a.accepted b.accepted;
}

pub passes-move : (home : Address) (names : List (List ℕ)) (s t : AuditState) (lines : List (List ℕ))
    → Passes home names s lines t → Moves s.net t.net
passes-move home names s t [] no_lines = stays s.net s.net refl
passes-move home names s t (first ∷ rest) (more_lines {t = u} {l = l} read judged later) =
    moves-on s.net u.net t.net (line-moves home names s u l judged) (passes-move home names u t rest later)

pub lines-are-schedules : LinesAreSchedules
lines-are-schedules home names s number [] count over = record {
  later = s;
  passes = no_lines;
  events = [];
  accepted = none;
  counted = omega arith;
}
lines-are-schedules home names s number (first ∷ rest) count (passes {t = t} {l = l} read judged later) =
    let on = lines-are-schedules home names t (number + 1) rest count later in
    let moves = line-moves home names s t l judged in record {
      later = on.later;
      passes = more_lines read judged on.passes;
      events = moves.events ++ on.events;
      accepted = accepted-on s.net t.net on.later.net moves.events on.events moves.accepted on.accepted;
      counted = let c = on.counted in omega (arith, c);
    }

-- a schedule is a run
pub run-of : (w u : World) (es : List Event) → AcceptsAll w es u → Run w es u
run-of w u [] none = ended
run-of w u (e ∷ es) (more {v = v} f b a) = then b (run-of v u es a)
