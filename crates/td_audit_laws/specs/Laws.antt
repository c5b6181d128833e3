-- What holds of every audit.
use Rattle.std.specs.Prelude.{◌≡◌, ℕ, ◌+◌, List, [], ◌∷◌, length, Some, Ok}
use Rattle.td_audit.specs.Auditing.{HasVerdict, Audits, AuditsLine, AuditState, asked_of, at_start, opening_of}
use Rattle.td_audit.specs.Replies.{IsVisitReply}
use Rattle.td_audit.specs.declared.asked.AskedQuery.{AskedQuery}
use Rattle.td_audit.specs.declared.verdict.Verdict.{Verdict}
use Rattle.td_audit.specs.declared.verdict.Verdict.TheVariants.{Yes}
use Rattle.td_log.specs.Lines.{line_of}
use Rattle.td_log.specs.Words.{lines_of}
use Rattle.td_log.specs.declared.line.Line.{Line}
use Rattle.td_log.specs.declared.line.Line.TheVariants as line
use Rattle.td_log.specs.declared.message.Recorded.{Recorded}
use Rattle.td_log.specs.declared.message.ReplyForm.{ReplyForm}
use Rattle.td_net.specs.Schedules.{AcceptsAll}
use Rattle.td_net.specs.Worlds.{World, inside, visit_at}
use Rattle.td_net.specs.declared.event.Event.{Event}
use Rattle.td_net_laws.specs.Premises.{Premises}
use Rattle.td_net_laws.specs.Trees.{IsTree}
use Rattle.td_ops.specs.declared.call.Query.{Query}
use Rattle.td_trader.specs.PlainTraders.{PlainTrader}
use Rattle.td_trader_laws.specs.Reaching.{AreReached}
use Rattle.td_walk.specs.declared.trace.Address.{Address}
use Rattle.td_walk.specs.declared.trace.Visit.{Visit}
use Rattle.td_query_walk.specs.Walks.{answer_in}

-- A log has one verdict.
abbrev pub VerdictsAreOne : Type 0
VerdictsAreOne =
    (traders : List PlainTrader) (home : Address) (log : List ℕ) (v u : Verdict)
    → Audits traders home log v → Audits traders home log u → v ≡ u

-- ---- lines that pass

-- They are read, and each is judged to pass at the state that those before it have left.
pub data Passes (home : Address) (names : List (List ℕ)) : AuditState → List (List ℕ) → AuditState
    → Type 0 where
  none : {s : AuditState} → Passes home names s [] s
  more : {s t u : AuditState} {first : List ℕ} {rest : List (List ℕ)} {l : Line}
      → line_of names first
      ≡ Some l
      → AuditsLine home names s l (Ok t) → Passes home names t rest u
      → Passes home names s (first ∷ rest) u

-- Their events are accepted one after the other, and the lines are counted.
pub record AreSchedule (home : Address) (names : List (List ℕ)) (s : AuditState) (number : ℕ)
    (lines : List (List ℕ)) (count : ℕ) : Type 0 where
  pub later : AuditState
  pub passes : Passes home names s lines later
  pub events : List Event
  pub accepted : AcceptsAll s.net events later.net
  pub counted : count ≡ number + length lines

abbrev pub LinesAreSchedules : Type 0
LinesAreSchedules =
    (home : Address) (names : List (List ℕ)) (s : AuditState) (number : ℕ) (lines : List (List ℕ))
    (count : ℕ)
    → HasVerdict home names s number lines (Yes count) → AreSchedule home names s number lines count

-- ---- replies to queries

-- The query of a call was answered with what it ended with.
pub record TellsVisit (s : AuditState) (call : ℕ) (reply : Recorded) (v : Visit) : Type 0 where
  pub asked : AskedQuery
  pub is : asked_of call s.asked ≡ Some asked
  pub ended : visit_at s.net.calls call ≡ Some v
  pub content : IsVisitReply asked v reply

-- what one walk gives for this call
abbrev pub IsOfOneWalk : World → (call : ℕ) → Visit → Type 0
IsOfOneWalk w call v = IsTree (length w.calls) w.calls (inside w.traders w.home) w.words call
    (answer_in v)

pub record TellsOneWalk (s : AuditState) (call : ℕ) (reply : Recorded) : Type 0 where
  pub visit : Visit
  pub tells : TellsVisit s call reply visit
  pub walk : IsOfOneWalk s.net call visit

-- Lines pass from the start of a network on; then an Ask, more lines, and the reply to it.
abbrev pub RepliesAreOfOneWalk : Type 0
RepliesAreOfOneWalk =
    (traders : List PlainTrader) (home : Address) (log : List ℕ)
    (names before between : List (List ℕ)) (s t u v : AuditState) (n : ℕ) (form : ReplyForm)
    (q : Query)
    (reply : Recorded) → AreReached traders
    → Passes home names (at_start traders home (opening_of (lines_of log))) before s
    → AuditsLine home names s (line.Ask n form q) (Ok t) → Passes home names t between u
    → AuditsLine home names u (line.Reply (length s.net.calls) reply) (Ok v)
    → Premises s.net.traders (length s.net.calls) u.net.calls
    → TellsOneWalk u (length s.net.calls) reply
