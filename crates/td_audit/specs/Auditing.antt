-- A recorded schedule of a network against what the network does (OMG's Trading Object Service, "Link Follow Behavior";
-- the log's form is this project's own).
use Rattle.std.specs.Prelude.{◌≡◌, ℕ, ◌+◌, nat_eq, List, [], ◌∷◌, ◌++◌, length, map, slice_get, Option, None, Some}
use Rattle.std.specs.Prelude.{Result, Ok, Err}
use Rattle.std.specs.List.{find}
use Rattle.td_changes.specs.Applying.{seek}
use Rattle.td_log.specs.Lines.{line_of, words_of}
use Rattle.td_log.specs.Words.{lines_of}
use Rattle.td_log.specs.declared.line.Line.{Line}
use Rattle.td_log.specs.declared.line.Line.TheVariants as line
use Rattle.td_log.specs.declared.message.Recorded.{Recorded}
use Rattle.td_log.specs.declared.message.ReplyForm.{ReplyForm}
use Rattle.td_net.specs.Supplies.{without_zeros}
use Rattle.td_net.specs.Worlds.{World, Becomes, fault_of, start, step_of, visit_at}
use Rattle.td_net.specs.declared.event.Event.{Event}
use Rattle.td_net.specs.declared.event.Event.TheVariants as event
use Rattle.td_net.specs.declared.event.NetFault.TheVariants.{NoTrader}
use Rattle.td_ops.specs.declared.call.Change.{Change}
use Rattle.td_ops.specs.declared.call.Look.{Look}
use Rattle.td_ops.specs.declared.call.Query.{Query}
use Rattle.td_ops.specs.declared.outcome.Outcome.{Outcome}
use Rattle.td_ops.specs.declared.outcome.Outcome.TheVariants.{Done, User, System}
use Rattle.td_servant.specs.Linking.{link_change}
use Rattle.td_trader.specs.PlainTraders.{PlainTrader, outcome_of, store_of}
use Rattle.td_walk.specs.declared.trace.Address.{Address}
use Rattle.td_walk.specs.declared.trace.Visit.{Visit}
use Rattle.td_audit.specs.Links.{register_of}
use Rattle.td_audit.specs.Replies.{IsLookReply, IsVisitReply, spelled_reply}
use Rattle.td_audit.specs.declared.asked.AskedQuery.{AskedQuery}
use Rattle.td_audit.specs.declared.verdict.Cause.{Cause}
use Rattle.td_audit.specs.declared.verdict.Cause.TheVariants.{Net, Refused, Differs, NotEnded}
use Rattle.td_audit.specs.declared.verdict.Verdict.{Verdict}
use Rattle.td_audit.specs.declared.verdict.Verdict.TheVariants as verdict

-- the network, and the queries that were asked of it
pub record AuditState : Type 0 where
  pub net : World
  pub asked : List AskedQuery

abbrev pub state : World → List AskedQuery → AuditState
state net asked = record { net = net; asked = asked }

-- ---- events

-- The event is accepted, with these queries asked then; or the network refuses it, for its own fault.
abbrev pub Happens : AuditState → Event → List AskedQuery → Result AuditState Cause → Type 0
Happens s e asked (Ok t) = (fault_of s.net e ≡ None) × Becomes s.net (step_of s.net e) t.net
    × (t.asked ≡ asked)
Happens s e asked (Err (Net f)) = fault_of s.net e ≡ Some f
Happens s e asked (Err other) = ⊥

-- what is kept of a query whose call has this number
abbrev pub asked_as : (call : ℕ) → ReplyForm → Query → AskedQuery
asked_as call form q = record {
  call = call;
  form = form;
  desired = q.desired;
  how_many = q.how_many;
}

-- ---- changes

-- A change that is accepted passes with its reply; one that its trader refuses doesn't.
abbrev pub ChangedAs : AuditState → Event → ReplyForm → Recorded → (outcome : Outcome)
    → Result AuditState Cause → Type 0
ChangedAs s e form reply (Done content) (Ok t) =
    (reply.bytes ≡ spelled_reply form (Done content)) × Becomes s.net (step_of s.net e) t.net
    × (t.asked ≡ s.asked)
ChangedAs s e form reply (Done content) (Err cause) =
    (reply.bytes ≡ spelled_reply form (Done content) → ⊥) × (cause ≡ Differs)
ChangedAs s e form reply (User x) r = r ≡ Err Refused
ChangedAs s e form reply (System kind minor completion) r = r ≡ Err Refused

abbrev pub ChangedIn : AuditState → (n : ℕ) → ReplyForm → Change → Recorded → Option PlainTrader
    → Result AuditState Cause → Type 0
ChangedIn s n form c reply None r = r ≡ Err (Net NoTrader)
ChangedIn s n form c reply (Some t) r = ChangedAs s (event.Change n c) form reply (outcome_of t c) r

abbrev pub AuditsChange : AuditState → (n : ℕ) → ReplyForm → Change → Recorded
    → Result AuditState Cause → Type 0
AuditsChange s n form c reply r = ChangedIn s n form c reply (slice_get s.net.traders n) r

-- ---- replies

-- A recorded reply is right, and the state stays; or it differs.
abbrev pub ComparesReply : AuditState → (right : Type 0) → Result AuditState Cause → Type 0
ComparesReply s right (Ok t) = right × (t ≡ s)
ComparesReply s right (Err cause) = (right → ⊥) × (cause ≡ Differs)

abbrev pub LookedIn : AuditState → ReplyForm → Look → Recorded → Option PlainTrader
    → Result AuditState Cause
    → Type 0
LookedIn s form l reply None r = r ≡ Err (Net NoTrader)
LookedIn s form l reply (Some t) r = ComparesReply s
    (IsLookReply form l (seek (store_of t) l) reply) r

abbrev pub EndedIn : AuditState → AskedQuery → Recorded → Option Visit → Result AuditState Cause
    → Type 0
EndedIn s a reply None r = r ≡ Err NotEnded
EndedIn s a reply (Some v) r = ComparesReply s (IsVisitReply a v reply) r

-- the query that opened a call
abbrev pub asked_of : (call : ℕ) → List AskedQuery → Option AskedQuery
asked_of call asked = find (λ (a : AskedQuery). nat_eq a.call call) asked

abbrev pub RepliedIn : AuditState → (call : ℕ) → Recorded → Option AskedQuery
    → Result AuditState Cause
    → Type 0
RepliedIn s call reply None r = r ≡ Err NotEnded
RepliedIn s call reply (Some a) r = EndedIn s a reply (visit_at s.net.calls call) r

-- ---- a line

module _ (home : Address) (names : List (List ℕ)) where
  -- What a line does to a state: it passes, and the state becomes this; or it fails, for this cause.
  abbrev pub AuditsLine : AuditState → Line → Result AuditState Cause → Type 0
  AuditsLine s (line.Change n form c reply) r = AuditsChange s n form c reply r
  AuditsLine s (line.AddLink n form l reply) r =
      AuditsChange s n form (link_change l (register_of home names l.target)) reply r
  AuditsLine s (line.Look n form l reply) r = LookedIn s form l reply (slice_get s.net.traders n) r
  AuditsLine s (line.Ask n form q) r =
      Happens s (event.Ask n q) (s.asked ++ asked_as (length s.net.calls) form q ∷ []) r
  AuditsLine s (line.Deliver c) r = Happens s (event.Deliver c) s.asked r
  AuditsLine s (line.Value c v) r = Happens s (event.Value c v) s.asked r
  AuditsLine s (line.Answer c) r = Happens s (event.Answer c) s.asked r
  AuditsLine s (line.Lose c) r = Happens s (event.Lose c) s.asked r
  AuditsLine s (line.Reply c reply) r = RepliedIn s c reply (asked_of c s.asked) r

  -- What these lines come to, so many lines behind the log's begin: the first that isn't in the table, or fails,
  -- decides.
  pub data HasVerdict : AuditState → (number : ℕ) → List (List ℕ) → Verdict → Type 0 where
    over : {s : AuditState} {n : ℕ} → HasVerdict s n [] (verdict.Yes n)
    strange : {s : AuditState} {n : ℕ} {first : List ℕ} {rest : List (List ℕ)} → line_of names first
        ≡ None → HasVerdict s n (first ∷ rest) (verdict.Line (n + 1))
    fails : {s : AuditState} {n : ℕ} {first : List ℕ} {rest : List (List ℕ)} {l : Line}
        {cause : Cause}
        → line_of names first ≡ Some l → AuditsLine s l (Err cause)
        → HasVerdict s n (first ∷ rest) (verdict.No (n + 1) cause)
    passes : {s t : AuditState} {n : ℕ} {first : List ℕ} {rest : List (List ℕ)} {l : Line}
        {v : Verdict}
        → line_of names first ≡ Some l → AuditsLine s l (Ok t) → HasVerdict t (n + 1) rest v
        → HasVerdict s n (first ∷ rest) v

-- ---- a log

-- the random words that the first line tells, how many lines tell them, and the lines behind
pub record LogHead : Type 0 where
  pub words : List ℕ
  pub number : ℕ
  pub lines : List (List ℕ)

abbrev pub opening_by : (words : Option (List ℕ)) → (first : List ℕ) → (rest : List (List ℕ))
    → LogHead
opening_by (Some ws) first rest = record { words = ws; number = 1; lines = rest }
opening_by None first rest = record { words = []; number = 0; lines = first ∷ rest }

abbrev pub opening_of : List (List ℕ) → LogHead
opening_of [] = record { words = []; number = 0; lines = [] }
opening_of (first ∷ rest) = opening_by (words_of first) first rest

abbrev pub names_of : List PlainTrader → List (List ℕ)
names_of traders = map (λ (t : PlainTrader). t.name) traders

-- a network of these traders to which nothing was asked
abbrev pub at_start : List PlainTrader → Address → LogHead → AuditState
at_start traders home o = state (start traders home (without_zeros o.words)) []

abbrev pub AuditedFrom : List PlainTrader → Address → LogHead → Verdict → Type 0
AuditedFrom traders home o v = HasVerdict home (names_of traders)
    (at_start traders home o) o.number o.lines v

-- what a log comes to for a network of these traders
abbrev pub Audits : List PlainTrader → Address → (log : List ℕ) → Verdict → Type 0
Audits traders home log v = AuditedFrom traders home (opening_of (lines_of log)) v

-- that, or memory ran out
abbrev pub AuditsOrWants : List PlainTrader → Address → (log : List ℕ) → Verdict → Type 0
AuditsOrWants traders home log verdict.Memory = Unit {0}
AuditsOrWants traders home log (verdict.Yes n) = Audits traders home log (verdict.Yes n)
AuditsOrWants traders home log (verdict.No n cause) = Audits traders home log (verdict.No n cause)
AuditsOrWants traders home log (verdict.Line n) = Audits traders home log (verdict.Line n)
