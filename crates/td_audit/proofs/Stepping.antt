-- From what a function answers that judges a line to what the line does to a state.
use Rattle.std.proofs.Common.{ℕ, ◌++◌, ◌∷◌, [], List, length, Option, None, Some, Result, Ok, Err, refl, slice_get}
use Rattle.td_typecode.specs.declared.code.Any.{Any}
use Rattle.td_log.specs.declared.line.Line.TheVariants as line
use Rattle.td_log.specs.declared.message.Recorded.{Recorded}
use Rattle.td_log.specs.declared.message.ReplyForm.{ReplyForm}
use Rattle.td_net.specs.Worlds.{World, visit_at}
use Rattle.td_net.specs.declared.event.Event.{Event}
use Rattle.td_net.specs.declared.event.Event.TheVariants as event
use Rattle.td_ops.specs.declared.call.AddLink.{AddLink}
use Rattle.td_ops.specs.declared.call.Change.{Change}
use Rattle.td_ops.specs.declared.call.Look.{Look}
use Rattle.td_ops.specs.declared.call.Query.{Query}
use Rattle.td_ops.specs.declared.outcome.Outcome.{Outcome}
use Rattle.td_ops.specs.declared.outcome.Outcome.TheVariants.{Done, User, System}
use Rattle.td_servant.specs.Linking.{link_change}
use Rattle.td_trader.specs.PlainTraders.{PlainTrader, outcome_of}
use Rattle.td_walk.specs.declared.trace.Address.{Address}
use Rattle.td_walk.specs.declared.trace.Visit.{Visit}
use Rattle.td_audit.specs.Answers.{EndsIn, LooksAt, LooksIn, RepliesIn, RepliesTo}
use Rattle.td_audit.specs.Auditing.{ChangedAs, ChangedIn, EndedIn, Happens, LookedIn, RepliedIn, AuditState, asked_as}
use Rattle.td_audit.specs.Auditing.{asked_of, state}
use Rattle.td_audit.specs.Changes.{ChangesAs, ChangesIn, ChangesTo}
use Rattle.td_audit.specs.Events.{HappensAs}
use Rattle.td_audit.specs.Judging.{StepsTo}
use Rattle.td_audit.specs.Links.{register_of}
use Rattle.td_audit.specs.Verdicts.{Stops}
use Rattle.td_audit.specs.declared.asked.AskedQuery.{AskedQuery}
use Rattle.td_audit.specs.declared.verdict.Cause.{Cause}
use Rattle.td_audit.specs.declared.verdict.Cause.TheVariants.{Net, Refused, Differs, NotEnded}
use Rattle.td_audit.specs.declared.verdict.AuditStop.{AuditStop}
use Rattle.td_audit.specs.declared.verdict.AuditStop.TheVariants as stop

-- what a relation says of a line that passes with this state, or fails
abbrev Judging : (R : Result AuditState Cause → Type 0) → AuditState → Result (Unit {0}) AuditStop → Type 0
Judging R t r = Stops (R (Ok t)) (λ cause. R (Err cause)) r

-- ---- events

happens : (net u : World) (asked later : List AskedQuery) (e : Event) (r : Result (Unit {0}) AuditStop) → HappensAs net e r u
    → Judging (Happens (state net asked) e later) (state u later) r
happens net u asked later e (Ok x) h = (h.0, h.1, refl)
happens net u asked later e (Err (stop.At (Net f))) h = h
happens net u asked later e (Err (stop.At Refused)) h = absurd h
happens net u asked later e (Err (stop.At Differs)) h = absurd h
happens net u asked later e (Err (stop.At NotEnded)) h = absurd h
happens net u asked later e (Err stop.Memory) h = tt

-- ---- changes

changes-as : (net u : World) (asked : List AskedQuery) (n : ℕ) (form : ReplyForm) (c : Change) (reply : Recorded)
    (o : Outcome) (r : Result (Unit {0}) AuditStop) → ChangesAs net n form c reply o r u
    → Judging (ChangedAs (state net asked) (event.Change n c) form reply o) (state u asked) r
changes-as net u asked n form c reply (Done content) (Ok x) h = (h.0, h.1, refl)
changes-as net u asked n form c reply (Done content) (Err (stop.At cause)) h = h
changes-as net u asked n form c reply (Done content) (Err stop.Memory) h = tt
changes-as net u asked n form c reply (User y) (Ok x) h = absurd h
changes-as net u asked n form c reply (User y) (Err (stop.At cause)) h = cc
changes-as net u asked n form c reply (User y) (Err stop.Memory) h = tt
changes-as net u asked n form c reply (System kind minor completion) (Ok x) h = absurd h
changes-as net u asked n form c reply (System kind minor completion) (Err (stop.At cause)) h = cc
changes-as net u asked n form c reply (System kind minor completion) (Err stop.Memory) h = tt

changes-in : (net u : World) (asked : List AskedQuery) (n : ℕ) (form : ReplyForm) (c : Change) (reply : Recorded)
    (o : Option PlainTrader) (r : Result (Unit {0}) AuditStop) → ChangesIn net n form c reply o r u
    → Judging (ChangedIn (state net asked) n form c reply o) (state u asked) r
changes-in net u asked n form c reply None (Ok x) h = absurd h
changes-in net u asked n form c reply None (Err (stop.At cause)) h = cc
changes-in net u asked n form c reply None (Err stop.Memory) h = tt
changes-in net u asked n form c reply (Some t) r h = changes-as net u asked n form c reply (outcome_of t c) r h

-- ---- replies

looks-in : (s : AuditState) (form : ReplyForm) (l : Look) (reply : Recorded) (o : Option PlainTrader)
    (r : Result (Unit {0}) AuditStop) → LooksIn form l reply o r → Judging (LookedIn s form l reply o) s r
looks-in s form l reply None (Ok x) h = absurd h
looks-in s form l reply None (Err (stop.At cause)) h = cc
looks-in s form l reply None (Err stop.Memory) h = tt
looks-in s form l reply (Some t) (Ok x) h = (h, refl)
looks-in s form l reply (Some t) (Err (stop.At cause)) h = h
looks-in s form l reply (Some t) (Err stop.Memory) h = tt

ends-in : (s : AuditState) (a : AskedQuery) (reply : Recorded) (o : Option Visit) (r : Result (Unit {0}) AuditStop)
    → EndsIn a reply o r → Judging (EndedIn s a reply o) s r
ends-in s a reply None (Ok x) h = absurd h
ends-in s a reply None (Err (stop.At cause)) h = cc
ends-in s a reply None (Err stop.Memory) h = tt
ends-in s a reply (Some v) (Ok x) h = (h, refl)
ends-in s a reply (Some v) (Err (stop.At cause)) h = h
ends-in s a reply (Some v) (Err stop.Memory) h = tt

replies-in : (s : AuditState) (call : ℕ) (reply : Recorded) (o : Option AskedQuery) (r : Result (Unit {0}) AuditStop)
    → RepliesIn s.net call reply o r → Judging (RepliedIn s call reply o) s r
replies-in s call reply None (Ok x) h = absurd h
replies-in s call reply None (Err (stop.At cause)) h = cc
replies-in s call reply None (Err stop.Memory) h = tt
replies-in s call reply (Some a) r h = ends-in s a reply (visit_at s.net.calls call) r h

-- ---- lines

module _ (home : Address) (names : List (List ℕ)) (net u : World) (asked : List AskedQuery)
    (r : Result (Unit {0}) AuditStop) where
  pub by_change : (n : ℕ) (form : ReplyForm) (c : Change) (reply : Recorded) → ChangesTo net n form c reply r u
      → StepsTo home names (state net asked) (line.Change n form c reply) r (state u asked)
  by_change n form c reply h = changes-in net u asked n form c reply (slice_get net.traders n) r h

  pub by_link : (n : ℕ) (form : ReplyForm) (l : AddLink) (reply : Recorded)
      → ChangesTo net n form (link_change l (register_of home names l.target)) reply r u
      → StepsTo home names (state net asked) (line.AddLink n form l reply) r (state u asked)
  by_link n form l reply h =
      changes-in net u asked n form (link_change l (register_of home names l.target)) reply
      (slice_get net.traders n) r h

  pub by_ask : (n : ℕ) (form : ReplyForm) (q : Query) → HappensAs net (event.Ask n q) r u
      → StepsTo home names (state net asked) (line.Ask n form q) r
      (state u (asked ++ asked_as (length net.calls) form q ∷ []))
  by_ask n form q h =
      happens net u asked (asked ++ asked_as (length net.calls) form q ∷ []) (event.Ask n q) r h

  pub by_deliver : (c : ℕ) → HappensAs net (event.Deliver c) r u
      → StepsTo home names (state net asked) (line.Deliver c) r (state u asked)
  by_deliver c h = happens net u asked asked (event.Deliver c) r h

  pub by_value : (c : ℕ) (v : Option Any) → HappensAs net (event.Value c v) r u
      → StepsTo home names (state net asked) (line.Value c v) r (state u asked)
  by_value c v h = happens net u asked asked (event.Value c v) r h

  pub by_answer : (c : ℕ) → HappensAs net (event.Answer c) r u
      → StepsTo home names (state net asked) (line.Answer c) r (state u asked)
  by_answer c h = happens net u asked asked (event.Answer c) r h

  pub by_lose : (c : ℕ) → HappensAs net (event.Lose c) r u
      → StepsTo home names (state net asked) (line.Lose c) r (state u asked)
  by_lose c h = happens net u asked asked (event.Lose c) r h

module _ (home : Address) (names : List (List ℕ)) (net : World) (asked : List AskedQuery)
    (r : Result (Unit {0}) AuditStop) where
  pub by_look : (n : ℕ) (form : ReplyForm) (l : Look) (reply : Recorded) → LooksAt net n form l reply r
      → StepsTo home names (state net asked) (line.Look n form l reply) r (state net asked)
  by_look n form l reply h = looks-in (state net asked) form l reply (slice_get net.traders n) r h

  pub by_reply : (c : ℕ) (reply : Recorded) → RepliesTo net asked c reply r
      → StepsTo home names (state net asked) (line.Reply c reply) r (state net asked)
  by_reply c reply h = replies-in (state net asked) c reply (asked_of c asked) r h

-- what any line does
pub ruleset by_line = (
  by_change,
  by_link,
  by_look,
  by_ask,
  by_deliver,
  by_value,
  by_answer,
  by_lose,
  by_reply,
)
