-- What the functions answer that compare recorded replies with what the network holds.
use Rattle.std.specs.Prelude.{◌≡◌, ℕ, List, slice_get, Option, None, Some, Result}
use Rattle.td_changes.specs.Applying.{seek}
use Rattle.td_log.specs.declared.message.Recorded.{Recorded}
use Rattle.td_log.specs.declared.message.ReplyForm.{ReplyForm}
use Rattle.td_net.specs.Worlds.{World, visit_at}
use Rattle.td_net.specs.declared.event.NetFault.TheVariants.{NoTrader}
use Rattle.td_ops.specs.declared.call.Look.{Look}
use Rattle.td_trader.specs.PlainTraders.{PlainTrader, store_of}
use Rattle.td_walk.specs.declared.trace.Visit.{Visit}
use Rattle.td_audit.specs.Auditing.{asked_of}
use Rattle.td_audit.specs.Replies.{IsLookReply, IsVisitReply}
use Rattle.td_audit.specs.Verdicts.{Compares, Stops}
use Rattle.td_audit.specs.declared.asked.AskedQuery.{AskedQuery}
use Rattle.td_audit.specs.declared.verdict.Cause.TheVariants.{Net, NotEnded}
use Rattle.td_audit.specs.declared.verdict.AuditStop.{AuditStop}

abbrev pub LooksIn : ReplyForm → Look → Recorded → Option PlainTrader → Result (Unit {0}) AuditStop
    → Type 0
LooksIn form l reply None r = Stops ⊥ (λ cause. cause ≡ Net NoTrader) r
LooksIn form l reply (Some t) r = Compares (IsLookReply form l (seek (store_of t) l) reply) r

abbrev pub LooksAt : World → (trader : ℕ) → ReplyForm → Look → Recorded
    → Result (Unit {0}) AuditStop
    → Type 0
LooksAt w n form l reply r = LooksIn form l reply (slice_get w.traders n) r

abbrev pub EndsIn : AskedQuery → Recorded → Option Visit → Result (Unit {0}) AuditStop → Type 0
EndsIn a reply None r = Stops ⊥ (λ cause. cause ≡ NotEnded) r
EndsIn a reply (Some v) r = Compares (IsVisitReply a v reply) r

abbrev pub RepliesIn : World → (call : ℕ) → Recorded → Option AskedQuery
    → Result (Unit {0}) AuditStop
    → Type 0
RepliesIn w call reply None r = Stops ⊥ (λ cause. cause ≡ NotEnded) r
RepliesIn w call reply (Some a) r = EndsIn a reply (visit_at w.calls call) r

abbrev pub RepliesTo : World → List AskedQuery → (call : ℕ) → Recorded → Result (Unit {0}) AuditStop
    → Type 0
RepliesTo w asked call reply r = RepliesIn w call reply (asked_of call asked) r
