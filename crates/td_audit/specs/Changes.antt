-- What the functions answer that judge a change.
use Rattle.std.specs.Prelude.{◌≡◌, ℕ, length, slice_get, Option, None, Some, Result}
use Rattle.std.specs.Option.{option_and_then, option_map}
use Rattle.td_log.specs.declared.message.Recorded.{Recorded}
use Rattle.td_log.specs.declared.message.ReplyForm.{ReplyForm}
use Rattle.td_net.specs.Worlds.{World, Becomes, step_of}
use Rattle.td_net.specs.declared.event.Event.TheVariants as event
use Rattle.td_net.specs.declared.event.NetFault.TheVariants.{NoTrader}
use Rattle.td_ops.specs.declared.call.Change.{Change}
use Rattle.td_ops.specs.declared.outcome.Outcome.{Outcome}
use Rattle.td_ops.specs.declared.outcome.Outcome.TheVariants.{Done, User, System}
use Rattle.td_ops.specs.declared.outcome.Reply.{Reply}
use Rattle.td_register.specs.declared.history.Accepted.{Accepted}
use Rattle.td_trader.specs.PlainTraders.{PlainTrader, outcome_of}
use Rattle.td_audit.specs.Replies.{spelled_reply}
use Rattle.td_audit.specs.Verdicts.{IsRightOrDiffers, Stops}
use Rattle.td_audit.specs.declared.verdict.Cause.TheVariants.{Net, Refused}
use Rattle.td_audit.specs.declared.verdict.AuditStop.{AuditStop}

-- how many changes a trader has accepted
abbrev pub point_at : World → (trader : ℕ) → Option ℕ
point_at w n = option_map (λ (t : PlainTrader). length t.history) (slice_get w.traders n)

abbrev pub reply_in : Option Accepted → Option Reply
reply_in (Some e) = Some e.reply
reply_in None = None

abbrev pub content_in : (place : ℕ) → PlainTrader → Option Reply
content_in place t = reply_in (slice_get t.history place)

-- what the change at this place of a trader's history was answered with
abbrev pub reply_at_place : World → (trader place : ℕ) → Option Reply
reply_at_place w n place = option_and_then (content_in place) (slice_get w.traders n)

-- an accepted change passes with its reply, and a refused one doesn't
abbrev pub ChangesAs : World → (n : ℕ) → ReplyForm → Change → Recorded → (outcome : Outcome)
    → Result (Unit {0}) AuditStop → World → Type 0
ChangesAs w n form c reply (Done content) r u =
    Stops ((reply.bytes ≡ spelled_reply form (Done content))
    × Becomes w (step_of w (event.Change n c)) u)
    (IsRightOrDiffers (reply.bytes ≡ spelled_reply form (Done content))) r
ChangesAs w n form c reply (User x) r u = Stops ⊥ (λ cause. cause ≡ Refused) r
ChangesAs w n form c reply (System kind minor completion) r u = Stops ⊥ (λ cause. cause ≡ Refused) r

abbrev pub ChangesIn : World → (n : ℕ) → ReplyForm → Change → Recorded → Option PlainTrader
    → Result (Unit {0}) AuditStop → World → Type 0
ChangesIn w n form c reply None r u = Stops ⊥ (λ cause. cause ≡ Net NoTrader) r
ChangesIn w n form c reply (Some t) r u = ChangesAs w n form c reply (outcome_of t c) r u

abbrev pub ChangesTo : World → (n : ℕ) → ReplyForm → Change → Recorded → Result (Unit {0}) AuditStop
    → World → Type 0
ChangesTo w n form c reply r u = ChangesIn w n form c reply (slice_get w.traders n) r u
