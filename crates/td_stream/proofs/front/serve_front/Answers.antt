use Rattle.std.proofs.Common.{ℕ, eqb, sym, ap, [], refl}
use Rattle.td_stream.specs.Exchanges.{exchange}
use Rattle.td_stream.specs.OutboundLaws.{puts-then}
use Rattle.td_stream.specs.Steps.{breaks, closes}
use Rattle.td_stream.proofs.Fronts.{in_front, is_message, meets}
use Rattle.td_stream.proofs.front.serve_front.Goals as goal

pub judge-requires : goal.judge-requires
judge-requires g c = record {
  whole = is_message _ _ c.requires.limited (rw c.in-Ok-Some.field-0-is at c.in-Ok-Some.ensures.found);
}

pub answer-requires-clause-whole : goal.answer-requires-clause-whole
answer-requires-clause-whole g c =
    is_message _ _ c.requires.limited (rw c.in-Ok-Some.field-0-is at c.in-Ok-Some.ensures.found)

pub returns-in-Close-clause-finds : goal.returns-in-Close-clause-finds
returns-in-Close-clause-finds g c = (
  meets _ _ closes c.requires.limited (rw c.in-Ok-Some.field-0-is at c.in-Ok-Some.ensures.found) c.in-Close.ensures,
  refl,
  refl,
)

pub returns-in-Break-clause-finds : goal.returns-in-Break-clause-finds
returns-in-Break-clause-finds g c = (
  meets _ _ (breaks c.in-Break.cause) c.requires.limited
      (rw c.in-Ok-Some.field-0-is at c.in-Ok-Some.ensures.found) c.in-Break.ensures,
  refl,
  refl,
)

pub returns-in-Ok-clause-finds : goal.returns-in-Ok-clause-finds
returns-in-Ok-clause-finds g c =
    let raw = rw c.in-Ok-Some.field-0-is at c.in-Ok-Some.ensures.found in
    let whole = is_message _ _ c.requires.limited raw in
    record {
      exchange = exchange _ c.reply.result.now;
      front = in_front _ _ c.requires.limited raw;
      done = record { step = c.in-Answer.ensures.0; served = rw (← c.reply.ensures) at c.in-Ok.ensures.ok };
      is = ap (λ (k : ℕ). eqb k 0) (sym whole.kind);
      puts = puts-then [] c.reply.result.now _ _ _ c.in-Ok.ensures.held.1 c.put.ensures.puts;
    }
