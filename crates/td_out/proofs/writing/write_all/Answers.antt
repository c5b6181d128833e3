use Rattle.std.proofs.Common.{arith}
use Rattle.std.proofs.lemmas.List.{take_rest}
use Rattle.td_out.proofs.Steps.{Appends-keeps, Appends-more, Rose-later}
use Rattle.td_out.proofs.Telling.{tells-front}
use Rattle.td_out.proofs.writing.write_all.Goals as goal

pub loop-sent-preserved : goal.loop-sent-preserved
loop-sent-preserved g c = record {
  within = search (arith);
  given =
      Appends-more _ _ _ c.args.text.now c.loop-sent.sent c.in_ok-sent.field-0 c.loop-sent.invariant.given
      (rw take_rest at c.in_ok-sent.ensures.bytes);
  later = let a = c.loop-sent.invariant.later in let b = c.in_ok-sent.ensures.cause.later in omega arith;
}

pub returns-in_err-sent-clause-tells : goal.returns-in_err-sent-clause-tells
returns-in_err-sent-clause-tells g c =
    tells-front _ c.loop-sent.sent _ _ _ _
    (Appends-keeps _ _ _ _ c.loop-sent.invariant.given c.in_err-sent.ensures.bytes)
    (let a = c.loop-sent.invariant.later in let b = c.in_err-sent.ensures.cause.later in omega arith)
    (Rose-later _ _ _ c.loop-sent.invariant.later c.in_err-sent.ensures.cause.failed)
