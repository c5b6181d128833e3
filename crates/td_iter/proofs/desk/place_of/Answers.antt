use Rattle.std.proofs.Common.{◌+◌, sym, ap, ◌∙◌, arith}
use Rattle.td_iter.proofs.Places.{walked-on, walked-to}
use Rattle.td_iter.proofs.desk.place_of.Goals as goal

pub loop-entry-preserved : goal.loop-entry-preserved
loop-entry-preserved g c =
    record {
      index = ap (λ n. n + 1) c.loop-entry.invariant.index;
      place = walked-on c.args.trader.now c.args.number c.args.entries.now c.loop-entry.entry-index
          c.loop-entry.place c.entry-item.result c.loop-entry-test.true c.entry-item.is c.loop-entry.invariant.place
          (sym c.is_called.ensures ∙ c.if-is_called.false);
    }

pub returns-then-is_called-clause-place : goal.returns-then-is_called-clause-place
returns-then-is_called-clause-place g c =
    walked-to c.args.trader.now c.args.number c.args.entries.now c.loop-entry.entry-index c.loop-entry.place
    c.entry-item.result c.loop-entry-test.true c.entry-item.is c.loop-entry.invariant.place
    (sym c.is_called.ensures ∙ c.if-is_called.true)

pub returns-then-is_called-clause-within : goal.returns-then-is_called-clause-within
returns-then-is_called-clause-within g c = omega (arith, c.loop-entry.invariant.index, c.loop-entry-test.true)
