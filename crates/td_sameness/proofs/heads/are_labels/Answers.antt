use Rattle.std.proofs.Common.{◌<◌, length, sym, ◌∙◌, arith}
use Rattle.td_sameness.proofs.Counting.{labelled-lengths, labelled-end, labelled-fails, labelled-next}
use Rattle.td_sameness.proofs.heads.are_labels.Goals as goal

pub returns-then-arms-labels : goal.returns-then-arms-labels
returns-then-arms-labels c = sym (labelled-lengths c.args.arms.now c.args.labels.now c.if-arms-labels.true)

pub returns-then-not-is_labelled : goal.returns-then-not-is_labelled
returns-then-not-is_labelled c =
    let low : c.loop-i.i < length c.args.labels.now = omega (arith, c.loop-i-test.true, c.loop-i.invariant.long) in
    labelled-fails c.loop-i.i c.args.arms.now c.args.labels.now c.index-arms-i.result c.loop-i-test.true low
    c.index-arms-i.is (sym c.if-not-is_labelled.true ∙ c.is_labelled.ensures)
    ∙ c.loop-i.invariant.so_far

pub loop-i-preserved : goal.loop-i-preserved
loop-i-preserved c =
    let low : c.loop-i.i < length c.args.labels.now = omega (arith, c.loop-i-test.true, c.loop-i.invariant.long) in
    record {
      long = c.loop-i.invariant.long;
      so_far =
          labelled-next c.loop-i.i c.args.arms.now c.args.labels.now c.index-arms-i.result c.loop-i-test.true low
          c.index-arms-i.is (sym c.if-not-is_labelled.false ∙ c.is_labelled.ensures)
          ∙ c.loop-i.invariant.so_far;
    }

pub returns : goal.returns
returns c =
    sym (labelled-end c.loop-i.i c.args.arms.now c.args.labels.now c.loop-i.invariant.long c.loop-i-test.false)
    ∙ c.loop-i.invariant.so_far
