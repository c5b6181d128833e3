use Rattle.std.proofs.Common.{◌∙◌}
use Rattle.td_cdr.proofs.SequenceWriting.{goes_on}
use Rattle.td_cdr.proofs.sequence.put_each.Goals as goal

pub loop-item-preserved : goal.loop-item-preserved
loop-item-preserved g c = record {
  bytes =
      goes_on g.T.Spelled.format.writes c.args.items.now c.loop-item.item-index c.item-item.result c.args.w.now.order
      c.args.w.now.bytes c.loop-item.w.bytes c.write.new.w.bytes c.loop-item-test.true c.item-item.is
      c.loop-item.invariant.bytes (rw c.loop-item.invariant.order at c.in_ok-write.ensures.done);
  order = c.in_ok-write.ensures.order ∙ c.loop-item.invariant.order;
}
