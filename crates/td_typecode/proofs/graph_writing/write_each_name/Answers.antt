use Rattle.std.proofs.Common.{◌∙◌}
use Rattle.td_cdr.specs.Format.{text}
use Rattle.td_cdr.proofs.SequenceWriting.{goes_on}
use Rattle.td_typecode.proofs.graph_writing.write_each_name.Goals as goal

pub loop-name-preserved : goal.loop-name-preserved
loop-name-preserved c = record {
  bytes =
      goes_on text.writes c.args.names.now c.loop-name.name-index c.name-item.result c.args.w.now.order
      c.args.w.now.bytes c.loop-name.w.bytes c.write_name.new.w.bytes c.loop-name-test.true c.name-item.is
      c.loop-name.invariant.bytes (rw c.loop-name.invariant.order at c.in_ok-write_name.ensures.done);
  order = c.in_ok-write_name.ensures.order ∙ c.loop-name.invariant.order;
}
