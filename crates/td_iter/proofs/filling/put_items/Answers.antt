use Rattle.std.proofs.Common.{sym, ap, ◌∙◌, arith, nat_lt, nat_le}
use Rattle.td_iter.specs.declared.limits.TheConstants.{LARGEST_MESSAGE}
use Rattle.td_iter.proofs.Loading.{so_far-more, so_far-long, so_far-cut, lt-of, and-true_left}
use Rattle.td_iter.proofs.filling.put_items.Goals as goal

pub loop-alloc-preserved : goal.loop-alloc-preserved
loop-alloc-preserved g c =
    let lt = lt-of (and-true_left (nat_lt c.loop-alloc.i c.min-most.result) (nat_le c.len-in-loop-alloc.result
    LARGEST_MESSAGE) (sym c.goes_on.ensures ∙ c.loop-alloc-test.true)) in
    record {
      so_far = so_far-more g.T.Spelled.format.writes c.args.tail c.args.items.now c.args.w.now c.loop-alloc.w
          c.write.new.w c.loop-alloc.i c.loop-alloc.best c.longer-best.result c.index-items-i.result
          c.len-in-loop-alloc-2.result c.behind.result c.loop-alloc.invariant.so_far
          (omega (arith, lt, c.min-most.ensures)) c.index-items-i.is c.in_ok-write.ensures.done
          c.in_ok-write.ensures.order
          c.len-in-loop-alloc-2.ensures.len c.behind.ensures c.longer-best.ensures;
      most = omega (arith, lt);
    }

pub cut-requires : goal.cut-requires
cut-requires g c = so_far-long g.T.Spelled.format.writes c.args.tail c.args.items.now c.args.w.now c.loop-alloc.w
    c.loop-alloc.i c.loop-alloc.best.count c.loop-alloc.best.end c.loop-alloc.invariant.so_far

pub returns-clause-fills : goal.returns-clause-fills
returns-clause-fills g c =
    so_far-cut g.T.Spelled.format.writes c.args.tail c.args.items.now c.args.w.now c.loop-alloc.w c.cut.new.self
    c.args.n c.loop-alloc.i c.min-most.result c.len-in-loop-alloc.result c.loop-alloc.best.count
    c.loop-alloc.best.end c.goes_on.result
    c.loop-alloc.invariant.so_far c.min-most.ensures c.loop-alloc.invariant.most c.len-in-loop-alloc.ensures.len
    c.goes_on.ensures c.loop-alloc-test.false (ap (λ d. d.bytes) c.cut.ensures)
