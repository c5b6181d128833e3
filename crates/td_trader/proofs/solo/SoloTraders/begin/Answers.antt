use Rattle.td_trader.proofs.Alone.{begins, distinct, name-begun, watches}
use Rattle.td_trader.proofs.solo.SoloTraders.begin.Goals as goal

pub returns-clause-ok : goal.returns-clause-ok
returns-clause-ok c =
    begins c.args.self.now.traders.items c.args.trader c.index_mut.result.now c.requires c.index_mut.ensures.value
    c.begin.new.self c.args.q.now c.begin.result c.begin.ensures.begin c.begin.ensures.limited
    c.begin.ensures.after

pub returns-clause-err : goal.returns-clause-err
returns-clause-err c =
    watches c.args.self.now.traders.items c.args.trader c.index_mut.result.now c.requires c.index_mut.ensures.value
    c.begin.new.self c.begin.result c.begin.ensures.err

pub invariant_of-self : goal.invariant_of-self
invariant_of-self c = record {
  distinct = distinct c.args.self.now.traders.items c.args.trader c.index_mut.result.now c.requires
      c.index_mut.ensures.value c.begin.new.self (name-begun c.index_mut.result.now c.begin.new.self c.args.q.now
      c.begin.result c.begin.ensures.after c.begin.ensures.err) c.args.self.now.distinct;
}
