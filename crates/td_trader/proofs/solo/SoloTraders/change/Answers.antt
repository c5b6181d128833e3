use Rattle.td_trader.proofs.Alone.{changes, distinct, name-kept, watches}
use Rattle.td_trader.proofs.solo.SoloTraders.change.Goals as goal

pub returns-clause-ok : goal.returns-clause-ok
returns-clause-ok c =
    changes c.args.self.now.traders.items c.args.trader c.index_mut.result.now c.requires.trader c.index_mut.ensures.value
    c.change.new.self c.args.c c.change.result c.change.ensures.outcome c.change.ensures.after

pub returns-clause-err : goal.returns-clause-err
returns-clause-err c =
    watches c.args.self.now.traders.items c.args.trader c.index_mut.result.now c.requires.trader c.index_mut.ensures.value
    c.change.new.self c.change.result c.change.ensures.err

pub invariant_of-self : goal.invariant_of-self
invariant_of-self c = record {
  distinct = distinct c.args.self.now.traders.items c.args.trader c.index_mut.result.now c.requires.trader
      c.index_mut.ensures.value c.change.new.self (name-kept c.index_mut.result.now c.change.new.self c.args.c
      c.change.result c.change.ensures.after c.change.ensures.err) c.args.self.now.distinct;
}
