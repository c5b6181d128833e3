use Rattle.td_trader.proofs.Kept.{kept-through}
use Rattle.td_trader.proofs.trader.Trader.change.Goals as goal

pub invariant_of-self : goal.invariant_of-self
invariant_of-self c = (
  c.self.invariant.0,
  kept-through c.self.inside.bounds c.self.inside.opening.value c.self.inside.store c.record_change.new.store
      c.self.inside.history.items c.record_change.new.history.items c.self.inside.reserved
      c.record_change.new.reserved c.args.c c.record_change.result c.self.invariant.1 c.record_change.ensures.records,
  c.record_change.ensures.room,
  c.self.invariant.3,
  c.self.invariant.4,
  c.record_change.ensures.cache,
)
