use Rattle.std.proofs.Common.{ℕ, ◌<◌, sym, subst, ◌∙◌}
use Rattle.td_drill.proofs.Adding.{drilled-more, drilled-none}
use Rattle.td_drill.proofs.queries.ask_each.Goals as goal

pub loop-trader-init : goal.loop-trader-init
loop-trader-init g c = record {
  so_far = drilled-none _ _ _ _ c.no_walk-all.ensures;
  many = c.requires;
}

pub ask-requires : goal.ask-requires
ask-requires g c =
    subst (λ (n : ℕ). c.loop-trader.trader < n) c.loop-trader.invariant.many c.loop-trader-test.true

pub loop-trader-preserved : goal.loop-trader-preserved
loop-trader-preserved g c = record {
  so_far =
      drilled-more _ _ _ _ _ _ _ _ _ c.loop-trader.invariant.so_far c.in_ok-one.ensures.comes c.in_ok-more.ensures;
  many = c.loop-trader.invariant.many ∙ sym c.ask.ensures.many;
}
