use Rattle.std.proofs.Common.{ℕ, List, subst}
use Rattle.td_fed.proofs.Moving.{goes-looked, goes-none, goes-watched}
use Rattle.td_fed.proofs.Quiet.{quiet-looked}
use Rattle.td_fed.proofs.Resolved.{looks-up}
use Rattle.td_fed.proofs.resolving.look_up.Goals as goal
use Rattle.td_ops.specs.declared.call.Look.TheVariants.{DescribeLink}
use Rattle.td_trader.specs.Worlds.{LooksAtTrader}

pub returns-clause-looks : goal.returns-clause-looks
returns-clause-looks g c =
    let w = g.T.Traders.world c.args.traders.now in
    let u = g.T.Traders.world c.look.new.self in
    looks-up g.T.Traders.others g.T.Traders.later w u c.args.trader c.args.name.now
    (c.in_ok-outcome.outcome, c.in_ok-outcome._most) c.register_in_outcome.result c.requires.word
    (subst (λ (n : List ℕ). LooksAtTrader g.T.Traders.others g.T.Traders.later w c.args.trader (DescribeLink n)
    (c.in_ok-outcome.outcome, c.in_ok-outcome._most) u) c.in_ok-name.ensures c.in_ok-outcome.ensures.ok)
    c.register_in_outcome.ensures

pub returns-clause-quiet : goal.returns-clause-quiet
returns-clause-quiet g c =
    quiet-looked g.T.Traders.others g.T.Traders.later (g.T.Traders.world c.args.traders.now)
    (g.T.Traders.world c.look.new.self) c.args.trader (DescribeLink c.in_ok-name.name)
    (c.in_ok-outcome.outcome, c.in_ok-outcome._most) c.in_ok-outcome.ensures.ok

pub returns-in_err-name-clause-goes : goal.returns-in_err-name-clause-goes
returns-in_err-name-clause-goes g c =
    goes-none g.T.Traders.others g.T.Traders.later (g.T.Traders.world c.args.traders.now)

pub returns-in_err-outcome-clause-goes : goal.returns-in_err-outcome-clause-goes
returns-in_err-outcome-clause-goes g c =
    goes-watched g.T.Traders.others g.T.Traders.later (g.T.Traders.world c.args.traders.now)
    (g.T.Traders.world c.look.new.self) c.args.trader c.in_err-outcome.ensures.err

pub returns-clause-goes : goal.returns-clause-goes
returns-clause-goes g c =
    goes-looked g.T.Traders.others g.T.Traders.later (g.T.Traders.world c.args.traders.now)
    (g.T.Traders.world c.look.new.self) c.args.trader (DescribeLink c.in_ok-name.name)
    (c.in_ok-outcome.outcome, c.in_ok-outcome._most) c.in_ok-outcome.ensures.ok
