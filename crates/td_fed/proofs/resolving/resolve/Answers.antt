use Rattle.std.proofs.Common.{◌≡◌, ap, true, false, rules}
use Rattle.td_fed.proofs.Moving.{goes-none}
use Rattle.td_fed.proofs.Resolved.{followed-if, illegal-if}
use Rattle.td_fed.proofs.resolving.resolve.Goals as goal
use Rattle.td_fed.specs.Resolving.{is_path}
use Rattle.td_fed.specs.declared.resolving.NameAnswer.{NameAnswer}
use Rattle.td_fed.proofs.Counted.{failed-if, unasked-if}

pub returns-then-not-is_path-clause-resolves : goal.returns-then-not-is_path-clause-resolves
returns-then-not-is_path-clause-resolves g c =
    let bad : is_path c.args.name.now ≡ false = search rules in
    illegal-if g.T.Traders.others g.T.Traders.later c.args.home.now (g.T.Traders.world c.args.traders.now)
    (g.P.Peers.calls c.args.peers.now) c.args.trader c.args.name.now c.point.result c.illegal.result bad
    c.point.ensures.point c.illegal.ensures

pub returns-clause-resolves : goal.returns-clause-resolves
returns-clause-resolves g c =
    let good : is_path c.args.name.now ≡ true = search rules in
    followed-if g.T.Traders.others g.T.Traders.later c.args.home.now (g.T.Traders.world c.args.traders.now)
    (g.P.Peers.calls c.args.peers.now) c.args.trader c.args.name.now (g.T.Traders.world c.follow.new.traders)
    (g.P.Peers.calls c.follow.new.peers) c.follow.result good (search rules)

pub returns-then-not-is_path-clause-goes : goal.returns-then-not-is_path-clause-goes
returns-then-not-is_path-clause-goes g c =
    goes-none g.T.Traders.others g.T.Traders.later (g.T.Traders.world c.args.traders.now)

pub returns-then-not-is_path-clause-failed : goal.returns-then-not-is_path-clause-failed
returns-then-not-is_path-clause-failed g c =
    unasked-if (g.P.Peers.faults c.args.peers.now) (g.P.Peers.faults c.args.peers.now) c.illegal.result _
    c.illegal.ensures (λ a is. ap (λ (x : NameAnswer). x.asked) is)

pub returns-clause-failed : goal.returns-clause-failed
returns-clause-failed g c =
    failed-if g.T.Traders.others g.T.Traders.later c.args.home.now c.args.name.now
    (g.P.Peers.calls c.args.peers.now) (g.P.Peers.calls c.follow.new.peers) (g.T.Traders.world c.args.traders.now)
    (g.T.Traders.world c.follow.new.traders) c.args.trader c.as_slice-2.result.now
    (g.P.Peers.faults c.args.peers.now) (g.P.Peers.faults c.follow.new.peers) c.follow.result
    c.follow.ensures.follows c.follow.ensures.faults
