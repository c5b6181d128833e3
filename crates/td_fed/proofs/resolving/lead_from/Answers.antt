use Rattle.std.proofs.Common.{Option, subst}
use Rattle.td_typecode.specs.declared.reference.Ior.{Ior}
use Rattle.td_fed.proofs.Resolved.{is-unknown}
use Rattle.td_fed.proofs.resolving.lead_from.Goals as goal
use Rattle.td_fed.specs.Resolving.{LooksUp}

pub returns-in_ok-answer-in-None-clause-leads : goal.returns-in_ok-answer-in-None-clause-leads
returns-in_ok-answer-in-None-clause-leads g c =
    let w = g.T.Traders.world c.args.traders.now in
    let u = g.T.Traders.world c.look_up.new.traders in
    is-unknown g.T.Traders.others g.T.Traders.later c.args.home.now c.args.whole.now (g.P.Peers.calls c.args.peers.now)
    w u c.args.trader c.args.name.now c.args.rest.now c.point-point.result c.in_ok-answer-in-None.answer
    (subst (λ (r : Option Ior). LooksUp g.T.Traders.others g.T.Traders.later w c.args.trader c.args.name.now r u)
    c.in-None.is c.in_ok-register.ensures.looks) c.point-point.ensures.point c.in_ok-answer-in-None.ensures
