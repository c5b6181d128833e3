use Rattle.std.proofs.Common.{◌≡◌, ◌<◌, None, length, rules, sym, ◌∙◌}
use Rattle.td_fed.proofs.Resolved.{is-named, is-outside, none-left}
use Rattle.td_fed.proofs.resolving.lead_over.Goals as goal
use Rattle.td_targets.specs.Targets.{register_inside}

pub returns-then-is_empty-clause-leads : goal.returns-then-is_empty-clause-leads
returns-then-is_empty-clause-leads g c = λ w k name looks seen.
    let none = none-left c.args.rest.now (sym c.is_empty.ensures ∙ c.if-is_empty.true) in
    is-named g.T.Traders.others g.T.Traders.later c.args.home.now c.args.whole.now (g.P.Peers.calls c.args.peers.now) w
    (g.T.Traders.world c.args.traders.now) k name c.args.rest.now c.args.point c.args.register none looks seen

pub returns-clause-leads : goal.returns-clause-leads
returns-clause-leads g c = λ w k name looks seen.
    let some : 0 < length c.args.rest.now = search rules in
    let gone : register_inside c.args.home.now (g.T.Traders.world c.args.traders.now) c.args.register ≡ None =
    search rules in
    is-outside g.T.Traders.others g.T.Traders.later c.args.home.now c.args.whole.now
    (g.P.Peers.calls c.args.peers.now) (g.P.Peers.calls c.ask_register.new.peers) w
    (g.T.Traders.world c.args.traders.now) k name c.args.rest.now c.args.point c.args.register
    c.in_ok-answer-in-None.answer some looks seen gone c.in_ok-answer-in-None.ensures.asks
