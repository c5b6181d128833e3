use Rattle.std.proofs.Common.{ℕ, List, [], ap, ◌∙◌}
use Rattle.td_servant.specs.Linking.{peers_seen}
use Rattle.td_shared_sessions.proofs.Seeded.{shares_traders}
use Rattle.td_walk.specs.Peering.{Exchange}
use Rattle.td_shared_sessions.proofs.session.serve_visitor.Goals as goal

pub returns-clause-serves : goal.returns-clause-serves
returns-clause-serves g c =
    shares_traders g.T.Traders.others g.T.Traders.later _ _ _ _ _ _ _ _ _ _ _ _
    (ap (λ (calls : List Exchange). peers_seen calls c.new-peers.result.faults) c.new-peers.ensures.calls
    ∙ ap (λ (k : ℕ). peers_seen [] k) c.new-peers.ensures.faults)
    c.serve_shared-end.ensures.serves
