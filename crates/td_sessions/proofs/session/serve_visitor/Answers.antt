use Rattle.std.proofs.Common.{ℕ, List, [], ap, ◌∙◌}
use Rattle.td_servant.specs.Linking.{peers_seen}
use Rattle.td_sessions.proofs.Seeded.{served}
use Rattle.td_walk.specs.Peering.{Exchange}
use Rattle.td_sessions.proofs.session.serve_visitor.Goals as goal

pub returns-clause-serves : goal.returns-clause-serves
returns-clause-serves g c =
    served g.T.Traders.others g.T.Traders.later c.args.room.now.home (g.T.Traders.world c.args.traders.now)
    c.args.room.now.desk _ (g.W.Words.word c.args.visitor.now.words) _ _ _ _ _ c.requires.new.desk
    (ap (λ (calls : List Exchange). peers_seen calls c.new-peers.result.faults) c.new-peers.ensures.calls
    ∙ ap (λ (k : ℕ). peers_seen [] k) c.new-peers.ensures.faults)
    c.serve_connection-end.ensures.serves
