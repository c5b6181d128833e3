use Rattle.td_fed.proofs.Going.{Going}
use Rattle.td_fed.proofs.Measures.{measure_all, most}
use Rattle.td_fed.proofs.visiting.walk_on.Given as goal
use Rattle.td_query_walk.specs.Faults.{CountsFaults}

-- the traders, peers and words are the same still, and so far the walk has come
abbrev pub invariant-turns : goal.invariant-turns
invariant-turns g l =
    g.T.Traders.same l.initial.traders l.traders
    × g.P.Peers.same l.initial.peers l.peers
    × g.W.Words.same l.initial.words l.words
    × Going g.T.Traders.others g.T.Traders.later l.home
    (g.T.Traders.world l.initial.traders) (g.W.Words.word l.initial.words) (g.P.Peers.calls l.initial.peers)
    l.initial.notes.items l.initial.stack.items
    (g.T.Traders.world l.traders) (g.W.Words.word l.words) (g.P.Peers.calls l.peers) l.notes.items l.stack.items
    × CountsFaults (g.P.Peers.calls l.initial.peers) (g.P.Peers.calls l.peers) (g.P.Peers.faults l.initial.peers)
    (g.P.Peers.faults l.peers)

abbrev pub decreases-turns : goal.decreases-turns
decreases-turns g l = measure_all most l.stack.items
