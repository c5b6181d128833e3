use Rattle.td_servant.specs.Linking.{peers_seen}
use Rattle.td_dispatch.specs.Backends.{backend_seen}
use Rattle.td_session.specs.Serving.{ServesMessage, Stays}
use Rattle.td_session.specs.Stages.{stage_in}
use Rattle.td_session.proofs.Complete.{complete}
use Rattle.td_session.proofs.Exchanged.{session_served}
use Rattle.td_session.proofs.session.serve_lent.Goals as goal
use Rattle.td_session.proofs.Messages.{first_number}
use Rattle.td_stream.proofs.Mapped.{seen_so}
use Rattle.td_session_runs.proofs.Running.{faults-rise}

pub serve_stream-end-requires : goal.serve_stream-end-requires
serve_stream-end-requires g c = first_number _ c.requires.desk

pub returns-clause-serves : goal.returns-clause-serves
returns-clause-serves g c =
    session_served g.T.Traders.others g.T.Traders.later _ _ _ _ _ c.requires.journal c.tell_gifts.ensures
    (seen_so
    (λ v.
    stage_in
    (backend_seen (g.T.Traders.world v.traders.now)
    (peers_seen (g.P.Peers.calls v.peers.now) (g.P.Peers.faults v.peers.now)) (g.W.Words.word v.words.now))
    v.room.now)
    _ _ (ServesMessage g.T.Traders.others g.T.Traders.later) Stays (λ s m r t x. x) (λ s t x. x) _ _ _ _ _
    c.serve_stream-end.ensures.streams)

pub returns-clause-faults : goal.returns-clause-faults
returns-clause-faults g c = faults-rise _ _ _ _ _ _ (returns-clause-serves g c).run

pub returns-clause-complete : goal.returns-clause-complete
returns-clause-complete g c = complete _ _ _ _ _ _ _ _ _ (returns-clause-serves g c)
