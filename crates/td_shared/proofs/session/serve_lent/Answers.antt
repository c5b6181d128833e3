use Rattle.td_cell.specs.Passes.{knowledge}
use Rattle.td_servant.specs.Linking.{peers_seen}
use Rattle.td_dispatch.specs.Backends.{backend_seen}
use Rattle.td_shared.proofs.Streaming.{ServesKnown, StaysKnown, serves_sharing}
use Rattle.td_shared.proofs.session.serve_lent.Goals as goal
use Rattle.td_shared.specs.Stages.{shared_in}
use Rattle.td_stream.proofs.Mapped.{seen_so}

pub returns-clause-serves : goal.returns-clause-serves
returns-clause-serves g c =
    serves_sharing g.T.Traders.others g.T.Traders.later _ _ c.serve_stream-streamed.result _ _ _ c.requires
    (seen_so
    (λ v. (
      v.sharing.full,
      shared_in
          (backend_seen (g.T.Traders.world v.other.traders.now)
          (peers_seen (g.P.Peers.calls v.other.peers.now) (g.P.Peers.faults v.other.peers.now)) (g.W.Words.word v.other.words.now))
          v.other.room.now (knowledge v.sharing.pass.now) (g.J.SharedJournal.entries v.sharing.journal.now),
    ))
    _ _ (ServesKnown g.T.Traders.others g.T.Traders.later) (StaysKnown g.T.Traders.others g.T.Traders.later)
    (λ s m r t x. x) (λ s t x. x) _ _ _ _ _ c.serve_stream-streamed.ensures.streams)
    c.ends_by.ensures
