use Rattle.td_name_session.proofs.Complete.{complete}
use Rattle.td_name_session.proofs.Exchanged.{session_served}
use Rattle.td_name_session.proofs.Messages.{first_number}
use Rattle.td_name_session.proofs.session.serve_lent.Goals as goal
use Rattle.td_name_session.specs.Stages.{ServesMessage, Stays, stage_in}
use Rattle.td_stream.proofs.Mapped.{seen_so}

pub serve_stream-requires : goal.serve_stream-requires
serve_stream-requires g c = first_number _ c.requires.desk

pub returns-clause-serves : goal.returns-clause-serves
returns-clause-serves g c =
    session_served g.N.Names.others _ _ _ _ _ c.requires.journal
    (seen_so (λ v. stage_in (g.N.Names.view v.names.now) v.room.now) _ _ (ServesMessage g.N.Names.others) Stays
    (λ s m r t x. x) (λ s t x. x) _ _ _ _ _ c.serve_stream.ensures.streams)

pub returns-clause-complete : goal.returns-clause-complete
returns-clause-complete g c = complete _ _ _ _ _ _ _ (returns-clause-serves g c)
