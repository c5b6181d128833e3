use Rattle.td_shared_sessions.proofs.Seeded.{shares_over}
use Rattle.td_shared_sessions.proofs.session.SharedPassPassPassesLeftSessionEnd.serve.Goals as goal

pub returns-clause-serves : goal.returns-clause-serves
returns-clause-serves g c =
    shares_over _ _ _ _ _ _ _ _ _ _ _ c.empty-journal.ensures c.serve_visitor-end.ensures.serves
