use Rattle.td_shared_sessions.proofs.Closing.{from_opened, if_ok}
use Rattle.td_shared_sessions.proofs.serving.serve_bound.Goals as goal

pub returns-in-Ok-clause-serves : goal.returns-in-Ok-clause-serves
returns-in-Ok-clause-serves g c =
    if_ok c.serve_opened.result c.serve_opened.ensures.serves
    (λ f. from_opened _ _ _ _ _ _ _ _ _ _ _ _ c.in-Ok.ensures.opened c.in-Ok.ensures.seen c.in-Ok.ensures.new f)
