use Rattle.td_shared_sessions.proofs.Closing.{from_bound, if_ok}
use Rattle.td_shared_sessions.proofs.serving.serve_sharing.Goals as goal

pub returns-in-Ok-clause-serves : goal.returns-in-Ok-clause-serves
returns-in-Ok-clause-serves g c =
    if_ok c.serve_bound.result c.serve_bound.ensures.serves
    (λ f. from_bound _ _ c.args.home.now c.args.seed.now _ _ _ _ _ _ _ c.as_slice.ensures c.in-Ok.ensures.content.ok f)
