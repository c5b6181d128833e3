use Rattle.td_name_session.proofs.Invoking.{refused_performed}
use Rattle.td_name_session.proofs.serving.serve_judged.Goals as goal
use Rattle.td_name_session.specs.Scenes.{scene}

pub returns-in-Refused-clause-performed : goal.returns-in-Refused-clause-performed
returns-in-Refused-clause-performed g c =
    rw c.in-Refused.is
    (refused_performed g.N.Names.others c.args.to (scene (g.N.Names.view c.args.names.now) c.args.iterators.now)
    c.plain.result c.args.w.now c.in-Refused.kind c.in-Refused.minor (rw c.refusal_outcome.ensures at c.plain.ensures.body)
    c.plain.ensures.accepted)
