use Rattle.td_name_session.proofs.Invoking.{act_invokes}
use Rattle.td_name_session.proofs.calls.invoke.Goals as goal

pub returns-in-Act-clause-invokes : goal.returns-in-Act-clause-invokes
returns-in-Act-clause-invokes g c =
    rw c.in-Act.is
    (act_invokes g.N.Names.others c.args.key c.context_in.result c.in-Act.act c.args.w.now
    (g.N.Names.view c.args.names.now) c.args.iterators.now c.serve_act.result c.args.w.now
    (g.N.Names.view c.serve_act.new.names) c.context_in.ensures c.serve_act.ensures.acts)
