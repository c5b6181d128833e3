use Rattle.std.proofs.Common.{refl}
use Rattle.td_name_session.proofs.Invoking.{act_done_so}
use Rattle.td_name_session.proofs.calls.serve_act.Goals as goal
use Rattle.td_name_session.specs.Invoking.ActsTo.{no_memory_outcome}

pub returns-in-Ok-clause-acts : goal.returns-in-Ok-clause-acts
returns-in-Ok-clause-acts g c =
    act_done_so g.N.Names.others c.home-home.result.now (g.N.Names.view c.args.names.now)
    (g.N.Names.view c.act.new.self) c.args.context c.args.act c.in-Ok.answer _ c.outcome_of.result
    c.is_change-is_change.result c.home-home.ensures.home c.home-home.ensures.address c.in-Ok.ensures.ok
    c.outcome_of.ensures c.is_change-is_change.ensures refl c.is_accepted-accepted.ensures

pub returns-in-Err-clause-acts : goal.returns-in-Err-clause-acts
returns-in-Err-clause-acts g c = no_memory_outcome c.in-Err.ensures.err (c.no_memory.ensures.body, c.no_memory.ensures.accepted)
