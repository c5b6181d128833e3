use Rattle.td_ops.specs.declared.call.Call.TheVariants.{Iter}
use Rattle.td_remote_query.proofs.Fitness.{content_writable}
use Rattle.td_remote_query.proofs.draining.call_iterator.Goals as goal

pub returns-clause-writable : goal.returns-clause-writable
returns-clause-writable g c =
    content_writable (Iter c.args.call) c.exchange_call-answer.result c.exchange_call-answer.ensures.admitted
