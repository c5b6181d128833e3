use Rattle.td_admin.specs.Repositories.{fully_describe_type}
use Rattle.td_admin.proofs.repository.fully_describe_type.Goals as goal

pub returns : goal.returns
unfolding fully_describe_type
returns c = c.outcome_of_reply.ensures _ c.args.store.now.types c.fully_describe.ensures.answer
