use Rattle.td_admin.specs.Repositories.{describe_type}
use Rattle.td_admin.proofs.repository.describe_type.Goals as goal

pub returns : goal.returns
unfolding describe_type
returns c = c.outcome_of_reply.ensures _ c.args.store.now.types c.describe.ensures.answer
