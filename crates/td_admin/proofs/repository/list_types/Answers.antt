use Rattle.td_admin.specs.Repositories.{list_types}
use Rattle.td_admin.proofs.repository.list_types.Goals as goal

pub returns : goal.returns
unfolding list_types
returns c = c.outcome_of_reply.ensures _ c.args.store.now.types (rw c.since.ensures at c.list.ensures.answer)
