use Rattle.std.proofs.Common.{length, refl}
use Rattle.td_remote_query.proofs.Batching.{last_batch}
use Rattle.td_remote_query.proofs.draining.join_last.Goals as goal

pub returns-in-Ok-clause-joins : goal.returns-in-Ok-clause-joins
returns-in-Ok-clause-joins c = (
  λ last next. last_batch (length c.args.gathered.now.items) c.args.offers last next c.requires.joined,
  refl,
  c.in-Ok.ensures.ok,
)
