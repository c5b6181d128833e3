use Rattle.std.proofs.Common.{length}
use Rattle.td_remote_query.proofs.Batching.{empty_batch, grew, next_batch_joins, next_follows, none_there, some_there}
use Rattle.td_remote_query.proofs.draining.join_next.Goals as goal

pub returns-then-is_empty-clause-joins : goal.returns-then-is_empty-clause-joins
returns-then-is_empty-clause-joins c = λ last next.
    empty_batch (length c.args.gathered.now.items) c.args.offers last next c.requires.joined
    (none_there c.is_empty.result c.args.offers c.is_empty.ensures c.if-is_empty.true)

pub returns-in-Ok-clause-joins : goal.returns-in-Ok-clause-joins
returns-in-Ok-clause-joins c =
    let some = some_there c.is_empty.result c.args.offers c.is_empty.ensures c.if-is_empty.false in (
      λ last next.
          next_batch_joins (length c.args.gathered.now.items) c.args.offers last next c.requires.joined some,
      next_follows (length c.args.gathered.now.items) c.args.offers c.requires.joined some,
      grew c.args.gathered.now.items c.join.new.gathered.items c.args.offers c.requires.joined some c.in-Ok.ensures.ok,
    )
