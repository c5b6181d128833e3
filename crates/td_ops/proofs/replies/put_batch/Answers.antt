use Rattle.td_ops.proofs.replies.put_batch.Goals as goal

pub returns : goal.returns
returns c = c.put_two.ensures
