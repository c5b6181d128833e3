use Rattle.td_name_ops.proofs.writing.put_binding.Goals as goal

pub returns : goal.returns
returns c = c.put_two.ensures
