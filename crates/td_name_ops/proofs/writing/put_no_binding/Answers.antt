use Rattle.td_name_ops.proofs.writing.put_no_binding.Goals as goal

pub returns : goal.returns
returns c = rw c.new-name.ensures at c.put_three.ensures
