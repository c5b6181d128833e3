use Rattle.td_cdr.proofs.Appending.{puts-then}
use Rattle.td_cdr.specs.Sound.{text}
use Rattle.td_name_ops.specs.Exceptions.{exception_id, members_of}
use Rattle.td_name_ops.proofs.exceptions.put_exception.Goals as goal

pub returns : goal.returns
returns c =
    let wrote = rw c.exception_id.ensures at c.in_ok-string.ensures.done in
    puts-then (text.format.writes (exception_id c.args.exception.now))
    ((members_of c.args.exception.now).format.writes c.args.exception.now) c.args.w.now c.string.new.self
    c.put_members.new.w c.put_members.result wrote.0 wrote.1 c.put_members.ensures
