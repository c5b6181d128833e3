use Rattle.td_cdr.specs.Sound.{text}
use Rattle.td_cdr.proofs.Appending.{puts-then}
use Rattle.td_exceptions.specs.Exceptions.{row_of, user_id}
use Rattle.td_exceptions.proofs.writing.put_user.Goals as goal

pub returns : goal.returns
returns c =
    let wrote = rw c.user_id.ensures at c.in_ok-string.ensures.done in
    puts-then (text.format.writes (user_id c.args.exception.now))
    ((row_of c.args.exception.now).members.format.writes c.args.exception.now) c.args.w.now c.string.new.self
    c.put_members.new.w c.put_members.result
    wrote.0 wrote.1 c.put_members.ensures
