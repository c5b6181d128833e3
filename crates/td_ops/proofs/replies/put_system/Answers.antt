use Rattle.td_cdr.specs.Format.{◌then◌}
use Rattle.td_cdr.specs.Sound.{text, ulong}
use Rattle.td_cdr.proofs.Appending.{puts-then}
use Rattle.td_ops.specs.Outcomes.{system_id}
use Rattle.td_ops.proofs.replies.put_system.Goals as goal

pub returns-clause-puts : goal.returns-clause-puts
returns-clause-puts c =
    let wrote = rw c.system_id.ensures at c.in_ok-string.ensures.done in
    puts-then (text.format.writes (system_id c.args.kind))
    (ulong.format.writes c.args.minor then ulong.format.writes c.args.completion) c.args.w.now c.string.new.self
    c.put_numbers.new.w c.put_numbers.result
    wrote.0 wrote.1 c.put_numbers.ensures.puts
