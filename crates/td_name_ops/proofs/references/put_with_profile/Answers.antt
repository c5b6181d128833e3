use Rattle.td_cdr.proofs.Appending.{puts-then}
use Rattle.td_cdr.specs.Sound.{text}
use Rattle.td_name_ops.specs.Outcomes.{only_profile_piece}
use Rattle.td_name_ops.proofs.references.put_with_profile.Goals as goal

pub returns-clause-puts : goal.returns-clause-puts
returns-clause-puts c =
    let wrote = rw c.as_slice.ensures at c.in_ok-string.ensures.done in
    puts-then (text.format.writes c.args.id.now) (only_profile_piece c.args.profile.now) c.args.w.now c.string.new.self
    c.put_only.new.w c.put_only.result wrote.0 wrote.1 c.put_only.ensures.puts
