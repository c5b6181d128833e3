use Rattle.td_cdr.proofs.Appending.{puts-then}
use Rattle.td_cdr.specs.Sound.{ulong}
use Rattle.td_name_ops.specs.Outcomes.{profile_piece}
use Rattle.td_name_ops.proofs.references.put_only.Goals as goal

pub returns-clause-puts : goal.returns-clause-puts
returns-clause-puts c =
    let wrote = c.in_ok-u32.ensures.done in
    puts-then (ulong.format.writes 1) (profile_piece c.args.profile.now) c.args.w.now c.u32.new.self
    c.put_profile.new.w c.put_profile.result wrote.0 wrote.1 c.put_profile.ensures.puts
