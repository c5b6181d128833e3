use Rattle.std.proofs.Common.{[], ◌∷◌}
use Rattle.td_cdr.proofs.Appending.{puts-then}
use Rattle.td_cdr.specs.Format.{row}
use Rattle.td_cdr.specs.Sound.{ulong}
use Rattle.td_names.proofs.Single.{puts-one}
use Rattle.td_names.specs.Spelling.{component}
use Rattle.td_names.proofs.spelling.put_name_of.Goals as goal

pub returns : goal.returns
returns c =
    let wrote = c.in_ok-u32.ensures.done in
    let one =
    puts-one (component.format.writes c.args.component.now) c.u32.new.self c.write.new.w c.write.result
    c.write.ensures in
    puts-then (ulong.format.writes 1) (row (component.format.writes c.args.component.now ∷ [])) c.args.w.now
    c.u32.new.self c.write.new.w c.write.result wrote.0 wrote.1 one
