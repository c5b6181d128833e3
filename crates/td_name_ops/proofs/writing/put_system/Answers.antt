use Rattle.std.proofs.Common.{refl}
use Rattle.td_typecode.proofs.WrittenParts.{puts-whole}
use Rattle.td_ops.specs.Outcomes.{system_piece}
use Rattle.td_name_ops.proofs.writing.put_system.Goals as goal

pub returns-clause-puts : goal.returns-clause-puts
returns-clause-puts c =
    puts-whole (system_piece c.args.kind c.args.minor c.args.completion) c.args.w.now c.write_outcome-written.new.w
    c.write_outcome-written.result c.write_outcome-written.ensures.appends

pub returns-clause-fits : goal.returns-clause-fits
returns-clause-fits c = c.write_outcome-written.ensures.fits refl

pub returns-clause-room : goal.returns-clause-room
returns-clause-room c = c.write_outcome-written.ensures.room refl
