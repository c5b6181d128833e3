use Rattle.std.proofs.Common.{length}
use Rattle.td_cdr.specs.Format.{◌then◌, number}
use Rattle.td_typecode.specs.WritingCodes.{kind_piece}
use Rattle.td_typecode.proofs.WrittenParts.{appends-two, appends-none}
use Rattle.td_typecode.proofs.writing.write_two.Goals as goal

pub returns-in-Ok : goal.returns-in-Ok
returns-in-Ok c =
    let kind = rw c.number.ensures at c.in_ok-u32.ensures.done in
    appends-two (kind_piece c.args.kind) ((number 4).writes c.args.n)
    c.args.w.now c.u32.new.self c.u32-2.new.self kind.0 kind.1
    c.in-Ok.ensures

pub returns-in-Err : goal.returns-in-Err
returns-in-Err c =
    let kind = rw c.number.ensures at c.in_ok-u32.ensures.done in
    let w = c.args.w.now in
    appends-none (kind_piece c.args.kind then (number 4).writes c.args.n) w c.u32.new.self c.u32-2.new.self
    c.cut.new.self c.len-held.result (kind_piece c.args.kind w.order (length w.bytes)) c.in-Err.memory
    c.len-held.ensures.len kind.0 kind.1 c.in-Err.ensures.refused.0 c.cut.ensures
