use Rattle.std.proofs.Common.{length}
use Rattle.td_cdr.specs.Format.{◌then◌, octets}
use Rattle.td_typecode.specs.WritingCodes.{kind_piece}
use Rattle.td_typecode.proofs.WrittenParts.{appends-two, appends-none}
use Rattle.td_typecode.proofs.writing.write_encapsulation.Goals as goal

pub returns-in-Ok : goal.returns-in-Ok
returns-in-Ok c =
    let kind = rw c.number.ensures at c.in_ok-u32.ensures.done in
    appends-two (kind_piece c.args.kind) (octets.writes c.args.inner.now.bytes)
    c.args.w.now c.u32.new.self c.octets.new.self kind.0 kind.1
    (rw c.bytes.ensures at c.in-Ok.ensures)

pub returns-in-Err : goal.returns-in-Err
returns-in-Err c =
    let kind = rw c.number.ensures at c.in_ok-u32.ensures.done in
    let w = c.args.w.now in
    appends-none (kind_piece c.args.kind then octets.writes c.args.inner.now.bytes) w c.u32.new.self c.octets.new.self
    c.cut.new.self c.len-held.result (kind_piece c.args.kind w.order (length w.bytes)) c.in-Err.memory
    c.len-held.ensures.len kind.0 kind.1 c.in-Err.ensures.refused.0 c.cut.ensures
