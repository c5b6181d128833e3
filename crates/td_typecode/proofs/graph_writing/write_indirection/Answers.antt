use Rattle.td_cdr.specs.Format.{number}
use Rattle.td_typecode.specs.Kinds.{indirection}
use Rattle.td_typecode.specs.NodeWriting.{long_placed}
use Rattle.td_typecode.proofs.PlacedWriting.{plainly-then}
use Rattle.td_typecode.proofs.graph_writing.write_indirection.Goals as goal

pub returns : goal.returns
returns c =
    let first = c.in_ok-u32.ensures.done in
    plainly-then ((number 4).writes indirection) (long_placed c.args.number) c.args.base c.args.places.now
    c.args.places.now c.args.w.now c.u32.new.self c.write_long.new.w c.write_long.result first.0 first.1
    c.write_long.ensures
