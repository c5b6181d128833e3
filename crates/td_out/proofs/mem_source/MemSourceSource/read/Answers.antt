use Rattle.std.proofs.Common.{refl}
use Rattle.td_out.proofs.Moving.{moved, ends}
use Rattle.td_out.proofs.mem_source.MemSourceSource.read.Goals as goal

pub returns-clause-bytes : goal.returns-clause-bytes
returns-clause-bytes c =
    let bytes = c.self.inside.bytes in
    let copied = c.copy_front-size.ensures in
    let size = rw c.deref-2.ensures at copied.size in
    let filled = rw c.deref-2.ensures at copied.copied in
    let m =
    moved bytes _ c.args.into.now c.copy_front-size.new.into c.self.inside.place c.copy_front-size.result
    c.most_at-most.result refl size filled in
    let e =
    ends bytes _ c.args.into.now c.copy_front-size.new.into c.self.inside.place c.copy_front-size.result
    c.most_at-most.result refl size filled c.most_at-most.ensures.some in
    rw (← c.self.view_is) (m, e)
