use Rattle.std.proofs.Common.{◌≡◌, ◌+◌, sym, ◌∙◌, arith, length}
use Rattle.td_names.proofs.Walks.{at_last, some_components}
use Rattle.td_names.proofs.store.NameStore.holder.Goals as goal

pub returns : goal.returns
returns c =
    let some = some_components c.args.name.now c.if-is_empty.ensures in
    let end : c.loop-i.i + 1 ≡ length c.args.name.now = omega (arith, some, c.loop-i-test.false, c.loop-i.auto.i-end) in
    sym (c.loop-i.invariant ∙ at_last c.args.self.now c.loop-i.at c.args.name.now c.loop-i.i end)
