use Rattle.std.proofs.Common.{◌<◌, length, ap, ◌∙◌, arith}
use Rattle.td_iter.specs.declared.item.Item.{Item}
use Rattle.td_desk.proofs.AtPlaces.{given_here, kept_here}
use Rattle.td_desk.proofs.places.give.Goals as goal

pub returns-in-Ok-clause-given : goal.returns-in-Ok-clause-given
returns-in-Ok-clause-given c =
    let es = c.args.entries.now.items in
    let lt : c.args.place < length es = omega (arith, c.if-place-len.false, c.len.ensures, c.args.entries.now.ok.0) in
    given_here c.args.n c.args.place es c.args.w.now c.next_of.new.w c.index_mut.result.now lt c.index_mut.ensures.value
    c.next_of.new.entry c.in-Ok.more c.in-Ok.ensures.rest c.in-Ok.ensures.next

pub returns-in-Err-clause-given : goal.returns-in-Err-clause-given
returns-in-Err-clause-given c =
    let es = c.args.entries.now.items in
    let lt : c.args.place < length es = omega (arith, c.if-place-len.false, c.len.ensures, c.args.entries.now.ok.0) in
    kept_here c.args.n c.args.place es c.args.w.now c.next_of.new.w c.index_mut.result.now lt c.index_mut.ensures.value
    c.next_of.new.entry c.in-Err.memory (c.in-Err.ensures.rest
    ∙ ap (λ (i : Item). record c.index_mut.result.now { item = i }) c.in-Err.ensures.err.0) c.in-Err.ensures.err.1
