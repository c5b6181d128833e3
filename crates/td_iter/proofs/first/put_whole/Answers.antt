use Rattle.std.proofs.Common.{ℕ, length, take, ap, ◌∙◌, arith}
use Rattle.std.proofs.Math.Seq.{take-append_seam}
use Rattle.td_cdr.specs.Writing.{Draft}
use Rattle.td_iter.proofs.Whole.{no-whole}
use Rattle.td_iter.proofs.first.put_whole.Goals as goal

pub returns-in-Ok-2-clause-whole : goal.returns-in-Ok-2-clause-whole
returns-in-Ok-2-clause-whole c =
    let old = c.args.w.now in
    let new = c.append_ended.new.w in
    let puts = c.in-Ok.ensures.puts in
    let there = puts.is_batch.there in
    λ iterator. (
      ap (λ (d : Draft). d.bytes) c.cut.ensures ∙ ap (λ (m : ℕ). take m new.bytes) c.len-held.ensures.len
          ∙ ap (take (length old.bytes)) puts.bytes ∙ take-append_seam old.bytes _,
      no-whole c.args.limits.now c.args.offers.now old iterator new c.args.n c.in-Ok.count puts
          (grind (arith, there, c.if-count-offers.false)),
    )
