use Rattle.std.proofs.Common.{ap, refl, ◌∙◌, length}
use Rattle.td_iter.specs.Heads.{nil, offers_found}
use Rattle.td_lookup.proofs.Batched.{nothing_written, tell_after, tell_first, tell_whole, unchanged_after}
use Rattle.td_lookup.proofs.offers.put_offers.Goals as goal

pub put_first-requires-clause-start : goal.put_first-requires-clause-start
put_first-requires-clause-start c =
    let unwritten = nothing_written (offers_found nil c.args.answer.limits) c.in-Some.left c.whole_batch.new.self c.args.n
    c.args.w.now c.whole_batch.new.w c.in-Ok-false.field-0 c.in-Ok-false.field-0-test
    (c.in-Ok-false.ensures.whole nil) in
    ap length unwritten.0 ∙ c.requires.start

pub returns-in-Ok-true-clause-puts : goal.returns-in-Ok-true-clause-puts
returns-in-Ok-true-clause-puts c =
    tell_whole c.args.home.now c.args.name.now c.args.n c.args.answer.limits c.args.answer.offers c.in-Some.left
    c.whole_batch.new.self c.args.w.now c.whole_batch.new.w c.args.desk.now c.in-Ok-true.field-0 c.in-Some.ensures
    c.in-Ok-true.field-0-test c.in-Ok-true.ensures.whole

pub returns-in-Ok-clause-puts : goal.returns-in-Ok-clause-puts
returns-in-Ok-clause-puts c =
    let unwritten = nothing_written (offers_found nil c.args.answer.limits) c.in-Some.left c.whole_batch.new.self c.args.n
    c.args.w.now c.whole_batch.new.w c.in-Ok-false.field-0 c.in-Ok-false.field-0-test
    (c.in-Ok-false.ensures.whole nil) in
    let first = tell_first c.args.home.now c.args.name.now c.args.n c.args.answer.limits c.whole_batch.new.self
    c.in-Ok.label.trader c.next_number.result c.in-Ok.label.reference c.whole_batch.new.w c.put_first.new.w
    c.args.desk.now c.put_first.new.desk c.put_first.result c.in-Ok.ensures.trader c.in-Ok.ensures.reference
    c.next_number.ensures c.put_first.ensures.puts in
    tell_after c.args.home.now c.args.name.now c.args.n c.args.answer.limits c.args.answer.offers
    c.whole_batch.new.self c.args.w.now c.whole_batch.new.w c.put_first.new.w c.args.desk.now c.put_first.new.desk
    c.put_first.result (unwritten.1 ∙ c.in-Some.ensures) unwritten.0 c.in-Ok-false.ensures.order first

pub returns-in-Ok-clause-err : goal.returns-in-Ok-clause-err
returns-in-Ok-clause-err c =
    let unwritten = nothing_written (offers_found nil c.args.answer.limits) c.in-Some.left c.whole_batch.new.self c.args.n
    c.args.w.now c.whole_batch.new.w c.in-Ok-false.field-0 c.in-Ok-false.field-0-test
    (c.in-Ok-false.ensures.whole nil) in
    unchanged_after c.args.w.now c.whole_batch.new.w c.put_first.new.w c.args.desk.now c.put_first.new.desk
    c.put_first.result unwritten.0 c.put_first.ensures.err

pub returns-in-Err-label_for-clause-err : goal.returns-in-Err-label_for-clause-err
returns-in-Err-label_for-clause-err c =
    let unwritten = nothing_written (offers_found nil c.args.answer.limits) c.in-Some.left c.whole_batch.new.self c.args.n
    c.args.w.now c.whole_batch.new.w c.in-Ok-false.field-0 c.in-Ok-false.field-0-test
    (c.in-Ok-false.ensures.whole nil) in (
      refl,
      unwritten.0,
    )
