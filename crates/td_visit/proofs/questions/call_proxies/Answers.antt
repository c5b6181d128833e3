use Rattle.std.proofs.Common.{length, sym, ap, ◌∙◌, arith}
use Rattle.std.proofs.lemmas.List.{length-drop}
use Rattle.td_visit.proofs.Turns.{at_item, offer_passed, offer_asks, call_asks}
use Rattle.td_visit.proofs.questions.call_proxies.Goals as goal

pub loop-one-preserved : goal.loop-one-preserved
loop-one-preserved c =
    let at =
    at_item c.args.found.now c.split_at.result.1.now c.args.others.now.offers c.loop-one.one-index
    c.loop-one.others.offers c.one-item.result c.split_at.ensures.back c.loop-one.invariant.0 (omega arith)
    c.one-item.is in
    let next =
    offer_passed c.args.local.now c.args.found.now c.args.answers.now c.loop-one.others c.pass-question.new.others
    c.one-item.result c.in_ok-step.step c.pass-question.result (sym c.is_some.ensures ∙ c.if-is_some.false) at
    c.in_ok-step.ensures c.pass-question.ensures.asks c.pass-question.ensures.passes c.loop-one.invariant.1 in
    (omega (arith, c.loop-one.invariant.0, next.0), next.1)

pub returns-then-is_some-clause-place : goal.returns-then-is_some-clause-place
returns-then-is_some-clause-place c =
    let at =
    at_item c.args.found.now c.split_at.result.1.now c.args.others.now.offers c.loop-one.one-index
    c.loop-one.others.offers c.one-item.result c.split_at.ensures.back c.loop-one.invariant.0 (omega arith)
    c.one-item.is in
    let stop =
    offer_asks c.args.local.now c.args.found.now c.args.answers.now c.loop-one.others c.pass-question.new.others
    c.one-item.result c.in_ok-step.step c.pass-question.result (sym c.is_some.ensures ∙ c.if-is_some.true) at
    c.in_ok-step.ensures c.pass-question.ensures.asks c.pass-question.ensures.passes c.loop-one.invariant.1 in
    stop.place

pub returns-then-is_some-clause-calls : goal.returns-then-is_some-clause-calls
returns-then-is_some-clause-calls c =
    let at =
    at_item c.args.found.now c.split_at.result.1.now c.args.others.now.offers c.loop-one.one-index
    c.loop-one.others.offers c.one-item.result c.split_at.ensures.back c.loop-one.invariant.0 (omega arith)
    c.one-item.is in
    let stop =
    offer_asks c.args.local.now c.args.found.now c.args.answers.now c.loop-one.others c.pass-question.new.others
    c.one-item.result c.in_ok-step.step c.pass-question.result (sym c.is_some.ensures ∙ c.if-is_some.true) at
    c.in_ok-step.ensures c.pass-question.ensures.asks c.pass-question.ensures.passes c.loop-one.invariant.1 in
    call_asks c.args.local.now c.args.found.now c.args.answers.now c.pass-question.new.others c.pass-question.result stop

pub returns-clause-calls : goal.returns-clause-calls
returns-clause-calls c =
    omega (
      arith,
      c.loop-one.invariant.0,
      ap length c.split_at.ensures.back,
      length-drop c.args.others.now.offers c.args.found.now,
      c.requires.offers,
    )
