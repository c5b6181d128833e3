use Rattle.std.proofs.Common.{◌≡◌, drop, length, refl, sym, ap, ◌∙◌, arith}
use Rattle.std.proofs.lemmas.List.{length-drop}
use Rattle.td_visit.proofs.Turns.{at_item, link_passed, link_asks, forwards, call_asked, all_called, all_asked}
use Rattle.td_walk.specs.SubQueries.{link_step}
use Rattle.td_visit.proofs.questions.ask_others.Goals as goal

pub returns-then-is_some-clause-asks : goal.returns-then-is_some-clause-asks
returns-then-is_some-clause-asks c =
    call_asked c.args.local.now c.args.found.now c.args.answers.now c.call_proxies.new.others
    c.in_ok-called.called (sym c.is_some.ensures ∙ c.if-is_some.true) c.in_ok-called.ensures.calls

pub loop-link-init : goal.loop-link-init
loop-link-init c = (
  all_called c.args.local.now c.args.found.now c.args.answers.now c.call_proxies.new.others c.in_ok-called.called
      (sym c.is_some.ensures ∙ c.if-is_some.false) c.in_ok-called.ensures.calls,
  omega arith,
  c.in_ok-called.ensures.place,
)

pub loop-link-preserved : goal.loop-link-preserved
loop-link-preserved c =
    let at =
    at_item c.args.local.now.links c.split_at.result.1.now c.call_proxies.new.others.links c.loop-link.link-index
    c.loop-link.others.links c.link-item.result
    (c.split_at.ensures.back ∙ ap (drop c.call_proxies.new.others.links) c.links_of.ensures)
    c.loop-link.invariant.1 (omega arith) c.link-item.is in
    let next =
    link_passed c.args.local.now c.args.found.now c.args.answers.now c.loop-link.others c.ask_over_link.new.others
    c.link-item.result
    (link_step c.args.local.now c.loop-link.others.wanted c.loop-link.others.local_match c.link-item.result)
    c.in_ok-question.question
    (sym c.is_some-in-loop-link.ensures ∙ c.if-is_some-2.false) c.loop-link.invariant.0 at refl
    c.in_ok-question.ensures.asks c.in_ok-question.ensures.passes c.loop-link.invariant.2 in
    (next.0, omega (arith, c.loop-link.invariant.1, next.1), next.2)

pub returns-then-is_some-2-clause-place : goal.returns-then-is_some-2-clause-place
returns-then-is_some-2-clause-place c =
    let at =
    at_item c.args.local.now.links c.split_at.result.1.now c.call_proxies.new.others.links c.loop-link.link-index
    c.loop-link.others.links c.link-item.result
    (c.split_at.ensures.back ∙ ap (drop c.call_proxies.new.others.links) c.links_of.ensures)
    c.loop-link.invariant.1 (omega arith) c.link-item.is in
    let stop =
    link_asks c.args.local.now c.args.found.now c.args.answers.now c.loop-link.others c.ask_over_link.new.others
    c.link-item.result
    (link_step c.args.local.now c.loop-link.others.wanted c.loop-link.others.local_match c.link-item.result)
    c.in_ok-question.question
    (sym c.is_some-in-loop-link.ensures ∙ c.if-is_some-2.true) c.loop-link.invariant.0 at refl
    c.in_ok-question.ensures.asks c.in_ok-question.ensures.passes c.loop-link.invariant.2 in
    stop.place

pub returns-then-is_some-2-clause-asks : goal.returns-then-is_some-2-clause-asks
returns-then-is_some-2-clause-asks c =
    let at =
    at_item c.args.local.now.links c.split_at.result.1.now c.call_proxies.new.others.links c.loop-link.link-index
    c.loop-link.others.links c.link-item.result
    (c.split_at.ensures.back ∙ ap (drop c.call_proxies.new.others.links) c.links_of.ensures)
    c.loop-link.invariant.1 (omega arith) c.link-item.is in
    let stop =
    link_asks c.args.local.now c.args.found.now c.args.answers.now c.loop-link.others c.ask_over_link.new.others
    c.link-item.result
    (link_step c.args.local.now c.loop-link.others.wanted c.loop-link.others.local_match c.link-item.result)
    c.in_ok-question.question
    (sym c.is_some-in-loop-link.ensures ∙ c.if-is_some-2.true) c.loop-link.invariant.0 at refl
    c.in_ok-question.ensures.asks c.in_ok-question.ensures.passes c.loop-link.invariant.2 in
    forwards c.args.local.now c.args.found.now c.args.answers.now c.ask_over_link.new.others c.in_ok-question.question stop

pub returns-clause-asks : goal.returns-clause-asks
returns-clause-asks c =
    let all : c.loop-link.others.links ≡ length c.args.local.now.links =
    omega (
      arith,
      c.loop-link.invariant.1,
      ap length c.split_at.ensures.back,
      ap length c.links_of.ensures,
      length-drop c.call_proxies.new.others.links c.links_of.result.now,
      c.in_ok-called.ensures.place.links,
    ) in
    all_asked c.args.local.now c.args.found.now c.args.answers.now c.loop-link.others c.loop-link.invariant.0 all
    c.loop-link.invariant.2
