use Rattle.std.proofs.Common.{◌≡◌, ◌<◌, ◌∙◌, ap, false, length, rules, sym, true}
use Rattle.td_net.proofs.Becoming.{read}
use Rattle.td_net.proofs.Taking.{answer-so, handed-on, handed-wants, there}
use Rattle.td_net.proofs.resuming.answer.Goals as goal
use Rattle.td_net.specs.Worlds.{answer_at, hand_on, visit_in}
use Rattle.td_net.specs.declared.call.Call.{Call}
use Rattle.td_net.specs.declared.call.QuestionStep.TheVariants.{Given}
use Rattle.td_walk.specs.declared.answer.StepAnswer.TheVariants.{Offers}
use Rattle.std.specs.Prelude.{Some, slice_get}
use Rattle.td_query_walk.specs.Walks.{answer_in}

pub returns-in-Ok-give-clause-takes : goal.returns-in-Ok-give-clause-takes
returns-in-Ok-give-clause-takes c w group visits =
    let calls = c.args.visits.now.calls.items in
    let s = c.args.visits.now.words in
    let d = c.args.call in
    let x = c.index.result.now in
    let within : d < length calls = search rules in
    let is = there calls d x within c.index.ensures in
    let handed_is : c.index-2.result.now.handed ≡ false = search rules in
    let once : x.handed ≡ false =
    ap (λ (z : Call). z.handed) (read calls d x c.index-2.result.now is c.index-2.ensures) ∙ handed_is in
    let marked : c.hand_on.new.self ≡ record x { handed = true } =
    c.hand_on.ensures
    ∙ ap (λ (z : Call). record z { handed = true })
    (sym (read calls d x c.index_mut.result.now is c.index_mut.ensures.value)) in
    let ended : visit_in x.stage ≡ Some c.in-Ended.visit =
    ap (λ (z : Call). visit_in z.stage) (read calls d x c.index-3.result.now is c.index-3.ensures)
    ∙ ap visit_in c.in-Ended.is in
    let offers : answer_in c.in-Ended.visit ≡ c.in-Ok.offers = sym (c.in-Ok.ensures ∙ ap answer_in c.get.ensures) in
    let t_is =
    answer-so w d calls s visits x is c.in-Some.caller c.in-Some.is once c.in-Ended.visit ended
    ∙ ap (λ z. hand_on w d x c.in-Some.caller (Given d) (Offers z)) offers in
    handed-on w d calls s visits x is c.in-Some.caller c.hand_on.new.self marked (answer_at w d (slice_get w.calls d))
    (Given d) (Offers c.in-Ok.offers) t_is c.give.new.visits.calls.items
    c.give.new.visits.words.drawn
    (λ v traders home h. c.in-Ok-give.ensures.becomes v
    (record { traders_are = traders ∙ group.traders_are; home_is = home ∙ group.home_is }) h)

pub returns-in-Err-clause-takes : goal.returns-in-Err-clause-takes
returns-in-Err-clause-takes c w group visits =
    let calls = c.args.visits.now.calls.items in
    let s = c.args.visits.now.words in
    let d = c.args.call in
    let x = c.index.result.now in
    let within : d < length calls = search rules in
    let is = there calls d x within c.index.ensures in
    let handed_is : c.index-2.result.now.handed ≡ false = search rules in
    let once : x.handed ≡ false =
    ap (λ (z : Call). z.handed) (read calls d x c.index-2.result.now is c.index-2.ensures) ∙ handed_is in
    let marked : c.hand_on.new.self ≡ record x { handed = true } =
    c.hand_on.ensures
    ∙ ap (λ (z : Call). record z { handed = true })
    (sym (read calls d x c.index_mut.result.now is c.index_mut.ensures.value)) in
    let ended : visit_in x.stage ≡ Some c.in-Ended.visit =
    ap (λ (z : Call). visit_in z.stage) (read calls d x c.index-3.result.now is c.index-3.ensures)
    ∙ ap visit_in c.in-Ended.is in
    let offers : answer_in c.in-Ended.visit ≡ c.in-Ok.offers = sym (c.in-Ok.ensures ∙ ap answer_in c.get.ensures) in
    let t_is =
    answer-so w d calls s visits x is c.in-Some.caller c.in-Some.is once c.in-Ended.visit ended
    ∙ ap (λ z. hand_on w d x c.in-Some.caller (Given d) (Offers z)) offers in
    handed-wants w d calls s visits x is c.in-Some.caller c.hand_on.new.self marked
    (answer_at w d (slice_get w.calls d))
    (Given d) (Offers c.in-Ok.offers) t_is c.give.new.visits.calls.items
    c.give.new.visits.words.drawn c.in-Err.ensures.kept
