use Rattle.std.proofs.Common.{◌≡◌, ◌<◌, ◌∙◌, ap, false, length, rules, sym, true}
use Rattle.td_net.proofs.Becoming.{read}
use Rattle.td_net.proofs.Taking.{lose-so, handed-on, handed-wants, there}
use Rattle.td_net.proofs.resuming.lose.Goals as goal
use Rattle.td_net.specs.Worlds.{lose_at}
use Rattle.td_net.specs.declared.call.Call.{Call}
use Rattle.td_net.specs.declared.call.QuestionStep.TheVariants.{Lost}
use Rattle.td_walk.specs.declared.answer.StepAnswer.TheVariants.{Failed}
use Rattle.std.specs.Prelude.{slice_get}

pub returns-in-Ok-clause-takes : goal.returns-in-Ok-clause-takes
returns-in-Ok-clause-takes c w group visits =
    let calls = c.args.visits.now.calls.items in
    let s = c.args.visits.now.words in
    let d = c.args.call in
    let x = c.index.result.now in
    let within : d < length calls = search rules in
    let is = there calls d x within c.index.ensures in
    let handed_is : c.index-2.result.now.handed ≡ false = search rules in
    let once : x.handed ≡ false =
    ap (λ (z : Call). z.handed) (read calls d x c.index-2.result.now is c.index-2.ensures) ∙ handed_is in
    let marked : c.hand_on.new.self ≡ record x { handed = true } =
    c.hand_on.ensures
    ∙ ap (λ (z : Call). record z { handed = true })
    (sym (read calls d x c.index_mut.result.now is c.index_mut.ensures.value)) in
    let t_is = lose-so w d calls s visits x is c.in-Some.caller c.in-Some.is once in
    handed-on w d calls s visits x is c.in-Some.caller c.hand_on.new.self marked (lose_at w d (slice_get w.calls d))
    (Lost d) Failed t_is c.give.new.visits.calls.items
    c.give.new.visits.words.drawn
    (λ v traders home h. c.in-Ok.ensures.becomes v
    (record { traders_are = traders ∙ group.traders_are; home_is = home ∙ group.home_is }) h)

pub returns-in-Err-clause-takes : goal.returns-in-Err-clause-takes
returns-in-Err-clause-takes c w group visits =
    let calls = c.args.visits.now.calls.items in
    let s = c.args.visits.now.words in
    let d = c.args.call in
    let x = c.index.result.now in
    let within : d < length calls = search rules in
    let is = there calls d x within c.index.ensures in
    let handed_is : c.index-2.result.now.handed ≡ false = search rules in
    let once : x.handed ≡ false =
    ap (λ (z : Call). z.handed) (read calls d x c.index-2.result.now is c.index-2.ensures) ∙ handed_is in
    let marked : c.hand_on.new.self ≡ record x { handed = true } =
    c.hand_on.ensures
    ∙ ap (λ (z : Call). record z { handed = true })
    (sym (read calls d x c.index_mut.result.now is c.index_mut.ensures.value)) in
    let t_is = lose-so w d calls s visits x is c.in-Some.caller c.in-Some.is once in
    handed-wants w d calls s visits x is c.in-Some.caller c.hand_on.new.self marked (lose_at w d (slice_get w.calls d))
    (Lost d) Failed t_is c.give.new.visits.calls.items
    c.give.new.visits.words.drawn c.in-Err.ensures.kept
