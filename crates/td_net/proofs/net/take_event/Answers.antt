use Rattle.std.proofs.Common.{refl, slice_get, subst, sym}
use Rattle.td_net.proofs.Taking.{as-world}
use Rattle.td_net.proofs.net.take_event.Goals as goal
use Rattle.td_net.specs.Worlds.{TakenAs, change_at, step_of, world, world_of}
use Rattle.td_net.specs.declared.event.Event.{Event}

pub returns-in-Change : goal.returns-in-Change
returns-in-Change c =
    let w = world_of c.args.group.now c.args.visits.now c.args.clock.now in
    subst (λ (e : Event). TakenAs w (step_of w e) c.change.result
    (world_of c.change.new.group c.args.visits.now c.args.clock.now)) (sym c.in-Change.is)
    (subst (λ z. TakenAs w (change_at w c.in-Change.trader c.in-Change.wanted
    (slice_get w.traders c.in-Change.trader)) c.change.result
    (world c.change.new.group.traders.items z c.args.visits.now.calls.items c.args.clock.now
    c.args.visits.now.words.all c.args.visits.now.words.drawn)) (sym c.change.ensures.home)
    (c.change.ensures.takes w refl))

pub returns-in-Value : goal.returns-in-Value
returns-in-Value c =
    let w = world_of c.args.group.now c.args.visits.now c.args.clock.now in
    subst (λ (e : Event). TakenAs w (step_of w e) c.value.result
    (world_of c.args.group.now c.value.new.visits c.args.clock.now)) (sym c.in-Value.is)
    (as-world c.args.group.now.traders.items c.args.group.now.home c.args.visits.now.calls.items
    c.value.new.visits.calls.items c.args.clock.now c.args.visits.now.words c.value.new.visits.words _ c.value.result
    c.value.ensures.words
    (c.value.ensures.takes w (record { traders_are = refl; home_is = refl })
    (record { calls_are = refl; words_are = refl; drawn_is = refl })))

pub returns-in-Answer : goal.returns-in-Answer
returns-in-Answer c =
    let w = world_of c.args.group.now c.args.visits.now c.args.clock.now in
    subst (λ (e : Event). TakenAs w (step_of w e) c.answer.result
    (world_of c.args.group.now c.answer.new.visits c.args.clock.now)) (sym c.in-Answer.is)
    (as-world c.args.group.now.traders.items c.args.group.now.home c.args.visits.now.calls.items
    c.answer.new.visits.calls.items c.args.clock.now c.args.visits.now.words c.answer.new.visits.words _
    c.answer.result c.answer.ensures.words
    (c.answer.ensures.takes w (record { traders_are = refl; home_is = refl })
    (record { calls_are = refl; words_are = refl; drawn_is = refl })))

pub returns-in-Lose : goal.returns-in-Lose
returns-in-Lose c =
    let w = world_of c.args.group.now c.args.visits.now c.args.clock.now in
    subst (λ (e : Event). TakenAs w (step_of w e) c.lose.result
    (world_of c.args.group.now c.lose.new.visits c.args.clock.now)) (sym c.in-Lose.is)
    (as-world c.args.group.now.traders.items c.args.group.now.home c.args.visits.now.calls.items
    c.lose.new.visits.calls.items c.args.clock.now c.args.visits.now.words c.lose.new.visits.words _ c.lose.result
    c.lose.ensures.words
    (c.lose.ensures.takes w (record { traders_are = refl; home_is = refl })
    (record { calls_are = refl; words_are = refl; drawn_is = refl })))
