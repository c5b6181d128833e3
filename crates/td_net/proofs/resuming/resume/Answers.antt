use Rattle.std.proofs.Common.{◌∙◌, ◌++◌, ◌∷◌, [], ap, slice_set, subst, sym}
use Rattle.td_net.proofs.Becoming.{err-any, err_then, keeps-others, ok_then, open-waiting, taken}
use Rattle.td_net.proofs.Taking.{there}
use Rattle.td_net.proofs.resuming.resume.Goals as goal
use Rattle.td_net.specs.Worlds.{KeepsEnded}

pub returns-in_err-take-clause-kept : goal.returns-in_err-take-clause-kept
returns-in_err-take-clause-kept c =
    let calls = c.args.visits.now.calls.items in
    let x = c.index_mut.result.now in
    let is = there calls c.args.call x c.requires.call c.index_mut.ensures.value in
    err-any c.from_residual.result
    (keeps-others calls c.args.call x c.take_visit-frame.new.self is (open-waiting x.stage (c.requires.waits x is)))

pub returns-in_err-push-clause-kept : goal.returns-in_err-push-clause-kept
returns-in_err-push-clause-kept c =
    let calls = c.args.visits.now.calls.items in
    let x = c.index_mut.result.now in
    let is = there calls c.args.call x c.requires.call c.index_mut.ensures.value in
    err-any c.from_residual-in_err-push.result
    (keeps-others calls c.args.call x c.take_visit-frame.new.self is (open-waiting x.stage (c.requires.waits x is)))

pub returns-clause-becomes : goal.returns-clause-becomes
returns-clause-becomes c =
    ok_then c.go_on.result c.go_on.ensures.becomes
    (taken c.args.group.now.traders.items c.args.group.now.home c.args.visits.now.calls.items
    c.args.visits.now.words c.args.call c.index_mut.result.now c.take_visit-frame.new.self
    c.take_visit-frame.result.0 c.take.new.self c.args.step c.args.answer c.push.new.self
    c.go_on.new.visits.calls.items c.go_on.new.visits.words.drawn c.index_mut.ensures.value
    c.take_visit-frame.ensures.taken c.take_visit-frame.ensures.rest c.in_ok-take.ensures.ok
    (c.in_ok-push.ensures.ok ∙ ap (λ z. z ++ c.args.step ∷ []) c.take_visit-frame.ensures.steps))

pub returns-clause-kept : goal.returns-clause-kept
returns-clause-kept c =
    let calls = c.args.visits.now.calls.items in
    let x = c.index_mut.result.now in
    let is = there calls c.args.call x c.requires.call c.index_mut.ensures.value in
    err_then c.go_on.result c.go_on.ensures.kept
    (λ same. subst (λ z. KeepsEnded calls z) (sym same)
    (keeps-others calls c.args.call x c.take_visit-frame.new.self is (open-waiting x.stage (c.requires.waits x is))))
