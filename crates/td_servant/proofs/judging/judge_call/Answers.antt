use Rattle.std.proofs.Common.{◌≤◌, rules}
use Rattle.td_servant.proofs.Classes.{err-class, err-of-class, read-class}
use Rattle.td_servant.proofs.judging.judge_call.Goals as goal

pub returns-in-Err-clause-judged : goal.returns-in-Err-clause-judged
returns-in-Err-clause-judged c =
    let content = c.in-Err.ensures in
    c.refuse.ensures.judged c.args.object _ c.args.body.now (rw c.copied-reader.ensures.same at content.gives)

pub returns-in-Err-clause-servable : goal.returns-in-Err-clause-servable
returns-in-Err-clause-servable c = λ w n. c.refuse.ensures.servable w

pub returns-in-Err-clause-class : goal.returns-in-Err-clause-class
returns-in-Err-clause-class c =
    err-class c.refuse.result c.class_named.result _ c.refuse.ensures.class c.class_named.ensures

pub returns-in-Err-clause-unread : goal.returns-in-Err-clause-unread
returns-in-Err-clause-unread c =
    let within : c.args.body.now.origin ≤ c.args.body.now.place = search rules in
    err-of-class c.refuse.result c.class_named.result _ _ c.refuse.ensures.class c.class_named.ensures
    (read-class c.args.object c.args.operation.now c.args.body.now within)
