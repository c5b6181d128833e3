use Rattle.td_visit.proofs.Progressed.{complete_stood, complete_done}
use Rattle.td_visit.proofs.advancing.complete_on.Goals as goal

pub returns-in-Some-clause-stands : goal.returns-in-Some-clause-stands
returns-in-Some-clause-stands c =
    complete_stood c.args.local.now c.args.answers.now c.split_at.result.1.now c.complete_all.new.left.answers.now
    c.args.progress.now c.complete_all.new.completion c.in_ok-question.field-0 c.in-Some.question c.requires.stands
    c.requires.searched c.if-progress.false c.split_at.ensures.back c.in-Some.is
    (rw c.deref.ensures at c.in_ok-question.ensures.content) (rw c.deref.ensures at c.in_ok-question.ensures.stopped)

pub returns-in-None-clause-stands : goal.returns-in-None-clause-stands
returns-in-None-clause-stands c =
    complete_done c.args.local.now c.args.answers.now c.split_at.result.1.now c.complete_all.new.left.answers.now
    c.args.progress.now c.end_completion.new.progress c.complete_all.new.completion c.in_ok-question.field-0
    c.requires.stands c.requires.searched c.split_at.ensures.back c.in-None.is
    (rw c.deref.ensures at c.in_ok-question.ensures.content) (rw c.deref.ensures at c.in_ok-question.ensures.stopped)
    c.end_completion.ensures
