use Rattle.td_visit.proofs.Progressed.{search_stood, search_done}
use Rattle.td_visit.proofs.advancing.search_on.Goals as goal

pub returns-in-Some-clause-stands : goal.returns-in-Some-clause-stands
returns-in-Some-clause-stands c =
    search_stood c.args.local.now c.args.answers.now c.split_at.result.1.now c.search.new.left.answers.now
    c.args.progress.now c.search.new.scan c.in_ok-question.field-0 c.in-Some.question c.requires c.if-progress.false
    c.split_at.ensures.back c.in-Some.is c.in_ok-question.ensures.content c.in_ok-question.ensures.stopped

pub returns-in-None-clause-stands : goal.returns-in-None-clause-stands
returns-in-None-clause-stands c =
    search_done c.args.local.now c.args.answers.now c.split_at.result.1.now c.search.new.left.answers.now
    c.args.progress.now c.end_search.new.progress c.search.new.scan c.in_ok-question.field-0 c.requires
    c.if-progress.false c.split_at.ensures.back c.in-None.is c.in_ok-question.ensures.content
    c.in_ok-question.ensures.stopped c.end_search.ensures
