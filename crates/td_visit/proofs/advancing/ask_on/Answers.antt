use Rattle.td_visit.proofs.Progressed.{place_of, asked_stands, asked_comes}
use Rattle.td_visit.proofs.advancing.ask_on.Goals as goal

pub ask-requires : goal.ask-requires
ask-requires c =
    place_of c.args.local.now c.args.answers.now c.split_at.result.1.now c.args.progress.now c.as_slice.result.now
    c.requires.stands c.requires.completed c.as_slice.ensures c.split_at.ensures.back

pub returns-clause-stands : goal.returns-clause-stands
returns-clause-stands c =
    asked_stands c.args.local.now c.args.answers.now c.split_at.result.1.now c.args.progress.now
    c.as_slice.result.now c.ask.new.others c.ask.result c.requires.stands c.requires.completed c.as_slice.ensures
    c.split_at.ensures.back c.ask.ensures.place

pub returns-clause-comes : goal.returns-clause-comes
returns-clause-comes c =
    asked_comes c.args.local.now c.args.answers.now c.split_at.result.1.now c.args.progress.now
    c.as_slice.result.now c.ask.new.others c.ask.result c.requires.stands c.requires.completed c.as_slice.ensures
    c.split_at.ensures.back c.ask.ensures.place c.ask.ensures.asks
