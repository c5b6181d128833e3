use Rattle.td_name_session.proofs.Judgements.{call_judges, call_unread, none_judges}
use Rattle.td_name_session.proofs.judging.judge.Goals as goal

pub returns-in-Some-clause-judged : goal.returns-in-Some-clause-judged
returns-in-Some-clause-judged g c =
    call_judges g.N.Names.others _ _ _ c.in-Some.key _ _ _ c.judge_body.result c.in-Some.ensures.finds
    c.judge_body.ensures

pub returns-in-Some-clause-unread : goal.returns-in-Some-clause-unread
returns-in-Some-clause-unread g c =
    call_unread g.N.Names.others _ _ _ c.in-Some.key _ _ _ c.judge_body.result c.in-Some.ensures.finds

pub returns-in-None-clause-judged : goal.returns-in-None-clause-judged
returns-in-None-clause-judged g c =
    none_judges g.N.Names.others _ _ _ _ _ _ c.refusal_outcome.result c.refusal_outcome.ensures c.in-None.ensures.finds
