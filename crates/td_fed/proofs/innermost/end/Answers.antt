use Rattle.td_fed.proofs.Moving.{draws-same, has-drawn}
use Rattle.td_fed.proofs.innermost.end.Goals as goal

pub returns-in_err-answer-clause-draws : goal.returns-in_err-answer-clause-draws
returns-in_err-answer-clause-draws g c =
    draws-same (g.W.Words.word c.args.words.now) (g.W.Words.word c.finish.new.words) c.in_err-answer.ensures.kept

pub returns-clause-draws : goal.returns-clause-draws
returns-clause-draws g c =
    has-drawn c.args.visit.local c.args.visit.answers (g.W.Words.word c.args.words.now)
    (g.W.Words.word c.finish.new.words) c.in_ok-answer.ensures.drawn
