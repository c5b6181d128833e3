use Rattle.std.proofs.Common.{◌≡◌, ℕ, ◌+◌, IfOk, subst}
use Rattle.td_visit.proofs.Progressed.{drawn}
use Rattle.td_visit.proofs.ending.finish.Goals as goal
use Rattle.td_walk.specs.Answers.{drawn_by}
use Rattle.td_walk.specs.declared.gathering.Gathered.{Gathered}

pub returns-clause-drawn : goal.returns-clause-drawn
returns-clause-drawn g c =
    drawn c.args.local.now c.args.answers c.args.progress (g.W.Words.word c.args.words.now)
    (g.W.Words.word c.answer_of.new.words) c.answer_of.result c.requires
    (subst (λ (v : Gathered). IfOk c.answer_of.result
    (λ a. (k : ℕ) → g.W.Words.word c.answer_of.new.words k
    ≡ g.W.Words.word c.args.words.now (k + drawn_by c.args.local.now v)))
    c.in_ok-gathered.ensures c.answer_of.ensures.drawn)
