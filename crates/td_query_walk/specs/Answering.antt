-- What a visit answers where another trader gave nothing, and that it has one answer.
use Rattle.std.specs.Prelude.{[]}
use Rattle.td_walk.specs.declared.answer.SubAnswer.{SubAnswer}

-- no offers and no limits
abbrev pub nothing_given : SubAnswer
nothing_given = record { offers = []; limits = [] }
