use Rattle.td_sameness.proofs.EveryDepth.{every-depth, from-depths}
use Rattle.td_sameness.proofs.laws.every_depth.Goals as goal

pub returns : goal.returns
returns c = λ s g p. (λ yes d. every-depth d s g p yes, λ all. from-depths s g p all)
