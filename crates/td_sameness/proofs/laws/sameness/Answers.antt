use Rattle.td_sameness.proofs.Symmetry.{same-refl, same-symm}
use Rattle.td_sameness.proofs.laws.sameness.Goals as goal

pub returns-clause-reflexive : goal.returns-clause-reflexive
returns-clause-reflexive c = same-refl

pub returns-clause-symmetric : goal.returns-clause-symmetric
returns-clause-symmetric c = same-symm
