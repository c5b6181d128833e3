use Rattle.td_typecode.specs.ExtendedCodes.{codes-extended}
use Rattle.td_typecode.proofs.laws.codes_are_extended.Goals as goal

pub returns : goal.returns
returns c = codes-extended
