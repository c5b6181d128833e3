use Rattle.td_types.specs.Calls.{is_listed}
use Rattle.td_types.proofs.Rising.{incarnations-rise}
use Rattle.td_types.proofs.laws.listing_rises.Goals as goal

pub returns : goal.returns
returns c = λ r since valid. incarnations-rise r (is_listed since) valid
