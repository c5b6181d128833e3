use Rattle.td_types.proofs.Outcomes.{masking, unmasking}
use Rattle.td_types.proofs.laws.masks_change_nothing_else.Goals as goal

pub returns-clause-mask : goal.returns-clause-mask
returns-clause-mask c = λ r after name content valid h. masking r name content after valid h

pub returns-clause-unmask : goal.returns-clause-unmask
returns-clause-unmask c = λ r after name content valid h. unmasking r name content after valid h
