use Rattle.std.proofs.Common.{refl}
use Rattle.td_types.specs.Interfaces.{interface_conforms, leads_within}
use Rattle.td_types.specs.Properties.{full_properties}
use Rattle.td_ior.specs.Number.{number_below}
use Rattle.td_changes.specs.Applying.{comes_to}
use Rattle.td_types.specs.Calls.{mask_type as mask}
use Rattle.td_changes.proofs.Shapes.{shape-boolean, graph-boolean}
use Rattle.td_changes.proofs.laws.worked_examples.Goals as goal

pub returns-clause-masked : goal.returns-clause-masked
unfolding comes_to mask full_properties interface_conforms leads_within
returns-clause-masked c = refl

pub returns-clause-next : goal.returns-clause-next
unfolding comes_to full_properties interface_conforms leads_within
returns-clause-next c = refl

pub returns-clause-withdrawn : goal.returns-clause-withdrawn
unfolding comes_to number_below
returns-clause-withdrawn c = refl

pub returns-clause-illegal : goal.returns-clause-illegal
unfolding comes_to number_below
returns-clause-illegal c = refl

pub returns-clause-stem : goal.returns-clause-stem
unfolding comes_to
returns-clause-stem c = refl

pub returns-clause-readonly : goal.returns-clause-readonly
unfolding comes_to full_properties number_below
returns-clause-readonly c = rw shape-boolean (rw graph-boolean refl)

pub returns-clause-unchanged : goal.returns-clause-unchanged
unfolding comes_to full_properties number_below
returns-clause-unchanged c = rw shape-boolean (rw graph-boolean refl)
