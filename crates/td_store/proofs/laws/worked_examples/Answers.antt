use Rattle.std.proofs.Common.{refl}
use Rattle.td_types.specs.Conforming.{ancestors}
use Rattle.td_types.specs.Properties.{full_properties}
use Rattle.td_store.proofs.Shapes.{shape-ulong, dynamic-shape}
use Rattle.td_store.proofs.laws.worked_examples.Goals as goal

pub returns-clause-nothing_stated : goal.returns-clause-nothing_stated
unfolding ancestors full_properties
returns-clause-nothing_stated c = refl

pub returns-clause-sub_type : goal.returns-clause-sub_type
unfolding ancestors full_properties
returns-clause-sub_type c = refl

pub returns-clause-unrelated : goal.returns-clause-unrelated
unfolding ancestors full_properties
returns-clause-unrelated c = refl

pub returns-clause-unknown : goal.returns-clause-unknown
unfolding ancestors full_properties
returns-clause-unknown c = refl

pub returns-clause-exact : goal.returns-clause-exact
unfolding ancestors full_properties
returns-clause-exact c = refl

pub returns-clause-not_exact : goal.returns-clause-not_exact
unfolding ancestors full_properties
returns-clause-not_exact c = refl

pub returns-clause-proxies : goal.returns-clause-proxies
unfolding ancestors full_properties
returns-clause-proxies c = refl

pub returns-clause-no_proxies : goal.returns-clause-no_proxies
unfolding ancestors full_properties
returns-clause-no_proxies c = refl

pub returns-clause-proxies_unsupported : goal.returns-clause-proxies_unsupported
unfolding ancestors full_properties
returns-clause-proxies_unsupported c = refl

pub returns-clause-dynamic : goal.returns-clause-dynamic
unfolding ancestors full_properties
returns-clause-dynamic c = refl

pub returns-clause-modifiable : goal.returns-clause-modifiable
unfolding ancestors full_properties
returns-clause-modifiable c = refl

pub returns-clause-no_modifiable : goal.returns-clause-no_modifiable
unfolding ancestors full_properties
returns-clause-no_modifiable c = refl

pub returns-clause-modifiable_unsupported : goal.returns-clause-modifiable_unsupported
unfolding ancestors full_properties
returns-clause-modifiable_unsupported c = refl

pub returns-clause-cut : goal.returns-clause-cut
unfolding ancestors full_properties
returns-clause-cut c = refl

pub returns-clause-cut_when_found : goal.returns-clause-cut_when_found
unfolding ancestors full_properties
returns-clause-cut_when_found c = refl

pub returns-clause-none : goal.returns-clause-none
unfolding ancestors full_properties
returns-clause-none c = refl

pub returns-clause-masked : goal.returns-clause-masked
unfolding ancestors full_properties
returns-clause-masked c = refl

pub returns-clause-renewed : goal.returns-clause-renewed
unfolding ancestors full_properties
returns-clause-renewed c = refl

pub returns-clause-renewed_exact : goal.returns-clause-renewed_exact
unfolding ancestors full_properties
returns-clause-renewed_exact c = refl

pub returns-clause-renewed_above : goal.returns-clause-renewed_above
unfolding ancestors full_properties
returns-clause-renewed_above c = refl

pub returns-clause-no_dynamic : goal.returns-clause-no_dynamic
unfolding ancestors full_properties
returns-clause-no_dynamic c = rw (shape-ulong, dynamic-shape) refl

pub returns-clause-dynamic_unsupported : goal.returns-clause-dynamic_unsupported
unfolding ancestors full_properties
returns-clause-dynamic_unsupported c = rw (shape-ulong, dynamic-shape) refl
