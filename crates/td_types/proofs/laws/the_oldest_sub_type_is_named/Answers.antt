use Rattle.td_types.proofs.Rising.{oldest-sub_type}
use Rattle.td_types.proofs.laws.the_oldest_sub_type_is_named.Goals as goal

pub returns : goal.returns
returns c = oldest-sub_type
