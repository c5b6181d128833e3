use Rattle.std.proofs.Common.{◌≡◌, drop}
use Rattle.td_policy.specs.Values.{items_of, octet_of}
use Rattle.td_policy.proofs.Items.{onto}
use Rattle.td_policy.proofs.values.copy_octets.Given as goal

abbrev pub invariant-loop-value : goal.invariant-loop-value
invariant-loop-value l = onto l.items (items_of octet_of (drop l.value-index l.values)) ≡ items_of octet_of l.values
