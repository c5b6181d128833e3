use Rattle.std.proofs.Common.{◌≡◌, drop}
use Rattle.td_policy.specs.Values.{items_of, text_of}
use Rattle.td_policy.proofs.Items.{onto}
use Rattle.td_policy.proofs.values.copy_texts.Given as goal

abbrev pub invariant-loop-value : goal.invariant-loop-value
invariant-loop-value l = onto l.items (items_of text_of (drop l.value-index l.values)) ≡ items_of text_of l.values
