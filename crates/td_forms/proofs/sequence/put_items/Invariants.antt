use Rattle.std.proofs.Common.{◌≡◌, length}
use Rattle.std.specs.List.{slice_split}
use Rattle.td_forms.specs.Pieces.{join_values}
use Rattle.td_forms.specs.Values.{all_values, is_comma}
use Rattle.td_forms.proofs.sequence.put_items.Given as goal

abbrev pub decreases-parts : goal.decreases-parts
decreases-parts l = length l.rest

-- what is left makes of the values so far what the whole text makes of the first ones
abbrev pub invariant-parts : goal.invariant-parts
invariant-parts l =
    join_values l.items (all_values l.item (slice_split is_comma l.rest))
    ≡ join_values l.initial.items (all_values l.item (slice_split is_comma l.text))
