use Rattle.std.proofs.Common.{◌≡◌, ◌+◌, ◌-◌, ◌*◌}
use Rattle.td_cdr.specs.Format.{array_format}
use Rattle.td_cdr.proofs.SequenceReading.{with_front}
use Rattle.td_typecode.specs.declared.mode.Mode.TheVariants.{Inner}
use Rattle.td_typecode.specs.Labels.{labels}
use Rattle.td_typecode.specs.Codes.{codes, member, arm_of}
use Rattle.td_typecode.proofs.reading.+reading.Given as goal

abbrev pub decreases-code_at : goal.decreases-code_at
decreases-code_at l = 9 * l.levels + 0

abbrev pub decreases-member_of : goal.decreases-member_of
decreases-member_of l = 9 * l.levels + 1

abbrev pub decreases-boxed_at : goal.decreases-boxed_at
decreases-boxed_at l = 9 * l.levels + 1

abbrev pub decreases-arm_at : goal.decreases-arm_at
decreases-arm_at l = 9 * l.levels + 2

abbrev pub decreases-members_of : goal.decreases-members_of
decreases-members_of l = 9 * l.levels + 2

abbrev pub decreases-members_at : goal.decreases-members_at
decreases-members_at l = 9 * l.levels + 3

abbrev pub decreases-fields_of : goal.decreases-fields_of
decreases-fields_of l = 9 * l.levels + 4

abbrev pub decreases-arms_of : goal.decreases-arms_of
decreases-arms_of l = 9 * l.levels + 3

abbrev pub decreases-choices_of : goal.decreases-choices_of
decreases-choices_of l = 9 * l.levels + 4

abbrev pub decreases-front_of : goal.decreases-front_of
decreases-front_of l = 9 * l.levels + 2

abbrev pub decreases-union_of : goal.decreases-union_of
decreases-union_of l = 9 * l.levels + 6

abbrev pub decreases-struct_of : goal.decreases-struct_of
decreases-struct_of l = 9 * l.levels + 5

abbrev pub decreases-except_of : goal.decreases-except_of
decreases-except_of l = 9 * l.levels + 5

abbrev pub decreases-sequence_of : goal.decreases-sequence_of
decreases-sequence_of l = 9 * l.levels + 5

abbrev pub decreases-array_of : goal.decreases-array_of
decreases-array_of l = 9 * l.levels + 5

abbrev pub decreases-alias_of : goal.decreases-alias_of
decreases-alias_of l = 9 * l.levels + 5

abbrev pub decreases-enclosed_of : goal.decreases-enclosed_of
decreases-enclosed_of l = 9 * l.levels + 7

abbrev pub decreases-parameters_of : goal.decreases-parameters_of
decreases-parameters_of l = 9 * l.levels + 8

abbrev pub invariant-members_of-loop : goal.invariant-members_of-loop
invariant-members_of-loop l =
    let g = (member (codes l.levels Inner)).format in
    with_front l.members ((array_format g (l.count - l.counter)).reads l.r) ≡ (array_format g l.count).reads l.initial.r

abbrev pub invariant-arms_of-loop : goal.invariant-arms_of-loop
invariant-arms_of-loop l =
    let g = (arm_of (labels l.levels l.switch) (codes l.levels Inner)).format in
    with_front l.arms ((array_format g (l.count - l.counter)).reads l.r) ≡ (array_format g l.count).reads l.initial.r
