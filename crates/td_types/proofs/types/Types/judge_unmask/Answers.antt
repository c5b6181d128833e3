use Rattle.std.proofs.Common.{true, false, None, Some, ap, ◌∙◌}
use Rattle.td_types.proofs.Judging.{word_from, mask_from, unmask_illegal, unmask_unknown, unmask_accepted, not_masked}
use Rattle.td_types.proofs.types.Types.judge_unmask.Goals as goal

pub returns-then-not-is_word_name : goal.returns-then-not-is_word_name
returns-then-not-is_word_name c =
    unmask_illegal c.args.self.now c.args.name.now
    (word_from c.as_slice.result.now c.args.name.now c.is_word_name.result false c.as_slice.ensures
    c.is_word_name.ensures c.if-not-is_word_name.true)

pub returns-in-None : goal.returns-in-None
returns-in-None c =
    unmask_unknown c.args.self.now c.args.name.now
    (word_from c.as_slice.result.now c.args.name.now c.is_word_name.result true c.as_slice.ensures
    c.is_word_name.ensures c.if-not-is_word_name.false)
    (mask_from c.args.self.now c.as_slice-2.result.now c.args.name.now c.is_masked.result None c.as_slice-2.ensures
    c.is_masked.ensures c.in-None.is)

pub returns-in-Some-true : goal.returns-in-Some-true
returns-in-Some-true c =
    unmask_accepted c.args.self.now c.args.name.now
    (word_from c.as_slice.result.now c.args.name.now c.is_word_name.result true c.as_slice.ensures
    c.is_word_name.ensures c.if-not-is_word_name.false)
    (mask_from c.args.self.now c.as_slice-2.result.now c.args.name.now c.is_masked.result (Some true)
    c.as_slice-2.ensures c.is_masked.ensures (c.in-Some-true.is ∙ ap (λ b. Some b) c.in-Some-true.field-0-test))

pub returns-in-Some-false : goal.returns-in-Some-false
returns-in-Some-false c =
    not_masked c.args.self.now c.args.name.now
    (word_from c.as_slice.result.now c.args.name.now c.is_word_name.result true c.as_slice.ensures
    c.is_word_name.ensures c.if-not-is_word_name.false)
    (mask_from c.args.self.now c.as_slice-2.result.now c.args.name.now c.is_masked.result (Some false)
    c.as_slice-2.ensures c.is_masked.ensures (c.in-Some-false.is ∙ ap (λ b. Some b) c.in-Some-false.field-0-test))
