use Rattle.td_ops.specs.declared.call.Change.TheVariants.{MaskType}
use Rattle.td_ops.specs.declared.outcome.Reply.TheVariants.{Nothing}
use Rattle.td_types.specs.Calls.{mask_type}
use Rattle.td_admin.proofs.ChangeAnswers.{masking-content, takes_freely, masks}
use Rattle.td_admin.proofs.Masking.{mask_not_sub_types, mask_not_not_masked}
use Rattle.td_admin.proofs.repository.mask_type.Goals as goal

pub unreachable-requires : goal.unreachable-requires
unreachable-requires c =
    mask_not_sub_types c.args.store.now.types c.args.name c.in-HasSubTypes.field-0.now c.in-HasSubTypes.ensures

pub unreachable-requires-in-NotMasked : goal.unreachable-requires-in-NotMasked
unreachable-requires-in-NotMasked c =
    mask_not_not_masked c.args.store.now.types c.args.name c.in-NotMasked.ensures

pub change_reply-requires : goal.change_reply-requires
change_reply-requires c =
    masks c.args.store.now.types c.mask-answer.new.self c.args.name c.mask-answer.result c.mask-answer.ensures.answer

pub returns-in_ok-reply-in-Accepted-clause-accepts : goal.returns-in_ok-reply-in-Accepted-clause-accepts
returns-in_ok-reply-in-Accepted-clause-accepts c =
    let s = c.args.store.now in
    let name = c.args.name in
    takes_freely (MaskType name) c.args.full s (mask_type s.types name) Nothing c.mask-answer.new.self
    c.in_ok-reply-in-Accepted.reply c.entry_of.result c.mask-answer.result (masking-content s.types name)
    c.mask-answer.ensures.answer c.in_ok-reply-in-Accepted.ensures c.if-full.false c.entry_of.ensures
