use Rattle.td_ops.specs.declared.call.Change.TheVariants.{UnmaskType}
use Rattle.td_ops.specs.declared.outcome.Reply.TheVariants.{Nothing}
use Rattle.td_types.specs.Calls.{unmask_type}
use Rattle.td_admin.proofs.ChangeAnswers.{unmasking-content, takes_freely, unmasks}
use Rattle.td_admin.proofs.Masking.{unmask_not_sub_types, unmask_not_already_masked}
use Rattle.td_admin.proofs.repository.unmask_type.Goals as goal

pub unreachable-requires : goal.unreachable-requires
unreachable-requires c =
    unmask_not_sub_types c.args.store.now.types c.args.name c.in-HasSubTypes.field-0.now c.in-HasSubTypes.ensures

pub unreachable-requires-in-AlreadyMasked : goal.unreachable-requires-in-AlreadyMasked
unreachable-requires-in-AlreadyMasked c =
    unmask_not_already_masked c.args.store.now.types c.args.name c.in-AlreadyMasked.ensures

pub change_reply-requires : goal.change_reply-requires
change_reply-requires c =
    unmasks c.args.store.now.types c.unmask-answer.new.self c.args.name
    c.unmask-answer.result c.unmask-answer.ensures.answer

pub returns-in_ok-reply-in-Accepted-clause-accepts : goal.returns-in_ok-reply-in-Accepted-clause-accepts
returns-in_ok-reply-in-Accepted-clause-accepts c =
    let s = c.args.store.now in
    let name = c.args.name in
    takes_freely (UnmaskType name) c.args.full s (unmask_type s.types name) Nothing c.unmask-answer.new.self
    c.in_ok-reply-in-Accepted.reply c.entry_of.result c.unmask-answer.result (unmasking-content s.types name)
    c.unmask-answer.ensures.answer c.in_ok-reply-in-Accepted.ensures c.if-full.false c.entry_of.ensures
