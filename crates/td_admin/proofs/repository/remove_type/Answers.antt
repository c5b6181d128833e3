use Rattle.td_ops.specs.declared.call.Change.TheVariants.{RemoveType}
use Rattle.td_ops.specs.declared.outcome.Reply.TheVariants.{Nothing}
use Rattle.td_types.specs.Calls.{remove_type}
use Rattle.td_admin.proofs.ChangeAnswers.{removing-content, takes_freely, removes}
use Rattle.td_admin.proofs.repository.remove_type.Goals as goal

pub change_reply-requires : goal.change_reply-requires
change_reply-requires c =
    removes c.args.store.now.types c.remove-answer.new.self c.args.name
    c.remove-answer.result c.remove-answer.ensures.answer

pub returns-in_ok-reply-in-Accepted : goal.returns-in_ok-reply-in-Accepted
returns-in_ok-reply-in-Accepted c =
    let s = c.args.store.now in
    let name = c.args.name in
    takes_freely (RemoveType name) c.args.full s (remove_type s.types name) Nothing c.remove-answer.new.self
    c.in_ok-reply-in-Accepted.reply c.entry_of.result c.remove-answer.result (removing-content s.types name)
    c.remove-answer.ensures.answer c.in_ok-reply-in-Accepted.ensures c.if-full.false c.entry_of.ensures
