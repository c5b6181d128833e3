use Rattle.std.proofs.Common.{ℕ, List, subst}
use Rattle.td_ops.specs.declared.call.Change.TheVariants.{AddType}
use Rattle.td_types.specs.Calls.{AnswersRepositoryCall, add_type}
use Rattle.td_value.specs.declared.structures.PropStruct.{PropStruct}
use Rattle.td_admin.specs.Repositories.{added_reply}
use Rattle.td_admin.proofs.ChangeAnswers.{adding-content, adds, takes}
use Rattle.td_admin.proofs.repository.add_type.Goals as goal

pub change_reply-requires : goal.change_reply-requires
change_reply-requires c =
    adds c.args.store.now.types c.add-answer.new.self _ _ _ _ c.add-answer.result c.add-answer.ensures.answer

pub returns : goal.returns
returns c =
    let s = c.args.store.now in
    let name = c.args.name in
    let if_name = c.args.if_name in
    let props = c.args.props in
    let supers = c.args.super_types in
    let new = c.add-answer.new.self in
    let answer = subst (λ (x : List ℕ × (List ℕ × (List PropStruct × List (List ℕ)))).
    AnswersRepositoryCall (add_type s.types x.0 x.1.0 x.1.1.0 x.1.1.1) s.types new c.add-answer.result)
    c.in_ok-name_twin.ensures c.add-answer.ensures.answer in
    takes (AddType name if_name props supers) c.args.full s (add_type s.types name if_name props supers)
    (added_reply s) new c.in_ok-reply.reply c.entry_of.result c.add-answer.result
    (adding-content s.types name if_name props supers) answer c.in_ok-reply.ensures c.if-full.false c.entry_of.ensures
