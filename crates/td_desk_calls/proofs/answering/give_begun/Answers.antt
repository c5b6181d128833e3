use Rattle.std.proofs.Common.{List, ℕ, Bool, Result, refl, subst}
use Rattle.td_cdr.specs.declared.order.Order.{Order}
use Rattle.td_cell.specs.Passes.{knowledge}
use Rattle.td_desk.specs.Sharing.{ActsInTurn}
use Rattle.td_desk.specs.declared.act.Act.TheVariants as act
use Rattle.td_desk.specs.declared.act.Reply.TheVariants as content
use Rattle.td_desk.specs.declared.event.Event.TheVariants as event
use Rattle.td_desk.specs.declared.fault.DeskFault.{DeskFault}
use Rattle.td_desk_calls.proofs.Calling.{Fails, batch_answers, has_header, has_place_by, has_place_then, next_fails}
use Rattle.td_desk_calls.proofs.Calling.{serves_fault}
use Rattle.td_desk_calls.specs.Serving.{AnswersDeskCall, ServesIterator}
use Rattle.td_desk_calls.specs.declared.judging.IteratorRequest.TheVariants.{NextN}
use Rattle.td_desk_calls.proofs.answering.give_begun.Goals as goal

pub finish-requires : goal.finish-requires
finish-requires g c =
    has_header c.args.call.now.to c.args.begun.writer c.next_n-back.result.0 c.args.n c.requires.begun c.args.trader
    c.args.call.now.number (knowledge c.args.pass.now) (knowledge c.next_n-back.new.pass) c.args.begun refl _
    (subst (λ (r : Result Bool DeskFault). ActsInTurn (knowledge c.args.pass.now) (act.Next c.args.trader
    c.args.call.now.number c.args.n c.args.begun) (content.Next c.next_n-back.result.0 r) (knowledge c.next_n-back.new.pass))
    c.in-Ok.is c.next_n-back.ensures.turned)

pub last_place-requires : goal.last_place-requires
last_place-requires g c =
    has_place_then c.args.call.now.to c.args.begun.writer c.next_n-back.result.0 c.args.n c.requires.begun c.args.trader
    c.args.call.now.number (knowledge c.args.pass.now) (knowledge c.next_n-back.new.pass) c.args.begun refl _
    (subst (λ (r : Result Bool DeskFault). ActsInTurn (knowledge c.args.pass.now) (act.Next c.args.trader
    c.args.call.now.number c.args.n c.args.begun) (content.Next c.next_n-back.result.0 r) (knowledge c.next_n-back.new.pass))
    c.in-Ok.is c.next_n-back.ensures.turned)

pub answer_fault-requires-clause-absent : goal.answer_fault-requires-clause-absent
answer_fault-requires-clause-absent g c =
    has_place_by c.args.trader c.args.call.now.number (knowledge c.args.pass.now) (knowledge c.next_n-back.new.pass)
    (event.Next c.args.trader c.args.call.now.number c.args.n c.args.begun.writer.order) c.in-Err.fault
    (next_fails c.args.trader c.args.call.now.number (knowledge c.args.pass.now) (knowledge c.next_n-back.new.pass)
    c.args.n c.args.begun c.next_n-back.result.0 c.in-Err.fault
    (subst (λ (r : Result Bool DeskFault). ActsInTurn (knowledge c.args.pass.now) (act.Next c.args.trader
    c.args.call.now.number c.args.n c.args.begun) (content.Next c.next_n-back.result.0 r) (knowledge c.next_n-back.new.pass))
    c.in-Err.is c.next_n-back.ensures.turned))

pub returns-in-Ok-clause-serves : goal.returns-in-Ok-clause-serves
returns-in-Ok-clause-serves g c =
    subst (λ (x : List ℕ). AnswersDeskCall c.args.call.now.to x c.args.call.now.number (knowledge c.args.pass.now)
    (NextN c.args.n) c.finish.new.self c.last_place.result (knowledge c.next_n-back.new.pass)) c.requires.trader
    (batch_answers c.args.call.now.to c.args.begun.writer c.next_n-back.result.0 c.args.n c.requires.begun c.args.trader
    c.args.call.now.number (knowledge c.args.pass.now) (knowledge c.next_n-back.new.pass) c.args.begun refl _
    (subst (λ (r : Result Bool DeskFault). ActsInTurn (knowledge c.args.pass.now) (act.Next c.args.trader
    c.args.call.now.number c.args.n c.args.begun) (content.Next c.next_n-back.result.0 r) (knowledge c.next_n-back.new.pass))
    c.in-Ok.is c.next_n-back.ensures.turned) c.finish.new.self c.last_place.result c.finish.ensures
    c.last_place.ensures)

pub returns-in-Err-clause-serves : goal.returns-in-Err-clause-serves
returns-in-Err-clause-serves g c =
    subst (λ (x : List ℕ). ServesIterator c.args.call.now.to x c.args.call.now.number (knowledge c.args.pass.now)
    (NextN c.args.n) c.answer_fault.new.replies c.answer_fault.result (knowledge c.next_n-back.new.pass))
    c.requires.trader
    (serves_fault c.args.trader c.args.call.now.number (knowledge c.args.pass.now)
    (knowledge c.next_n-back.new.pass) c.args.call.now.to c.answer_fault.new.replies (NextN c.args.n) c.in-Err.fault
    c.answer_fault.result
    (subst (λ (o : Order). Fails c.args.trader c.args.call.now.number (knowledge c.args.pass.now) (event.Next
    c.args.trader c.args.call.now.number c.args.n o) (knowledge c.next_n-back.new.pass) c.in-Err.fault)
    c.requires.begun.is_in
    (next_fails c.args.trader c.args.call.now.number (knowledge c.args.pass.now) (knowledge c.next_n-back.new.pass)
    c.args.n c.args.begun c.next_n-back.result.0 c.in-Err.fault
    (subst (λ (r : Result Bool DeskFault). ActsInTurn (knowledge c.args.pass.now) (act.Next c.args.trader
    c.args.call.now.number c.args.n c.args.begun) (content.Next c.next_n-back.result.0 r) (knowledge c.next_n-back.new.pass))
    c.in-Err.is c.next_n-back.ensures.turned))) c.answer_fault.ensures)
