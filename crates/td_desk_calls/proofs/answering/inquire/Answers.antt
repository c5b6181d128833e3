use Rattle.std.proofs.Common.{List, ℕ, subst}
use Rattle.td_cell.specs.Passes.{knowledge}
use Rattle.td_desk.specs.declared.event.Event.TheVariants.{Left}
use Rattle.td_desk_calls.proofs.Calling.{has_place_by, inquiry_answers, left_fails, left_has_place, serves_fault}
use Rattle.td_desk_calls.specs.Serving.{AnswersDeskCall, ServesIterator}
use Rattle.td_desk_calls.specs.declared.judging.IteratorRequest.TheVariants.{Inquire}
use Rattle.td_desk_calls.proofs.answering.inquire.Goals as goal

pub last_place-requires : goal.last_place-requires
last_place-requires g c =
    left_has_place c.args.trader c.args.call.now.number (knowledge c.args.pass.now) (knowledge c.max_left.new.pass)
    c.in-Ok.found c.in-Ok.ensures.turned

pub answer_fault-requires-clause-absent : goal.answer_fault-requires-clause-absent
answer_fault-requires-clause-absent g c =
    has_place_by c.args.trader c.args.call.now.number (knowledge c.args.pass.now) (knowledge c.max_left.new.pass)
    (Left c.args.trader c.args.call.now.number) c.in-Err.fault
    (left_fails c.args.trader c.args.call.now.number (knowledge c.args.pass.now) (knowledge c.max_left.new.pass)
    c.in-Err.fault c.in-Err.ensures.turned)

pub returns-in-Ok-clause-serves : goal.returns-in-Ok-clause-serves
returns-in-Ok-clause-serves g c =
    subst (λ (x : List ℕ). AnswersDeskCall c.args.call.now.to x c.args.call.now.number (knowledge c.args.pass.now)
    (Inquire c.args.inquiry) c.answer.new.self c.last_place.result (knowledge c.max_left.new.pass)) c.requires.trader
    (inquiry_answers c.args.trader c.args.call.now.number (knowledge c.args.pass.now) (knowledge c.max_left.new.pass)
    c.args.call.now.to c.answer.new.self c.args.inquiry c.in-Ok.found c.inquiry_outcome-outcome.result
    c.last_place.result c.in-Ok.ensures.turned c.inquiry_outcome-outcome.ensures.outcome c.answer.ensures
    c.last_place.ensures)

pub returns-in-Err-clause-serves : goal.returns-in-Err-clause-serves
returns-in-Err-clause-serves g c =
    subst (λ (x : List ℕ). ServesIterator c.args.call.now.to x c.args.call.now.number (knowledge c.args.pass.now)
    (Inquire c.args.inquiry) c.answer_fault.new.replies c.answer_fault.result (knowledge c.max_left.new.pass))
    c.requires.trader
    (serves_fault c.args.trader c.args.call.now.number (knowledge c.args.pass.now) (knowledge c.max_left.new.pass)
    c.args.call.now.to c.answer_fault.new.replies (Inquire c.args.inquiry) c.in-Err.fault c.answer_fault.result
    (left_fails c.args.trader c.args.call.now.number (knowledge c.args.pass.now) (knowledge c.max_left.new.pass)
    c.in-Err.fault c.in-Err.ensures.turned) c.answer_fault.ensures)
