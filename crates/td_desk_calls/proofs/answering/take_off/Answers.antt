use Rattle.std.proofs.Common.{List, ℕ, subst}
use Rattle.td_cell.specs.Passes.{knowledge}
use Rattle.td_desk.specs.declared.event.Event.TheVariants as event
use Rattle.td_desk_calls.proofs.Calling.{destroy_answers, destroy_fails, destroy_has_place, has_place_by, serves_fault}
use Rattle.td_desk_calls.specs.Serving.{AnswersDeskCall, ServesIterator}
use Rattle.td_desk_calls.specs.declared.judging.IteratorRequest.TheVariants.{Destroy}
use Rattle.td_desk_calls.proofs.answering.take_off.Goals as goal

pub last_place-requires : goal.last_place-requires
last_place-requires g c =
    destroy_has_place c.args.trader c.args.call.now.number (knowledge c.args.pass.now) (knowledge c.destroy.new.pass)
    c.in-Ok.taken c.in-Ok.ensures.turned

pub answer_fault-requires-clause-absent : goal.answer_fault-requires-clause-absent
answer_fault-requires-clause-absent g c =
    has_place_by c.args.trader c.args.call.now.number (knowledge c.args.pass.now) (knowledge c.destroy.new.pass)
    (event.Destroy c.args.trader c.args.call.now.number) c.in-Err.fault
    (destroy_fails c.args.trader c.args.call.now.number (knowledge c.args.pass.now) (knowledge c.destroy.new.pass)
    c.in-Err.fault c.in-Err.ensures.turned)

pub returns-in-Ok-clause-serves : goal.returns-in-Ok-clause-serves
returns-in-Ok-clause-serves g c =
    subst (λ (x : List ℕ). AnswersDeskCall c.args.call.now.to x c.args.call.now.number (knowledge c.args.pass.now)
    Destroy c.answer.new.self c.last_place.result (knowledge c.destroy.new.pass)) c.requires.trader
    (destroy_answers c.args.trader c.args.call.now.number (knowledge c.args.pass.now) (knowledge c.destroy.new.pass)
    c.args.call.now.to c.answer.new.self c.in-Ok.taken c.last_place.result c.in-Ok.ensures.turned c.answer.ensures
    c.last_place.ensures)

pub returns-in-Err-clause-serves : goal.returns-in-Err-clause-serves
returns-in-Err-clause-serves g c =
    subst (λ (x : List ℕ). ServesIterator c.args.call.now.to x c.args.call.now.number (knowledge c.args.pass.now)
    Destroy c.answer_fault.new.replies c.answer_fault.result (knowledge c.destroy.new.pass)) c.requires.trader
    (serves_fault c.args.trader c.args.call.now.number (knowledge c.args.pass.now) (knowledge c.destroy.new.pass)
    c.args.call.now.to c.answer_fault.new.replies Destroy c.in-Err.fault c.answer_fault.result
    (destroy_fails c.args.trader c.args.call.now.number (knowledge c.args.pass.now) (knowledge c.destroy.new.pass)
    c.in-Err.fault c.in-Err.ensures.turned) c.answer_fault.ensures)
