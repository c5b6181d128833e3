use Rattle.std.proofs.Common.{List, ℕ, subst}
use Rattle.td_cell.specs.Passes.{knowledge}
use Rattle.td_desk.specs.declared.event.Event.TheVariants.{Left}
use Rattle.td_desk_calls.proofs.Calling.{has_place_by, left_fails, left_has_place, left_takes_no_memory, located}
use Rattle.td_desk_calls.proofs.Calling.{located_none}
use Rattle.td_desk_calls.specs.Serving.{LocatesIterator}
use Rattle.td_desk_calls.proofs.locating.locate_named.Goals as goal

pub leave_located-requires-clause-place : goal.leave_located-requires-clause-place
leave_located-requires-clause-place g c =
    left_has_place c.args.trader c.args.call.now.number (knowledge c.args.pass.now) (knowledge c.max_left.new.pass)
    c.in-Ok._found c.in-Ok.ensures.turned

pub leave_none-requires-clause-absent : goal.leave_none-requires-clause-absent
leave_none-requires-clause-absent g c =
    has_place_by c.args.trader c.args.call.now.number (knowledge c.args.pass.now) (knowledge c.max_left.new.pass)
    (Left c.args.trader c.args.call.now.number) c.in-Err.fault
    (left_fails c.args.trader c.args.call.now.number (knowledge c.args.pass.now) (knowledge c.max_left.new.pass)
    c.in-Err.fault c.in-Err.ensures.turned)

pub leave_none-requires-clause-takes_no_memory : goal.leave_none-requires-clause-takes_no_memory
leave_none-requires-clause-takes_no_memory g c =
    left_takes_no_memory c.args.trader c.args.call.now.number (knowledge c.args.pass.now)
    (knowledge c.max_left.new.pass) c.in-Err.fault c.in-Err.ensures.turned

pub returns-in-Ok-clause-locates : goal.returns-in-Ok-clause-locates
returns-in-Ok-clause-locates g c =
    subst (λ (x : List ℕ). LocatesIterator c.args.call.now.to x c.args.call.now.number (knowledge c.args.pass.now)
    c.leave_located.new.replies c.leave_located.result (knowledge c.max_left.new.pass)) c.requires.trader
    (located c.args.trader c.args.call.now.number (knowledge c.args.pass.now) (knowledge c.max_left.new.pass)
    c.args.call.now.to c.leave_located.new.replies c.in-Ok._found c.leave_located.result c.in-Ok.ensures.turned
    c.leave_located.ensures)

pub returns-in-Err-clause-locates : goal.returns-in-Err-clause-locates
returns-in-Err-clause-locates g c =
    subst (λ (x : List ℕ). LocatesIterator c.args.call.now.to x c.args.call.now.number (knowledge c.args.pass.now)
    c.leave_none.new.replies c.leave_none.result (knowledge c.max_left.new.pass)) c.requires.trader
    (located_none c.args.trader c.args.call.now.number (knowledge c.args.pass.now) (knowledge c.max_left.new.pass)
    c.args.call.now.to c.leave_none.new.replies c.in-Err.fault c.leave_none.result
    (left_fails c.args.trader c.args.call.now.number (knowledge c.args.pass.now) (knowledge c.max_left.new.pass)
    c.in-Err.fault c.in-Err.ensures.turned) c.leave_none.ensures)
