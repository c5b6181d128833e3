use Rattle.std.proofs.Common.{Err, Ok, refl, rules}
use Rattle.td_fed.proofs.Called.{fault-so-far, is-unreached, is-unvalued, is-valued, nothing-called}
use Rattle.td_fed.proofs.Called.{on-err, shown-fault, valued-so-far}
use Rattle.td_fed.proofs.Showing.{shown-same}
use Rattle.td_fed.proofs.outside.evaluate.Goals as goal
use Rattle.td_walk.specs.Peering.{Evaluating, Evaluated}
use Rattle.td_walk.specs.declared.answer.Next.TheVariants.{Evaluate}
use Rattle.td_query_walk.proofs.Counting.{value-counted}

pub returns-in_err-reserve-clause-shown : goal.returns-in_err-reserve-clause-shown
returns-in_err-reserve-clause-shown g c = λ w.
    shown-same w (g.P.Peers.calls c.args.peers.now) (g.P.Peers.calls c.args.peers.now) c.args.notes.now.items
    c.reserve.new.self.items refl c.reserve.ensures.items

pub returns-then-not-is_reachable-clause-peered : goal.returns-then-not-is_reachable-clause-peered
returns-then-not-is_reachable-clause-peered g c =
    is-unreached c.args.evaluator.now c.args.name.now c.args.returned.now c.args.extra.now
    (g.P.Peers.calls c.args.peers.now) (g.P.Peers.calls c.args.peers.now) c.args.notes.now.items
    c.reserve.new.self.items c.push_reserved.new.self.items (search rules)
    refl c.reserve.ensures.items c.push_reserved.ensures.items

pub returns-in-Ok-clause-peered : goal.returns-in-Ok-clause-peered
returns-in-Ok-clause-peered g c =
    is-valued c.args.evaluator.now c.args.name.now c.args.returned.now c.args.extra.now
    (g.P.Peers.calls c.args.peers.now) (g.P.Peers.calls c.eval_dp.new.self) c.args.notes.now.items
    c.reserve.new.self.items c.note_value.new.notes.items c.in-Ok.value (g.P.Peers.faults c.args.peers.now)
    (g.P.Peers.faults c.eval_dp.new.self) c.note_value.result (search rules)
    c.in-Ok.ensures.noted c.reserve.ensures.items c.note_value.ensures.noted c.note_value.ensures.answer

pub returns-in-Err-clause-peered : goal.returns-in-Err-clause-peered
returns-in-Err-clause-peered g c =
    is-unvalued c.args.evaluator.now c.args.name.now c.args.returned.now c.args.extra.now
    (g.P.Peers.calls c.args.peers.now) (g.P.Peers.calls c.eval_dp.new.self) c.args.notes.now.items
    c.reserve.new.self.items c.note_fault.new.notes.items c.in-Err.fault (g.P.Peers.faults c.args.peers.now)
    (g.P.Peers.faults c.eval_dp.new.self) c.note_fault.result (search rules)
    c.in-Err.ensures.noted c.reserve.ensures.items c.note_fault.ensures

pub returns-in-Err-clause-shown : goal.returns-in-Err-clause-shown
returns-in-Err-clause-shown g c = λ w.
    shown-fault (λ v. Evaluated v) w
    (Evaluating c.args.evaluator.now c.args.name.now c.args.returned.now c.args.extra.now) c.in-Err.fault
    (g.P.Peers.calls c.args.peers.now) (g.P.Peers.calls c.eval_dp.new.self) (g.P.Peers.faults c.args.peers.now)
    (g.P.Peers.faults c.eval_dp.new.self) c.args.notes.now.items c.reserve.new.self.items
    c.note_fault.new.notes.items c.note_fault.result c.in-Err.ensures.noted c.reserve.ensures.items
    c.note_fault.ensures

pub returns-in-Ok-clause-faults : goal.returns-in-Ok-clause-faults
returns-in-Ok-clause-faults g c =
    value-counted
    (Evaluating c.args.evaluator.now c.args.name.now c.args.returned.now c.args.extra.now)
    (g.P.Peers.calls c.args.peers.now) (g.P.Peers.calls c.eval_dp.new.self) (g.P.Peers.faults c.args.peers.now)
    (g.P.Peers.faults c.eval_dp.new.self) (Ok c.in-Ok.value) c.in-Ok.ensures.noted

pub returns-in-Err-clause-faults : goal.returns-in-Err-clause-faults
returns-in-Err-clause-faults g c =
    value-counted
    (Evaluating c.args.evaluator.now c.args.name.now c.args.returned.now c.args.extra.now)
    (g.P.Peers.calls c.args.peers.now) (g.P.Peers.calls c.eval_dp.new.self) (g.P.Peers.faults c.args.peers.now)
    (g.P.Peers.faults c.eval_dp.new.self) (Err c.in-Err.fault) c.in-Err.ensures.noted

pub returns-in_err-reserve-clause-so_far : goal.returns-in_err-reserve-clause-so_far
returns-in_err-reserve-clause-so_far g c =
    on-err _ (nothing-called (g.P.Peers.calls c.args.peers.now) (g.P.Peers.calls c.args.peers.now)
    (Evaluate c.args.evaluator.now c.args.name.now c.args.returned.now c.args.extra.now) c.args.notes.now.items
    c.reserve.new.self.items refl c.reserve.ensures.items)

pub returns-in-Ok-clause-so_far : goal.returns-in-Ok-clause-so_far
returns-in-Ok-clause-so_far g c =
    valued-so-far c.args.evaluator.now c.args.name.now c.args.returned.now c.args.extra.now
    (g.P.Peers.calls c.args.peers.now) (g.P.Peers.calls c.eval_dp.new.self) c.args.notes.now.items
    c.reserve.new.self.items c.note_value.new.notes.items c.in-Ok.value (g.P.Peers.faults c.args.peers.now)
    (g.P.Peers.faults c.eval_dp.new.self) c.note_value.result (search rules) c.in-Ok.ensures.noted
    c.reserve.ensures.items c.note_value.ensures.noted

pub returns-in-Err-clause-so_far : goal.returns-in-Err-clause-so_far
returns-in-Err-clause-so_far g c =
    fault-so-far (λ v. Evaluated v)
    (Evaluating c.args.evaluator.now c.args.name.now c.args.returned.now c.args.extra.now)
    (Evaluate c.args.evaluator.now c.args.name.now c.args.returned.now c.args.extra.now) c.in-Err.fault
    (g.P.Peers.calls c.args.peers.now) (g.P.Peers.calls c.eval_dp.new.self) (g.P.Peers.faults c.args.peers.now)
    (g.P.Peers.faults c.eval_dp.new.self) c.args.notes.now.items c.reserve.new.self.items
    c.note_fault.new.notes.items c.note_fault.result c.in-Err.ensures.noted c.reserve.ensures.items
    c.note_fault.ensures
