use Rattle.std.proofs.Common.{Err, Ok, refl}
use Rattle.td_fed.proofs.Called.{fault-so-far, is-replied, is-unreplied, nothing-called, on-err}
use Rattle.td_fed.proofs.Called.{replied-so-far, shown-fault}
use Rattle.td_fed.proofs.Showing.{shown-same}
use Rattle.td_fed.proofs.outside.call.Goals as goal
use Rattle.td_walk.specs.Peering.{Answered, Querying}
use Rattle.td_walk.specs.declared.answer.Next.TheVariants.{Forward}
use Rattle.td_query_walk.proofs.Counting.{query-counted}

pub returns-in_err-reserve-clause-shown : goal.returns-in_err-reserve-clause-shown
returns-in_err-reserve-clause-shown g c = λ w.
    shown-same w (g.P.Peers.calls c.args.peers.now) (g.P.Peers.calls c.args.peers.now) c.args.notes.now.items
    c.reserve.new.self.items refl c.reserve.ensures.items

pub returns-in-Ok-clause-peered : goal.returns-in-Ok-clause-peered
returns-in-Ok-clause-peered g c =
    is-replied c.args.target.now c.args.query.now (g.P.Peers.calls c.args.peers.now)
    (g.P.Peers.calls c.query.new.self) c.args.notes.now.items c.reserve.new.self.items
    c.note_offers.new.notes.items c.in-Ok.answer (g.P.Peers.faults c.args.peers.now)
    (g.P.Peers.faults c.query.new.self) c.note_offers.result c.in-Ok.ensures.small c.in-Ok.ensures.noted
    c.reserve.ensures.items c.note_offers.ensures.noted c.note_offers.ensures.answer

pub returns-in-Err-clause-peered : goal.returns-in-Err-clause-peered
returns-in-Err-clause-peered g c =
    is-unreplied c.args.target.now c.args.query.now (g.P.Peers.calls c.args.peers.now)
    (g.P.Peers.calls c.query.new.self) c.args.notes.now.items c.reserve.new.self.items
    c.note_fault.new.notes.items c.in-Err.fault (g.P.Peers.faults c.args.peers.now)
    (g.P.Peers.faults c.query.new.self) c.note_fault.result c.in-Err.ensures.noted c.reserve.ensures.items
    c.note_fault.ensures

pub returns-in-Err-clause-shown : goal.returns-in-Err-clause-shown
returns-in-Err-clause-shown g c = λ w.
    shown-fault (λ x. Answered x) w (Querying c.args.target.now c.args.query.now) c.in-Err.fault
    (g.P.Peers.calls c.args.peers.now) (g.P.Peers.calls c.query.new.self) (g.P.Peers.faults c.args.peers.now)
    (g.P.Peers.faults c.query.new.self) c.args.notes.now.items c.reserve.new.self.items
    c.note_fault.new.notes.items c.note_fault.result c.in-Err.ensures.noted c.reserve.ensures.items
    c.note_fault.ensures

pub returns-in-Ok-clause-faults : goal.returns-in-Ok-clause-faults
returns-in-Ok-clause-faults g c =
    query-counted (Querying c.args.target.now c.args.query.now) (g.P.Peers.calls c.args.peers.now)
    (g.P.Peers.calls c.query.new.self) (g.P.Peers.faults c.args.peers.now) (g.P.Peers.faults c.query.new.self)
    (Ok c.in-Ok.answer) c.in-Ok.ensures.noted

pub returns-in-Err-clause-faults : goal.returns-in-Err-clause-faults
returns-in-Err-clause-faults g c =
    query-counted (Querying c.args.target.now c.args.query.now) (g.P.Peers.calls c.args.peers.now)
    (g.P.Peers.calls c.query.new.self) (g.P.Peers.faults c.args.peers.now) (g.P.Peers.faults c.query.new.self)
    (Err c.in-Err.fault) c.in-Err.ensures.noted

pub returns-in_err-reserve-clause-so_far : goal.returns-in_err-reserve-clause-so_far
returns-in_err-reserve-clause-so_far g c =
    on-err _ (nothing-called (g.P.Peers.calls c.args.peers.now) (g.P.Peers.calls c.args.peers.now)
    (Forward c.args.target.now c.args.query.now) c.args.notes.now.items c.reserve.new.self.items refl
    c.reserve.ensures.items)

pub returns-in-Ok-clause-so_far : goal.returns-in-Ok-clause-so_far
returns-in-Ok-clause-so_far g c =
    replied-so-far c.args.target.now c.args.query.now (g.P.Peers.calls c.args.peers.now)
    (g.P.Peers.calls c.query.new.self) c.args.notes.now.items c.reserve.new.self.items
    c.note_offers.new.notes.items c.in-Ok.answer (g.P.Peers.faults c.args.peers.now)
    (g.P.Peers.faults c.query.new.self) c.note_offers.result c.in-Ok.ensures.small c.in-Ok.ensures.noted
    c.reserve.ensures.items c.note_offers.ensures.noted

pub returns-in-Err-clause-so_far : goal.returns-in-Err-clause-so_far
returns-in-Err-clause-so_far g c =
    fault-so-far (λ x. Answered x) (Querying c.args.target.now c.args.query.now)
    (Forward c.args.target.now c.args.query.now) c.in-Err.fault (g.P.Peers.calls c.args.peers.now)
    (g.P.Peers.calls c.query.new.self) (g.P.Peers.faults c.args.peers.now) (g.P.Peers.faults c.query.new.self)
    c.args.notes.now.items c.reserve.new.self.items c.note_fault.new.notes.items c.note_fault.result
    c.in-Err.ensures.noted c.reserve.ensures.items c.note_fault.ensures
