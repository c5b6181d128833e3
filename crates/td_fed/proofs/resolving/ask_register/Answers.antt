use Rattle.std.proofs.Common.{ℕ, List, Err, IfOk, Ok, subst}
use Rattle.td_fed.proofs.Resolved.{was-given, was-ungiven}
use Rattle.td_fed.proofs.resolving.ask_register.Goals as goal
use Rattle.td_fed.specs.Resolving.{IsAskedFor, IsUngiven}
use Rattle.td_walk.specs.Peering.{Resolving}
use Rattle.td_query_walk.proofs.Counting.{register-counted}

pub returns-in-Ok-clause-asks : goal.returns-in-Ok-clause-asks
returns-in-Ok-clause-asks g c =
    let calls = g.P.Peers.calls c.args.peers.now in
    let now = g.P.Peers.calls c.resolve.new.self in
    subst (λ (ns : List (List ℕ)). IsAskedFor c.args.point c.args.whole.now ns c.args.register.now calls c.given.result
    now) c.in_ok-rest.ensures
    (was-given c.args.point c.args.whole.now c.in_ok-rest.rest c.args.register.now calls now
    (g.P.Peers.faults c.args.peers.now) (g.P.Peers.faults c.resolve.new.self) c.in-Ok.reference c.given.result
    c.in-Ok.ensures.noted c.given.ensures)

pub returns-clause-asks : goal.returns-clause-asks
returns-clause-asks g c =
    let calls = g.P.Peers.calls c.args.peers.now in
    let now = g.P.Peers.calls c.resolve.new.self in
    subst (λ (ns : List (List ℕ)). IfOk c.ungiven.result
    (λ a. IsAskedFor c.args.point c.args.whole.now ns c.args.register.now calls a now)) c.in_ok-rest.ensures
    (was-ungiven c.args.point c.args.whole.now c.in_ok-rest.rest c.args.register.now calls now
    (g.P.Peers.faults c.args.peers.now) (g.P.Peers.faults c.resolve.new.self) c.in-Err.fault c.ungiven.result
    c.in-Err.ensures.noted
    (subst (λ (n : List (List ℕ)). IsUngiven c.args.point c.in-Err.fault n c.ungiven.result) c.in_ok-name.ensures
    c.ungiven.ensures))

pub returns-in-Ok-clause-faults : goal.returns-in-Ok-clause-faults
returns-in-Ok-clause-faults g c =
    register-counted (Resolving c.args.register.now c.in_ok-rest.rest) (g.P.Peers.calls c.args.peers.now)
    (g.P.Peers.calls c.resolve.new.self) (g.P.Peers.faults c.args.peers.now) (g.P.Peers.faults c.resolve.new.self)
    (Ok c.in-Ok.reference) c.in-Ok.ensures.noted

pub returns-clause-faults : goal.returns-clause-faults
returns-clause-faults g c =
    register-counted (Resolving c.args.register.now c.in_ok-rest.rest) (g.P.Peers.calls c.args.peers.now)
    (g.P.Peers.calls c.resolve.new.self) (g.P.Peers.faults c.args.peers.now) (g.P.Peers.faults c.resolve.new.self)
    (Err c.in-Err.fault) c.in-Err.ensures.noted
