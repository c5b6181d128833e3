use Rattle.std.proofs.Common.{List, IfOk, OnErr, subst}
use Rattle.td_fed.proofs.Called.{on-err}
use Rattle.td_fed.proofs.Beginnings.{turn-closes-so-far, turned-nothing}
use Rattle.td_fed.proofs.Moving.{draws-none, goes-none}
use Rattle.td_fed.proofs.Showing.{shown-none}
use Rattle.td_fed.proofs.Stacked.{turn-closes}
use Rattle.td_fed.proofs.visiting.turn.Goals as goal
use Rattle.td_targets.specs.Targets.{inside_group}
use Rattle.td_fed.specs.Turning.{IsWalkTurn, IsTurnSoFar}
use Rattle.td_fed.specs.Visiting.{BeginsVisit, course}
use Rattle.td_trader.specs.Worlds.{Watches}
use Rattle.td_visit.specs.Standing.{FrameState as Frame}

pub returns-in_err-question-clause-shown : goal.returns-in_err-question-clause-shown
returns-in_err-question-clause-shown g c =
    shown-none (g.T.Traders.world c.args.traders.now) (g.P.Peers.calls c.args.peers.now) c.args.notes.now.items

pub returns-in-Done-clause-turns : goal.returns-in-Done-clause-turns
returns-in-Done-clause-turns g c =
    let w = g.T.Traders.world c.args.traders.now in
    let calls = g.P.Peers.calls c.args.peers.now in
    let s = course w (g.W.Words.word c.args.words.now) calls in
    let u = course w (g.W.Words.word c.end_innermost.new.words) calls in
    subst (λ (fs : List Frame). IfOk c.end_innermost.result (λ v. IsWalkTurn (BeginsVisit g.T.Traders.others g.T.Traders.later)
    (inside_group c.args.home.now) s fs v c.end_innermost.new.stack.items c.args.notes.now.items
    c.end_innermost.new.notes.items u)) c.next_of_innermost.ensures.kept
    (turn-closes (BeginsVisit g.T.Traders.others g.T.Traders.later) (inside_group c.args.home.now) s u
    c.next_of_innermost.new.stack.items c.end_innermost.new.stack.items c.args.notes.now.items
    c.end_innermost.new.notes.items c.end_innermost.result (c.end_innermost.ensures.closes w calls)
    c.end_innermost.ensures.noted)

pub returns-in_err-question-clause-goes : goal.returns-in_err-question-clause-goes
returns-in_err-question-clause-goes g c =
    goes-none g.T.Traders.others g.T.Traders.later (g.T.Traders.world c.args.traders.now)

pub returns-in_err-question-clause-draws : goal.returns-in_err-question-clause-draws
returns-in_err-question-clause-draws g c = draws-none (g.W.Words.word c.args.words.now)

pub returns-in-Done-clause-goes : goal.returns-in-Done-clause-goes
returns-in-Done-clause-goes g c =
    goes-none g.T.Traders.others g.T.Traders.later (g.T.Traders.world c.args.traders.now)

pub returns-in_ok-ask_innermost-in_default-clause-draws : goal.returns-in_ok-ask_innermost-in_default-clause-draws
returns-in_ok-ask_innermost-in_default-clause-draws g c = draws-none (g.W.Words.word c.args.words.now)

pub returns-in_err-question-clause-so_far : goal.returns-in_err-question-clause-so_far
returns-in_err-question-clause-so_far g c =
    on-err _
    (turned-nothing (BeginsVisit g.T.Traders.others g.T.Traders.later) (Watches g.T.Traders.others g.T.Traders.later)
    (inside_group c.args.home.now)
    (course (g.T.Traders.world c.args.traders.now) (g.W.Words.word c.args.words.now)
    (g.P.Peers.calls c.args.peers.now)) c.args.stack.now.items c.args.notes.now.items)

pub returns-in-Done-clause-so_far : goal.returns-in-Done-clause-so_far
returns-in-Done-clause-so_far g c =
    let w = g.T.Traders.world c.args.traders.now in
    let calls = g.P.Peers.calls c.args.peers.now in
    let s = course w (g.W.Words.word c.args.words.now) calls in
    let u = course w (g.W.Words.word c.end_innermost.new.words) calls in
    subst (λ (fs : List Frame). OnErr c.end_innermost.result (IsTurnSoFar (BeginsVisit g.T.Traders.others
    g.T.Traders.later) (Watches g.T.Traders.others g.T.Traders.later) (inside_group c.args.home.now) s fs
    c.args.notes.now.items c.end_innermost.new.notes.items u)) c.next_of_innermost.ensures.kept
    (turn-closes-so-far (BeginsVisit g.T.Traders.others g.T.Traders.later) (Watches g.T.Traders.others g.T.Traders.later)
    (inside_group c.args.home.now) s u c.next_of_innermost.new.stack.items c.args.notes.now.items
    c.end_innermost.new.notes.items c.end_innermost.result (c.end_innermost.ensures.so_far w calls))

pub returns-in_err-ask_innermost-in_default-clause-draws : goal.returns-in_err-ask_innermost-in_default-clause-draws
returns-in_err-ask_innermost-in_default-clause-draws g c = draws-none (g.W.Words.word c.args.words.now)

pub returns-in_err-ask_innermost-in_default-clause-so_far : goal.returns-in_err-ask_innermost-in_default-clause-so_far
returns-in_err-ask_innermost-in_default-clause-so_far g c =
    let s =
    course (g.T.Traders.world c.args.traders.now) (g.W.Words.word c.args.words.now)
    (g.P.Peers.calls c.args.peers.now) in
    let u =
    course (g.T.Traders.world c.ask_innermost.new.traders) (g.W.Words.word c.args.words.now)
    (g.P.Peers.calls c.ask_innermost.new.peers) in
    on-err _
    (subst (λ (fs : List Frame). IsTurnSoFar (BeginsVisit g.T.Traders.others g.T.Traders.later)
    (Watches g.T.Traders.others g.T.Traders.later) (inside_group c.args.home.now) s fs c.args.notes.now.items
    c.ask_innermost.new.notes.items u) c.next_of_innermost.ensures.kept
    (c.in_err-ask_innermost-in_default.ensures.so_far (g.W.Words.word c.args.words.now)))
