use Rattle.td_fed.proofs.Called.{on-err}
use Rattle.td_fed.proofs.Going.{at-once, first-read, unbegun-so-far}
use Rattle.td_fed.proofs.Moving.{draws-none, goes-after}
use Rattle.td_fed.proofs.Showing.{shown-beside, shown-on}
use Rattle.td_fed.proofs.visiting.walk.Goals as goal

pub returns-in-Ended-clause-visited : goal.returns-in-Ended-clause-visited
returns-in-Ended-clause-visited g c =
    at-once g.T.Traders.others g.T.Traders.later c.args.home.now (g.T.Traders.world c.args.traders.now)
    (g.T.Traders.world c.enter.new.traders) (g.W.Words.word c.args.words.now) (g.P.Peers.calls c.args.peers.now)
    c.args.trader c.args.q.now c.in-Ended.visit c.args.notes.now.items c.enter.new.notes.items
    (rw c.in-Ended.is at c.in_ok-visit.ensures.entered)

pub returns-in-Ended-clause-shown : goal.returns-in-Ended-clause-shown
returns-in-Ended-clause-shown g c =
    shown-beside (g.T.Traders.world c.args.traders.now) (g.T.Traders.world c.enter.new.traders)
    (g.P.Peers.calls c.args.peers.now) c.args.notes.now.items c.enter.new.notes.items c.enter.ensures.shown

pub walk_on-requires : goal.walk_on-requires
walk_on-requires g c =
    first-read g.T.Traders.others g.T.Traders.later c.args.home.now (g.T.Traders.world c.args.traders.now)
    (g.T.Traders.world c.enter.new.traders) c.args.trader c.args.q.now c.in-Open.first c.args.notes.now.items
    c.enter.new.notes.items (rw c.in-Open.is at c.in_ok-visit.ensures.entered)

pub returns-in-Open-clause-shown : goal.returns-in-Open-clause-shown
returns-in-Open-clause-shown g c =
    let calls = g.P.Peers.calls c.args.peers.now in
    shown-on (g.T.Traders.world c.args.traders.now) (g.T.Traders.world c.enter.new.traders)
    (g.T.Traders.world c.walk_on.new.traders) calls calls (g.P.Peers.calls c.walk_on.new.peers)
    c.args.notes.now.items c.enter.new.notes.items c.walk_on.new.notes.items
    (shown-beside (g.T.Traders.world c.args.traders.now) (g.T.Traders.world c.enter.new.traders) calls
    c.args.notes.now.items c.enter.new.notes.items c.enter.ensures.shown) c.walk_on.ensures.shown

pub returns-in_err-visit-clause-draws : goal.returns-in_err-visit-clause-draws
returns-in_err-visit-clause-draws g c = draws-none (g.W.Words.word c.args.words.now)

pub returns-in-Ended-clause-draws : goal.returns-in-Ended-clause-draws
returns-in-Ended-clause-draws g c = draws-none (g.W.Words.word c.args.words.now)

pub returns-in-Open-clause-goes : goal.returns-in-Open-clause-goes
returns-in-Open-clause-goes g c =
    goes-after g.T.Traders.others g.T.Traders.later (g.T.Traders.world c.args.traders.now)
    (g.T.Traders.world c.enter.new.traders) (g.T.Traders.world c.walk_on.new.traders) c.enter.ensures.goes
    c.walk_on.ensures.goes

pub returns-in_err-visit-clause-so_far : goal.returns-in_err-visit-clause-so_far
returns-in_err-visit-clause-so_far g c =
    on-err _ (unbegun-so-far g.T.Traders.others g.T.Traders.later c.args.home.now (g.T.Traders.world c.args.traders.now)
    (g.T.Traders.world c.enter.new.traders) (g.W.Words.word c.args.words.now) (g.P.Peers.calls c.args.peers.now)
    c.args.trader c.args.q.now c.args.notes.now.items c.enter.new.notes.items c.in_err-visit.ensures.so_far)
