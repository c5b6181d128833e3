use Rattle.td_fed.proofs.Called.{on-err}
use Rattle.td_fed.proofs.Entered.{entered-if, entered-nothing, entered-unless, entered-watched}
use Rattle.td_fed.proofs.Entered.{shown-begun, shown-watched}
use Rattle.td_fed.proofs.Moving.{goes-begun, goes-none, goes-watched}
use Rattle.td_fed.proofs.entering.enter.Goals as goal

pub returns-in_err-begin-clause-shown : goal.returns-in_err-begin-clause-shown
returns-in_err-begin-clause-shown g c =
    shown-watched g.T.Traders.others g.T.Traders.later (g.T.Traders.world c.args.traders.now)
    (g.T.Traders.world c.begin.new.self) c.args.trader c.args.notes.now.items c.reserve.new.self.items
    c.in_err-begin.ensures.err c.reserve.ensures.items

pub returns-clause-entered : goal.returns-clause-entered
returns-clause-entered g c =
    entered-if g.T.Traders.others g.T.Traders.later (g.T.Traders.world c.args.traders.now)
    (g.T.Traders.world c.begin.new.self) c.args.trader c.point-point.result c.args.q.now c.in_ok-begin.begin
    c.note_begin.result c.args.notes.now.items c.reserve.new.self.items c.note_begin.new.notes.items
    c.in_ok-begin.ensures.ok c.point-point.ensures.point c.note_begin.ensures.entry c.reserve.ensures.items
    c.note_begin.ensures.noted

pub returns-clause-shown : goal.returns-clause-shown
returns-clause-shown g c =
    shown-begun g.T.Traders.others g.T.Traders.later (g.T.Traders.world c.args.traders.now)
    (g.T.Traders.world c.begin.new.self) c.args.trader c.point-point.result c.args.q.now c.in_ok-begin.begin
    c.args.notes.now.items c.reserve.new.self.items c.note_begin.new.notes.items c.in_ok-begin.ensures.ok
    c.point-point.ensures.point c.reserve.ensures.items c.note_begin.ensures.noted

pub returns-in_err-reserve-clause-goes : goal.returns-in_err-reserve-clause-goes
returns-in_err-reserve-clause-goes g c =
    goes-none g.T.Traders.others g.T.Traders.later (g.T.Traders.world c.args.traders.now)

pub returns-in_err-begin-clause-goes : goal.returns-in_err-begin-clause-goes
returns-in_err-begin-clause-goes g c =
    goes-watched g.T.Traders.others g.T.Traders.later (g.T.Traders.world c.args.traders.now)
    (g.T.Traders.world c.begin.new.self) c.args.trader c.in_err-begin.ensures.err

pub returns-clause-goes : goal.returns-clause-goes
returns-clause-goes g c =
    goes-begun g.T.Traders.others g.T.Traders.later (g.T.Traders.world c.args.traders.now)
    (g.T.Traders.world c.begin.new.self) c.args.trader c.args.q.now c.in_ok-begin.begin c.in_ok-begin.ensures.ok

pub returns-in_err-reserve-clause-so_far : goal.returns-in_err-reserve-clause-so_far
returns-in_err-reserve-clause-so_far g c =
    on-err _ (entered-nothing g.T.Traders.others g.T.Traders.later (g.T.Traders.world c.args.traders.now) c.args.trader
    c.args.q.now c.args.notes.now.items c.reserve.new.self.items c.reserve.ensures.items)

pub returns-in_err-begin-clause-so_far : goal.returns-in_err-begin-clause-so_far
returns-in_err-begin-clause-so_far g c =
    on-err _ (entered-watched g.T.Traders.others g.T.Traders.later (g.T.Traders.world c.args.traders.now)
    (g.T.Traders.world c.begin.new.self) c.args.trader c.args.q.now c.args.notes.now.items c.reserve.new.self.items
    c.in_err-begin.ensures.err c.reserve.ensures.items)

pub returns-clause-so_far : goal.returns-clause-so_far
returns-clause-so_far g c =
    entered-unless g.T.Traders.others g.T.Traders.later (g.T.Traders.world c.args.traders.now)
    (g.T.Traders.world c.begin.new.self) c.args.trader c.point-point.result c.args.q.now c.in_ok-begin.begin
    c.note_begin.result c.args.notes.now.items c.reserve.new.self.items c.note_begin.new.notes.items
    c.in_ok-begin.ensures.ok c.point-point.ensures.point c.reserve.ensures.items c.note_begin.ensures.noted
