use Rattle.td_fed.proofs.Called.{on-err}
use Rattle.td_fed.proofs.Beginnings.{asked-so-far, turn-so-far}
use Rattle.td_fed.proofs.Stacked.{one-asks, turn-answered, turn-opened}
use Rattle.td_fed.proofs.visiting.ask_innermost.Goals as goal
use Rattle.td_targets.specs.Targets.{inside_group}
use Rattle.td_fed.specs.Visiting.{BeginsVisit, course}
use Rattle.td_fed.specs.declared.outside.Asking.TheVariants.{Answered, Open}
use Rattle.td_trader.specs.Worlds.{Watches}

pub answer_innermost-requires : goal.answer_innermost-requires
answer_innermost-requires g c = one-asks c.args.stack.now.items c.args.question c.requires.asks

pub returns-in-Answered-clause-turns : goal.returns-in-Answered-clause-turns
returns-in-Answered-clause-turns g c = λ words.
    turn-answered (BeginsVisit g.T.Traders.others g.T.Traders.later) (inside_group c.args.home.now)
    (course (g.T.Traders.world c.args.traders.now) words (g.P.Peers.calls c.args.peers.now))
    c.args.stack.now.items c.args.question c.requires.asks c.in-Answered.answer
    (course (g.T.Traders.world c.ask.new.traders) words (g.P.Peers.calls c.ask.new.peers))
    c.args.notes.now.items c.ask.new.notes.items c.answer_innermost.new.stack.items c.answer_innermost.result
    (rw c.in-Answered.is at (c.in_ok-answer.ensures.asked words)) c.answer_innermost.ensures

pub returns-in-Open-clause-turns : goal.returns-in-Open-clause-turns
returns-in-Open-clause-turns g c = λ words.
    turn-opened (BeginsVisit g.T.Traders.others g.T.Traders.later) (inside_group c.args.home.now)
    (course (g.T.Traders.world c.args.traders.now) words (g.P.Peers.calls c.args.peers.now))
    c.args.stack.now.items c.args.question c.requires.asks c.in-Open.visit
    (course (g.T.Traders.world c.ask.new.traders) words (g.P.Peers.calls c.ask.new.peers))
    c.args.notes.now.items c.ask.new.notes.items c.open_innermost.new.stack.items c.open_innermost.result
    (rw c.in-Open.is at (c.in_ok-answer.ensures.asked words)) c.open_innermost.ensures.few
    c.open_innermost.ensures.opened

pub returns-in_err-answer-clause-so_far : goal.returns-in_err-answer-clause-so_far
returns-in_err-answer-clause-so_far g c = λ words.
    on-err _ (turn-so-far (BeginsVisit g.T.Traders.others g.T.Traders.later) (Watches g.T.Traders.others g.T.Traders.later)
    (inside_group c.args.home.now)
    (course (g.T.Traders.world c.args.traders.now) words (g.P.Peers.calls c.args.peers.now))
    (course (g.T.Traders.world c.ask.new.traders) words (g.P.Peers.calls c.ask.new.peers))
    c.args.stack.now.items c.args.question c.args.notes.now.items c.ask.new.notes.items c.requires.asks
    (c.in_err-answer.ensures.so_far words))

pub returns-in-Answered-clause-so_far : goal.returns-in-Answered-clause-so_far
returns-in-Answered-clause-so_far g c = λ words.
    asked-so-far (BeginsVisit g.T.Traders.others g.T.Traders.later) (Watches g.T.Traders.others g.T.Traders.later)
    (inside_group c.args.home.now)
    (course (g.T.Traders.world c.args.traders.now) words (g.P.Peers.calls c.args.peers.now))
    (course (g.T.Traders.world c.ask.new.traders) words (g.P.Peers.calls c.ask.new.peers))
    c.args.stack.now.items c.args.question (Answered c.in-Answered.answer) c.args.notes.now.items
    c.ask.new.notes.items c.answer_innermost.result c.requires.asks
    (rw c.in-Answered.is at (c.in_ok-answer.ensures.asked words))

pub returns-in-Open-clause-so_far : goal.returns-in-Open-clause-so_far
returns-in-Open-clause-so_far g c = λ words.
    asked-so-far (BeginsVisit g.T.Traders.others g.T.Traders.later) (Watches g.T.Traders.others g.T.Traders.later)
    (inside_group c.args.home.now)
    (course (g.T.Traders.world c.args.traders.now) words (g.P.Peers.calls c.args.peers.now))
    (course (g.T.Traders.world c.ask.new.traders) words (g.P.Peers.calls c.ask.new.peers))
    c.args.stack.now.items c.args.question (Open c.in-Open.visit) c.args.notes.now.items c.ask.new.notes.items
    c.open_innermost.result c.requires.asks (rw c.in-Open.is at (c.in_ok-answer.ensures.asked words))
