use Rattle.std.proofs.Common.{◌≡◌, None, Some, rules, sym, subst}
use Rattle.td_fed.proofs.Beginnings.{asked-nothing, entered-asked-so-far}
use Rattle.td_fed.proofs.Called.{on-err, outsides, peered-asked, peered-so-far}
use Rattle.td_fed.proofs.Entered.{entered-asked}
use Rattle.td_fed.proofs.Moving.{goes-none}
use Rattle.td_targets.proofs.Within.{inside-within}
use Rattle.td_fed.proofs.Showing.{shown-none}
use Rattle.td_fed.proofs.outside.forward.Goals as goal
use Rattle.td_fed.specs.Entering.{IsAsked}
use Rattle.td_targets.specs.Targets.{inside_group}
use Rattle.td_fed.specs.Visiting.{BeginsVisit, course}
use Rattle.td_fed.specs.declared.outside.Asking.{Asking}
use Rattle.td_trader.specs.Worlds.{Watches}
use Rattle.td_walk.specs.declared.answer.Next.TheVariants.{Forward}

pub returns-in_err-trader-clause-shown : goal.returns-in_err-trader-clause-shown
returns-in_err-trader-clause-shown g c =
    shown-none (g.T.Traders.world c.args.traders.now) (g.P.Peers.calls c.args.peers.now) c.args.notes.now.items

pub enter-requires : goal.enter-requires
enter-requires g c =
    let w = g.T.Traders.world c.args.traders.now in
    let e : inside_group c.args.home.now w c.args.target.now ≡ Some c.in-Some.trader = search rules in
    inside-within c.args.home.now w c.args.target.now c.in-Some.trader e

pub returns-in_ok-entry-in-Some-clause-asked : goal.returns-in_ok-entry-in-Some-clause-asked
returns-in_ok-entry-in-Some-clause-asked g c = λ words.
    let w = g.T.Traders.world c.args.traders.now in
    let u = g.T.Traders.world c.enter.new.traders in
    let calls = g.P.Peers.calls c.args.peers.now in
    let e : inside_group c.args.home.now w c.args.target.now ≡ Some c.in-Some.trader = search rules in
    subst (λ (a : Asking). IsAsked (BeginsVisit g.T.Traders.others g.T.Traders.later) (inside_group c.args.home.now)
    (course w words calls) (Forward c.args.target.now c.args.query.now) a c.args.notes.now.items
    c.enter.new.notes.items (course u words calls)) (sym c.asking_of.ensures)
    (entered-asked g.T.Traders.others g.T.Traders.later c.args.home.now w words calls c.in-Some.trader
    c.args.target.now c.args.query.now e c.in_ok-entry-in-Some.entry u c.args.notes.now.items c.enter.new.notes.items
    c.in_ok-entry-in-Some.ensures.entered)

pub returns-in_ok-answer-in-None-clause-asked : goal.returns-in_ok-answer-in-None-clause-asked
returns-in_ok-answer-in-None-clause-asked g c = λ words.
    let w = g.T.Traders.world c.args.traders.now in
    let s = course w words (g.P.Peers.calls c.args.peers.now) in
    let e : inside_group c.args.home.now w c.args.target.now ≡ None = search rules in
    peered-asked (BeginsVisit g.T.Traders.others g.T.Traders.later) (inside_group c.args.home.now) s
    (Forward c.args.target.now c.args.query.now) c.in_ok-answer-in-None.answer c.args.notes.now.items
    c.call.new.notes.items (g.P.Peers.calls c.call.new.peers)
    (outsides (BeginsVisit g.T.Traders.others g.T.Traders.later) (inside_group c.args.home.now) s c.args.target.now
    c.args.query.now e) (rw c.get.ensures at c.in_ok-answer-in-None.ensures.peered)

pub returns-in_err-trader-clause-goes : goal.returns-in_err-trader-clause-goes
returns-in_err-trader-clause-goes g c =
    goes-none g.T.Traders.others g.T.Traders.later (g.T.Traders.world c.args.traders.now)

pub returns-in_err-answer-in-None-clause-goes : goal.returns-in_err-answer-in-None-clause-goes
returns-in_err-answer-in-None-clause-goes g c =
    goes-none g.T.Traders.others g.T.Traders.later (g.T.Traders.world c.args.traders.now)

pub returns-in_ok-answer-in-None-clause-goes : goal.returns-in_ok-answer-in-None-clause-goes
returns-in_ok-answer-in-None-clause-goes g c =
    goes-none g.T.Traders.others g.T.Traders.later (g.T.Traders.world c.args.traders.now)

pub returns-in_err-trader-clause-so_far : goal.returns-in_err-trader-clause-so_far
returns-in_err-trader-clause-so_far g c = λ words.
    on-err _ (asked-nothing (BeginsVisit g.T.Traders.others g.T.Traders.later) (Watches g.T.Traders.others g.T.Traders.later)
    (inside_group c.args.home.now)
    (course (g.T.Traders.world c.args.traders.now) words (g.P.Peers.calls c.args.peers.now))
    (Forward c.args.target.now c.args.query.now) c.args.notes.now.items)

pub returns-in_err-entry-in-Some-clause-so_far : goal.returns-in_err-entry-in-Some-clause-so_far
returns-in_err-entry-in-Some-clause-so_far g c = λ words.
    let w = g.T.Traders.world c.args.traders.now in
    let s = course w words (g.P.Peers.calls c.args.peers.now) in
    let e : inside_group c.args.home.now w c.args.target.now ≡ Some c.in-Some.trader = search rules in
    on-err _
    (entered-asked-so-far (BeginsVisit g.T.Traders.others g.T.Traders.later) (Watches g.T.Traders.others g.T.Traders.later)
    (inside_group c.args.home.now) s c.args.target.now c.args.query.now c.in-Some.trader e c.args.notes.now.items
    c.enter.new.notes.items (g.T.Traders.world c.enter.new.traders) c.in_err-entry-in-Some.ensures.so_far)

pub returns-in_err-answer-in-None-clause-so_far : goal.returns-in_err-answer-in-None-clause-so_far
returns-in_err-answer-in-None-clause-so_far g c = λ words.
    let w = g.T.Traders.world c.args.traders.now in
    let s = course w words (g.P.Peers.calls c.args.peers.now) in
    let e : inside_group c.args.home.now w c.args.target.now ≡ None = search rules in
    on-err _ (peered-so-far (BeginsVisit g.T.Traders.others g.T.Traders.later) (inside_group c.args.home.now) s
    (Watches g.T.Traders.others g.T.Traders.later) (Forward c.args.target.now c.args.query.now) c.args.notes.now.items
    c.call.new.notes.items (g.P.Peers.calls c.call.new.peers)
    (outsides (BeginsVisit g.T.Traders.others g.T.Traders.later) (inside_group c.args.home.now) s c.args.target.now
    c.args.query.now e) (rw c.get.ensures at c.in_err-answer-in-None.ensures.so_far))
