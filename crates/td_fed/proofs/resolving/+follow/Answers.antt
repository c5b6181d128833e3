use Rattle.std.proofs.Common.{◌<◌, length, arith, rules}
use Rattle.td_fed.proofs.Moving.{goes-after}
use Rattle.td_fed.proofs.Resolved.{follows-so, is-inside, other-words}
use Rattle.td_targets.proofs.Within.{register-inside-within}
use Rattle.td_fed.proofs.resolving.+follow.Goals as goal
use Rattle.td_query_walk.proofs.Counting.{counted-on}

pub returns-in_ok-answer-in-Inside-clause-follows : goal.returns-in_ok-answer-in-Inside-clause-follows
returns-in_ok-answer-in-Inside-clause-follows g t c =
    let leads = rw c.in-Inside.is at c.in_ok-answer-in-Some.ensures.leads in
    let w = g.T.Traders.world c.args.traders.now in
    let u = g.T.Traders.world c.lead_from.new.traders in
    let calls = g.P.Peers.calls c.args.peers.now in
    follows-so g.T.Traders.others g.T.Traders.later c.args.home.now w calls c.args.trader c.args.whole.now
    c.args.whole.now c.args.names.now c.in-Some.rest.now c.in-Some.name.now _ _ _ c.in-Some.ensures.cases.0
    (is-inside g.T.Traders.others g.T.Traders.later c.args.home.now c.args.whole.now calls
    (g.P.Peers.calls c.follow.new.peers) w u (g.T.Traders.world c.follow.new.traders) c.args.trader
    c.in-Inside.trader c.in-Some.name.now c.in-Some.rest.now c.in-Inside.point c.in_ok-answer-in-Inside.answer
    leads.0 (search rules))

pub follow-requires : goal.follow-requires
follow-requires g t c =
    let leads = rw c.in-Inside.is at c.in_ok-answer-in-Some.ensures.leads in
    let u = g.T.Traders.world c.lead_from.new.traders in
    let within : c.in-Inside.trader < length u =
    register-inside-within c.args.home.now u leads.0.register c.in-Inside.trader leads.0.is_inside in
    let some : 0 < length c.in-Some.rest.now = leads.1 in
    let words =
    other-words c.args.names.now c.in-Some.rest.now c.in-Some.name.now c.in-Some.ensures.cases.0 c.requires.words in
    let fewer : length c.in-Some.rest.now < length c.args.names.now = omega (arith, c.in-Some.ensures.cases.1) in
    search (rules, within, some, words, fewer)

pub returns-in_err-answer-in-Inside-clause-goes : goal.returns-in_err-answer-in-Inside-clause-goes
returns-in_err-answer-in-Inside-clause-goes g t c =
    goes-after g.T.Traders.others g.T.Traders.later (g.T.Traders.world c.args.traders.now)
    (g.T.Traders.world c.lead_from.new.traders) (g.T.Traders.world c.follow.new.traders) c.lead_from.ensures.goes
    c.follow.ensures.goes

pub returns-in_ok-answer-in-Inside-clause-goes : goal.returns-in_ok-answer-in-Inside-clause-goes
returns-in_ok-answer-in-Inside-clause-goes g t c =
    goes-after g.T.Traders.others g.T.Traders.later (g.T.Traders.world c.args.traders.now)
    (g.T.Traders.world c.lead_from.new.traders) (g.T.Traders.world c.follow.new.traders) c.lead_from.ensures.goes
    c.follow.ensures.goes

pub returns-in_err-answer-in-Inside-clause-faults : goal.returns-in_err-answer-in-Inside-clause-faults
returns-in_err-answer-in-Inside-clause-faults g t c =
    counted-on _ _ _ _ _ _ c.lead_from.ensures.faults c.follow.ensures.faults

pub returns-in_ok-answer-in-Inside-clause-faults : goal.returns-in_ok-answer-in-Inside-clause-faults
returns-in_ok-answer-in-Inside-clause-faults g t c =
    counted-on _ _ _ _ _ _ c.lead_from.ensures.faults c.follow.ensures.faults
