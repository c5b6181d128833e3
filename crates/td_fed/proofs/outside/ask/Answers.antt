use Rattle.std.proofs.Common.{◌≡◌, rules, sym, subst}
use Rattle.td_fed.proofs.Called.{evaluates, on-err, peered-asked, peered-so-far}
use Rattle.td_fed.proofs.Moving.{goes-none}
use Rattle.td_fed.proofs.outside.ask.Goals as goal
use Rattle.td_fed.specs.Entering.{IsAsked, IsAskedSoFar}
use Rattle.td_targets.specs.Targets.{inside_group}
use Rattle.td_fed.specs.Visiting.{BeginsVisit, course}
use Rattle.td_fed.specs.declared.outside.Asking.TheVariants.{Answered}
use Rattle.td_trader.specs.Worlds.{Watches}
use Rattle.td_walk.specs.declared.answer.Next.{Next}
use Rattle.td_walk.specs.declared.answer.Next.TheVariants.{Evaluate}

pub returns-in_ok-answer-in-Evaluate-clause-asked : goal.returns-in_ok-answer-in-Evaluate-clause-asked
returns-in_ok-answer-in-Evaluate-clause-asked g c = λ words.
    let w = g.T.Traders.world c.args.traders.now in
    let s = course w words (g.P.Peers.calls c.args.peers.now) in
    let u = course w words (g.P.Peers.calls c.evaluate-answer.new.peers) in
    let a = c.in-Evaluate in
    let e : c.args.question ≡ Evaluate a.evaluator a.name c.get.result.now c.get-in-Evaluate.result.now =
    search rules in
    subst (λ (q : Next). IsAsked (BeginsVisit g.T.Traders.others g.T.Traders.later) (inside_group c.args.home.now) s q
    (Answered c.in_ok-answer-in-Evaluate.field-0) c.args.notes.now.items c.evaluate-answer.new.notes.items u)
    (sym e)
    (peered-asked (BeginsVisit g.T.Traders.others g.T.Traders.later) (inside_group c.args.home.now) s
    (Evaluate a.evaluator a.name c.get.result.now c.get-in-Evaluate.result.now)
    c.in_ok-answer-in-Evaluate.field-0 c.args.notes.now.items c.evaluate-answer.new.notes.items
    (g.P.Peers.calls c.evaluate-answer.new.peers)
    (evaluates (BeginsVisit g.T.Traders.others g.T.Traders.later) (inside_group c.args.home.now) s a.evaluator a.name
    c.get.result.now c.get-in-Evaluate.result.now) c.in_ok-answer-in-Evaluate.ensures.peered)

pub returns-in_err-answer-in-Evaluate-clause-goes : goal.returns-in_err-answer-in-Evaluate-clause-goes
returns-in_err-answer-in-Evaluate-clause-goes g c =
    goes-none g.T.Traders.others g.T.Traders.later (g.T.Traders.world c.args.traders.now)

pub returns-in_ok-answer-in-Evaluate-clause-goes : goal.returns-in_ok-answer-in-Evaluate-clause-goes
returns-in_ok-answer-in-Evaluate-clause-goes g c =
    goes-none g.T.Traders.others g.T.Traders.later (g.T.Traders.world c.args.traders.now)

pub returns-in_err-answer-in-Evaluate-clause-so_far : goal.returns-in_err-answer-in-Evaluate-clause-so_far
returns-in_err-answer-in-Evaluate-clause-so_far g c = λ words.
    let w = g.T.Traders.world c.args.traders.now in
    let s = course w words (g.P.Peers.calls c.args.peers.now) in
    let u = course w words (g.P.Peers.calls c.evaluate-answer.new.peers) in
    let a = c.in-Evaluate in
    let e : c.args.question ≡ Evaluate a.evaluator a.name c.get.result.now c.get-in-Evaluate.result.now =
    search rules in
    on-err _ (subst (λ (q : Next). IsAskedSoFar (BeginsVisit g.T.Traders.others g.T.Traders.later)
    (Watches g.T.Traders.others g.T.Traders.later) (inside_group c.args.home.now) s q c.args.notes.now.items
    c.evaluate-answer.new.notes.items u) (sym e)
    (peered-so-far (BeginsVisit g.T.Traders.others g.T.Traders.later) (inside_group c.args.home.now) s
    (Watches g.T.Traders.others g.T.Traders.later)
    (Evaluate a.evaluator a.name c.get.result.now c.get-in-Evaluate.result.now) c.args.notes.now.items
    c.evaluate-answer.new.notes.items (g.P.Peers.calls c.evaluate-answer.new.peers)
    (evaluates (BeginsVisit g.T.Traders.others g.T.Traders.later) (inside_group c.args.home.now) s a.evaluator a.name
    c.get.result.now c.get-in-Evaluate.result.now) c.in_err-answer-in-Evaluate.ensures.so_far))
