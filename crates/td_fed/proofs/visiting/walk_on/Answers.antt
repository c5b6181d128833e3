use Rattle.std.proofs.Common.{◌≡◌, [], ◌∷◌, rules}
use Rattle.td_fed.proofs.Called.{on-err}
use Rattle.td_fed.proofs.Going.{begun-so-far, goes-further, going-first, is-less, is-visited, visited-so-far}
use Rattle.td_fed.proofs.Moving.{draws-after, draws-none, goes-after, goes-none}
use Rattle.td_fed.proofs.Showing.{shown-none, shown-on}
use Rattle.td_fed.proofs.visiting.walk_on.Goals as goal
use Rattle.td_fed.specs.declared.entering.VisitStart.TheVariants.{Open}
use Rattle.td_query_walk.proofs.Counting.{counted-none, counted-on}

pub returns-in_err-push-clause-shown : goal.returns-in_err-push-clause-shown
returns-in_err-push-clause-shown g c =
    shown-none (g.T.Traders.world c.args.traders.now) (g.P.Peers.calls c.args.peers.now) c.args.notes.now.items

pub turns-init : goal.turns-init
turns-init g c =
    let one : c.push.new.self.items ≡ c.args.first ∷ [] = search rules in (
      g.met.T.Traders.same_itself _,
      g.met.P.Peers.same_self _,
      g.met.W.Words.same_self _,
      going-first g.T.Traders.others g.T.Traders.later c.args.home.now _ _ _ _ _ c.args.first one c.requires,
      counted-none _ _,
    )

pub turn-requires : goal.turn-requires
turn-requires g c = c.turns.invariant.3.some_left

pub turns-preserved : goal.turns-preserved
turns-preserved g c =
    let i = c.turns.invariant in
    let t = rw c.in-None.is at c.in_ok-visit.ensures.turns in (
      g.met.T.Traders.same_on _ _ _ i.0 c.turn.ensures.same,
      g.met.P.Peers.same_on _ _ _ i.1 c.turn.ensures.same_peers,
      g.met.W.Words.same_on _ _ _ i.2 c.turn.ensures.same_words,
      goes-further _ _ _ _ _ _ _ _ _ _ _ _ _ i.3 _ _ _ _ _ t c.turn.ensures.shown c.turn.ensures.goes
          c.turn.ensures.draws,
      counted-on _ _ _ _ _ _ i.4 c.turn.ensures.faults,
    )

pub turns-smaller : goal.turns-smaller
turns-smaller g c =
    let t = rw c.in-None.is at c.in_ok-visit.ensures.turns in
    is-less _ _ _ _ _ _ _ _ _ _ _ _ _ c.turns.invariant.3 _ _ _ _ _ t

pub returns-in-Some-clause-same : goal.returns-in-Some-clause-same
returns-in-Some-clause-same g c = g.met.T.Traders.same_on _ _ _ c.turns.invariant.0 c.turn.ensures.same

pub returns-in-Some-clause-same_peers : goal.returns-in-Some-clause-same_peers
returns-in-Some-clause-same_peers g c = g.met.P.Peers.same_on _ _ _ c.turns.invariant.1 c.turn.ensures.same_peers

pub returns-in-Some-clause-same_words : goal.returns-in-Some-clause-same_words
returns-in-Some-clause-same_words g c = g.met.W.Words.same_on _ _ _ c.turns.invariant.2 c.turn.ensures.same_words

pub returns-in-Some-clause-visited : goal.returns-in-Some-clause-visited
returns-in-Some-clause-visited g c = λ w k q before h.
    let one : c.push.new.self.items ≡ c.args.first ∷ [] = search rules in
    let t = rw c.in-Some.is at c.in_ok-visit.ensures.turns in
    is-visited _ _ _ _ _ _ _ _ _ _ _ _ _ c.turns.invariant.3 _ _ _ _ _ c.in-Some.visit w k q c.args.first before t one h

pub returns-in-Some-clause-shown : goal.returns-in-Some-clause-shown
returns-in-Some-clause-shown g c =
    shown-on _ _ _ _ _ _ _ _ _ c.turns.invariant.3.shown c.turn.ensures.shown

pub returns-in_err-visit-clause-same : goal.returns-in_err-visit-clause-same
returns-in_err-visit-clause-same g c = g.met.T.Traders.same_on _ _ _ c.turns.invariant.0 c.turn.ensures.same

pub returns-in_err-visit-clause-same_peers : goal.returns-in_err-visit-clause-same_peers
returns-in_err-visit-clause-same_peers g c = g.met.P.Peers.same_on _ _ _ c.turns.invariant.1 c.turn.ensures.same_peers

pub returns-in_err-visit-clause-same_words : goal.returns-in_err-visit-clause-same_words
returns-in_err-visit-clause-same_words g c = g.met.W.Words.same_on _ _ _ c.turns.invariant.2 c.turn.ensures.same_words

pub returns-in_err-visit-clause-shown : goal.returns-in_err-visit-clause-shown
returns-in_err-visit-clause-shown g c =
    shown-on _ _ _ _ _ _ _ _ _ c.turns.invariant.3.shown c.turn.ensures.shown

pub returns-in_err-push-clause-goes : goal.returns-in_err-push-clause-goes
returns-in_err-push-clause-goes g c =
    goes-none g.T.Traders.others g.T.Traders.later (g.T.Traders.world c.args.traders.now)

pub returns-in_err-push-clause-draws : goal.returns-in_err-push-clause-draws
returns-in_err-push-clause-draws g c = draws-none (g.W.Words.word c.args.words.now)

pub returns-in-Some-clause-goes : goal.returns-in-Some-clause-goes
returns-in-Some-clause-goes g c = goes-after _ _ _ _ _ c.turns.invariant.3.goes c.turn.ensures.goes

pub returns-in-Some-clause-draws : goal.returns-in-Some-clause-draws
returns-in-Some-clause-draws g c = draws-after _ _ _ c.turns.invariant.3.draws c.turn.ensures.draws

pub returns-in-Some-clause-faults : goal.returns-in-Some-clause-faults
returns-in-Some-clause-faults g c = counted-on _ _ _ _ _ _ c.turns.invariant.4 c.turn.ensures.faults

pub returns-in_err-visit-clause-goes : goal.returns-in_err-visit-clause-goes
returns-in_err-visit-clause-goes g c = goes-after _ _ _ _ _ c.turns.invariant.3.goes c.turn.ensures.goes

pub returns-in_err-visit-clause-draws : goal.returns-in_err-visit-clause-draws
returns-in_err-visit-clause-draws g c = draws-after _ _ _ c.turns.invariant.3.draws c.turn.ensures.draws

pub returns-in_err-visit-clause-faults : goal.returns-in_err-visit-clause-faults
returns-in_err-visit-clause-faults g c = counted-on _ _ _ _ _ _ c.turns.invariant.4 c.turn.ensures.faults

pub returns-in_err-push-clause-so_far : goal.returns-in_err-push-clause-so_far
returns-in_err-push-clause-so_far g c = λ w k q before h.
    on-err _ (begun-so-far g.T.Traders.others g.T.Traders.later c.args.home.now w (g.T.Traders.world c.args.traders.now)
    (g.W.Words.word c.args.words.now) (g.P.Peers.calls c.args.peers.now) k q (Open c.args.first) before
    c.args.notes.now.items h)

pub returns-in_err-visit-clause-so_far : goal.returns-in_err-visit-clause-so_far
returns-in_err-visit-clause-so_far g c = λ w k q before h.
    let one : c.push.new.self.items ≡ c.args.first ∷ [] = search rules in
    on-err _
    (visited-so-far _ _ _ _ _ _ _ _ _ _ _ _ _ c.turns.invariant.3 _ _ _ _ c.turn.new.stack.items w k q c.args.first
    before c.in_err-visit.ensures.so_far one h)
