use Rattle.td_fed.proofs.Staying.{goes-many}
use Rattle.td_trader.specs.Solos.{no_changes, same_marks}
use Rattle.td_drill.proofs.Adding.{comes-so}
use Rattle.td_drill.proofs.queries.ask.Goals as goal

pub returns-clause-comes : goal.returns-clause-comes
returns-clause-comes g c =
    comes-so c.args.home.now c.args.q.now _ c.args.trader _ _ _ c.as_slice.result.now c.in_ok-visited.visited
    c.tally_of-tally.result c.new.ensures c.in_ok-visited.ensures.visited c.as_slice.ensures c.tally_of-tally.ensures

pub returns-clause-many : goal.returns-clause-many
returns-clause-many g c = goes-many no_changes same_marks _ _ c.visit.ensures.goes

pub returns-in_err-visited-clause-many : goal.returns-in_err-visited-clause-many
returns-in_err-visited-clause-many g c = goes-many no_changes same_marks _ _ c.visit.ensures.goes
