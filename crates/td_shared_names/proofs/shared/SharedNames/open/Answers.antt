use Rattle.td_shared_names.proofs.Passing.{fresh_opening}
use Rattle.td_shared_names.proofs.shared.SharedNames.open.Goals as goal

pub returns-clause-fresh : goal.returns-clause-fresh
returns-clause-fresh c = record { opened_is = c.in_ok-cell.ensures.opened; seen = c.in_ok-cell.ensures.seen }

pub returns-clause-opening : goal.returns-clause-opening
returns-clause-opening c =
    fresh_opening c.args.naming c.in_ok-cell.cell c.in_ok-cell.pass c.in_ok-cell.ensures.own.0
    c.in_ok-cell.ensures.own.1
    (record { opened_is = c.in_ok-cell.ensures.opened; seen = c.in_ok-cell.ensures.seen })
