use Rattle.td_cell.specs.Passes.{knowledge}
use Rattle.td_shared_names.proofs.Seen.{some_one}
use Rattle.td_shared_names.specs.Seeing.{past_of}
use Rattle.td_shared_names.proofs.pass.NamePassNames.point.Goals as goal

pub returns-clause-point : goal.returns-clause-point
returns-clause-point g c =
    let p = c.args.self.now.pass in
    c.changes.ensures (past_of p) (some_one (knowledge p).seen p.knows)

pub returns-clause-legal : goal.returns-clause-legal
returns-clause-legal g c = c.args.self.now.sound.1
