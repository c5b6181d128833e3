use Rattle.td_group.proofs.Taken.{admitted_at, legal_at, point_at}
use Rattle.td_group.proofs.pass.GroupPassTraders.point.Goals as goal

pub returns-clause-point : goal.returns-clause-point
returns-clause-point g c =
    point_at c.args.self.now.passes.items c.args.trader c.index.result.now c.requires c.index.ensures c.changes.result
    c.changes.ensures

pub returns-clause-legal : goal.returns-clause-legal
returns-clause-legal g c =
    let s = c.args.self.now in
    legal_at s.passes.items c.args.trader c.index.result.now c.requires c.index.ensures s.sound

pub returns-clause-admitted : goal.returns-clause-admitted
returns-clause-admitted g c =
    let s = c.args.self.now in
    admitted_at s.passes.items c.args.trader c.index.result.now c.requires c.index.ensures s.sound
