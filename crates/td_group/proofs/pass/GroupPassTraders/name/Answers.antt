use Rattle.std.proofs.Common.{arith}
use Rattle.td_group.proofs.Taken.{name_inside, name_read}
use Rattle.td_group.proofs.pass.GroupPassTraders.name.Goals as goal

pub index-requires : goal.index-requires
index-requires g c =
    let s = c.args.self.now in
    omega (arith, s.names.now.ok.0, name_inside s.passes.items s.names.now.items s.named c.args.trader c.requires)

pub returns : goal.returns
returns g c =
    let s = c.args.self.now in
    name_read s.passes.items s.names.now.items s.named c.args.trader c.index.result.now c.requires c.index.ensures
