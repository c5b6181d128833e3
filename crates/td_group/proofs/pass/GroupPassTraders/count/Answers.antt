use Rattle.td_group.proofs.Taken.{names_differ}
use Rattle.td_group.proofs.pass.GroupPassTraders.count.Goals as goal

pub returns-clause-distinct : goal.returns-clause-distinct
returns-clause-distinct g c =
    let s = c.args.self.now in
    names_differ s.passes.items s.names.now.items s.named s.distinct
