use Rattle.std.proofs.Common.{◌≡◌, ◌<◌, List, length, sym}
use Rattle.tc_graph.specs.declared.node.Node.{Node}
use Rattle.tc_graph.specs.Aliases.{bare}
use Rattle.tc_graph.proofs.Chains.{bare-no_alias}
use Rattle.tc_graph.proofs.whole.Whole.bare.Goals as goal

pub returns-clause-no_alias : goal.returns-clause-no_alias
returns-clause-no_alias c =
    let g : List Node = c.self.inside.nodes.items in
    let same : c.args.self.now ≡ g = sym c.self.view_is in
    let within : c.args.place < length g = rw same at c.requires in
    let is : c.bare.result ≡ bare g c.args.place = rw c.as_slice.ensures.value at c.bare.ensures.value in
    rw (same, is) (bare-no_alias g c.args.place c.self.invariant within)
