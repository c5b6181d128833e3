use Rattle.std.proofs.Common.{ap, ◌∙◌}
use Rattle.td_indirection.specs.States.{nodes, places}
use Rattle.td_typecode.specs.NodeLayers.{GraphAt, known_nodes, node_places}
use Rattle.td_typecode.proofs.graph_reader.GraphReader.begun.Goals as goal

pub returns-clause-known : goal.returns-clause-known
returns-clause-known c =
    ap known_nodes c.as_slice.ensures.value ∙ ap (λ (g : GraphAt). nodes g.state) c.self.view_is

pub returns-clause-stand : goal.returns-clause-stand
returns-clause-stand c =
    ap node_places c.as_slice.ensures.value ∙ ap (λ (g : GraphAt). places g.state) c.self.view_is
