use Rattle.std.proofs.Common.{◌≡◌, ℕ, ◌-◌, List, ap, ◌∙◌}
use Rattle.std.specs.Prelude.{slice_index}
use Rattle.td_indirection.specs.States.{places}
use Rattle.td_typecode.specs.NodeLayers.{GraphAt}
use Rattle.td_typecode.proofs.GraphParts.{message-placed}
use Rattle.td_typecode.proofs.graph_reader.GraphReader.message_place.Goals as goal

pub returns : goal.returns
returns c =
    let view = c.self.view_is in
    let s = c.args.self.now.state in
    let origin : c.self.inside.reader.origin ≡ c.args.self.now.at.origin = ap (λ (g : GraphAt). g.at.origin) view in
    let base : c.self.inside.reader.origin - c.self.inside.first ≡ s.base = ap (λ (g : GraphAt). g.state.base) view in
    let place : c.place_of.result ≡ slice_index (places s) c.args.number =
    c.place_of.ensures ∙ ap (λ (ps : List ℕ). slice_index ps c.args.number) c.begun.ensures.stand in
    rw (← place)
    (message-placed c.saturating_add.result c.place_of.result c.self.inside.first c.args.self.now.at.origin s.base
    c.saturating_add.ensures (rw origin at c.self.invariant.0) (rw origin at base))
