use Rattle.std.proofs.Common.{◌≤◌, ap, refl, ◌∙◌}
use Rattle.td_cdr.specs.Place.{At}
use Rattle.td_typecode.specs.NodeReading.{discriminator_label}
use Rattle.td_typecode.proofs.GraphParts.{same-origin, lifts}
use Rattle.td_typecode.proofs.graph_reader.GraphReader.label.Goals as goal

pub advance-requires : goal.advance-requires
advance-requires c =
    let a = c.reader-next in
    let inside : a.result.origin ≤ a.result.place = rw a.ensures.same a.ensures.inside in
    same-origin (discriminator_label c.args.switch) a.result c.label_by.new.r c.in_ok-label.label inside
    c.in_ok-label.ensures
    ∙ ap (λ (z : At). z.origin) a.ensures.same

pub returns : goal.returns
returns c =
    let s = c.args.self.now.state in
    let f = rw c.reader-next.ensures.same at c.in_ok-label.ensures in
    rw c.advance.ensures
    (lifts (discriminator_label c.args.switch) s s c.args.self.now.at c.label_by.new.r c.in_ok-label.label f refl)
