use Rattle.std.proofs.Common.{◌≤◌, ap, refl, ◌∙◌}
use Rattle.td_cdr.specs.Place.{At}
use Rattle.td_typecode.specs.Codes.{head}
use Rattle.td_typecode.proofs.GraphParts.{same-origin, head-fits}
use Rattle.td_typecode.proofs.graph_reader.GraphReader.head.Goals as goal

pub advance-requires : goal.advance-requires
advance-requires c =
    let a = c.reader-next in
    let inside : a.result.origin ≤ a.result.place = rw a.ensures.same a.ensures.inside in
    same-origin head a.result c.head_of.new.r c.in_ok-head.head inside c.in_ok-head.ensures
    ∙ ap (λ (z : At). z.origin) a.ensures.same

pub returns-clause-passes : goal.returns-clause-passes
returns-clause-passes c =
    let f = rw c.reader-next.ensures.same at c.in_ok-head.ensures in
    rw c.advance.ensures (f, refl)

pub returns-clause-fits : goal.returns-clause-fits
returns-clause-fits c =
    let a = c.reader-next in
    let f = rw a.ensures.same at c.in_ok-head.ensures in
    head-fits c.args.self.now.at c.head_of.new.r c.in_ok-head.head a.ensures.inside a.ensures.octets f
