use Rattle.std.proofs.Common.{◌≤◌, ap, refl, ◌∙◌}
use Rattle.td_cdr.specs.Place.{At}
use Rattle.td_typecode.specs.Codes.{positive}
use Rattle.td_typecode.proofs.GraphParts.{same-origin, lifts}
use Rattle.td_typecode.proofs.graph_reader.GraphReader.positive.Goals as goal

pub advance-requires : goal.advance-requires
advance-requires c =
    let a = c.reader-next in
    let inside : a.result.origin ≤ a.result.place = rw a.ensures.same a.ensures.inside in
    same-origin positive a.result c.count_of.new.r c.in_ok-count.count inside c.in_ok-count.ensures
    ∙ ap (λ (z : At). z.origin) a.ensures.same

pub returns : goal.returns
returns c =
    let s = c.args.self.now.state in
    let f = rw c.reader-next.ensures.same at c.in_ok-count.ensures in
    rw c.advance.ensures (lifts positive s s c.args.self.now.at c.count_of.new.r c.in_ok-count.count f refl)
