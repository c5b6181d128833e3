use Rattle.std.proofs.Common.{◌≤◌, ap, refl, ◌∙◌}
use Rattle.td_cdr.specs.Place.{At}
use Rattle.td_cdr.specs.Sound.{text}
use Rattle.td_typecode.proofs.GraphParts.{same-origin, lifts}
use Rattle.td_typecode.proofs.graph_reader.GraphReader.text.Goals as goal

pub advance-requires : goal.advance-requires
advance-requires c =
    let a = c.reader-next in
    let inside : a.result.origin ≤ a.result.place = rw a.ensures.same a.ensures.inside in
    same-origin text a.result c.read.new.r c.in_ok-text.text inside c.in_ok-text.ensures
    ∙ ap (λ (z : At). z.origin) a.ensures.same

pub returns : goal.returns
returns c =
    let s = c.args.self.now.state in
    let f = rw c.reader-next.ensures.same at c.in_ok-text.ensures in
    rw c.advance.ensures (lifts text s s c.args.self.now.at c.read.new.r c.in_ok-text.text f refl)
