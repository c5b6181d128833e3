use Rattle.std.proofs.Common.{◌≡◌, ◌≤◌, ap, ◌∙◌, Ok, arith}
use Rattle.td_cdr.specs.Place.{At}
use Rattle.td_cdr.specs.Reading.{encapsulation_at}
use Rattle.td_typecode.specs.NodeLayers.{GraphAt}
use Rattle.td_typecode.proofs.GraphParts.{entered, enters-on}
use Rattle.td_typecode.proofs.graph_reader.GraphReader.enter.Goals as goal

pub advance-requires : goal.advance-requires
advance-requires c =
    let a = c.reader-next in
    let inside : a.result.origin ≤ a.result.place = rw a.ensures.same a.ensures.inside in
    (entered a.result c.in_ok-inner.inner c.encapsulation.new.self inside c.in_ok-inner.ensures).0
    ∙ ap (λ (z : At). z.origin) a.ensures.same

pub taken-requires : goal.taken-requires
taken-requires c =
    let a = c.reader-next in
    let inside : a.result.origin ≤ a.result.place = rw a.ensures.same a.ensures.inside in
    let f = entered a.result c.in_ok-inner.inner c.encapsulation.new.self inside c.in_ok-inner.ensures in
    let moved = ap (λ (g : GraphAt). g.at.origin) c.advance.ensures in
    omega (arith, f.0, f.1, moved, inside)

pub returns : goal.returns
returns c =
    let a = c.reader-next in
    let e : encapsulation_at c.args.self.now.at ≡ Ok (c.in_ok-inner.inner, c.encapsulation.new.self) =
    rw a.ensures.same at c.in_ok-inner.ensures in
    enters-on c.args.self.now c.advance.new.self c.taken.new.self c.taken.result c.in_ok-inner.inner
    c.encapsulation.new.self a.ensures.inside e c.advance.ensures c.taken.ensures.inner c.taken.ensures.stays
    c.taken.ensures.base
