use Rattle.std.proofs.Common.{◌≤◌, ap, refl, ◌∙◌}
use Rattle.td_cdr.specs.Place.{At}
use Rattle.td_typecode.specs.GraphCodes.{kind_or_indirection}
use Rattle.td_typecode.proofs.GraphParts.{same-origin}
use Rattle.td_typecode.proofs.graph_reader.GraphReader.kind.Goals as goal

pub advance-requires : goal.advance-requires
advance-requires c =
    let a = c.reader-next in
    let inside : a.result.origin ≤ a.result.place = rw a.ensures.same a.ensures.inside in
    same-origin (kind_or_indirection c.args.mode) a.result c.place_at.new.r c.in_ok-kind.kind inside
    c.in_ok-kind.ensures.gives
    ∙ ap (λ (z : At). z.origin) a.ensures.same

pub returns-clause-passes : goal.returns-clause-passes
returns-clause-passes c =
    let f = rw c.reader-next.ensures.same at c.in_ok-kind.ensures.gives in
    rw c.advance.ensures (f, refl)

pub returns-clause-origin : goal.returns-clause-origin
returns-clause-origin c =
    let a = c.reader-next in
    let inside : a.result.origin ≤ a.result.place = rw a.ensures.same a.ensures.inside in
    rw c.advance.ensures
    (same-origin (kind_or_indirection c.args.mode) a.result c.place_at.new.r c.in_ok-kind.kind inside
    c.in_ok-kind.ensures.gives
    ∙ ap (λ (z : At). z.origin) a.ensures.same)
