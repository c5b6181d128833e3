use Rattle.std.proofs.Common.{◌≡◌, ◌≤◌, ap, refl, ◌∙◌, Ok}
use Rattle.td_cdr.specs.Place.{At}
use Rattle.td_cdr.specs.Sound.{ulong}
use Rattle.td_typecode.proofs.GraphParts.{same-origin, lifts}
use Rattle.td_typecode.proofs.graph_reader.GraphReader.ulong.Goals as goal

pub advance-requires : goal.advance-requires
advance-requires c =
    let a = c.reader-next in
    let inside : a.result.origin ≤ a.result.place = rw a.ensures.same a.ensures.inside in
    let f : ulong.format.reads a.result ≡ Ok (c.in_ok-n.n, c.u32.new.self) = rw c.in_ok-n.ensures.gives refl in
    same-origin ulong a.result c.u32.new.self c.in_ok-n.n inside f ∙ ap (λ (z : At). z.origin) a.ensures.same

pub returns-clause-passes : goal.returns-clause-passes
returns-clause-passes c =
    let f : ulong.format.reads c.reader-next.result ≡ Ok (c.in_ok-n.n, c.u32.new.self) = rw c.in_ok-n.ensures.gives
    refl in
    let g = rw c.reader-next.ensures.same at f in
    rw c.advance.ensures (g, refl)

pub returns-clause-gives : goal.returns-clause-gives
returns-clause-gives c =
    let s = c.args.self.now.state in
    let f : ulong.format.reads c.reader-next.result ≡ Ok (c.in_ok-n.n, c.u32.new.self) = rw c.in_ok-n.ensures.gives
    refl in
    let g = rw c.reader-next.ensures.same at f in
    rw c.advance.ensures (lifts ulong s s c.args.self.now.at c.u32.new.self c.in_ok-n.n g refl)
