use Rattle.std.proofs.Common.{◌≡◌, ◌≤◌, Ok, None, sym, subst}
use Rattle.td_typecode.specs.declared.mode.Mode.TheVariants.{Outer}
use Rattle.td_typecode.specs.GraphCodes.{edges}
use Rattle.td_typecode.specs.WholeGraphs.{AreRead}
use Rattle.td_indirection.specs.States.{empty}
use Rattle.td_typecode.proofs.OutermostParts.{graph-read}
use Rattle.td_typecode.proofs.outermost.linked_at.Goals as goal

pub whole_of-requires : goal.whole_of-requires
whole_of-requires c =
    let a = c.args.r.now in
    let r = c.copied in
    let inside : a.origin ≤ a.place = r.ensures.inside in
    let e : (edges c.args.levels Outer None).format.reads empty a
    ≡ Ok ((c.in_ok-_root._root, c.edge_at.new.g.state), c.edge_at.new.g.at) =
    rw (c.new-g.ensures, r.ensures.same) at c.in_ok-_root.ensures in
    subst AreRead (sym c.begun.ensures.known)
    (graph-read c.args.levels a c.edge_at.new.g.at c.in_ok-_root._root c.edge_at.new.g.state inside r.ensures.octets e)
