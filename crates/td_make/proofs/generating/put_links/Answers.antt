use Rattle.std.proofs.Common.{ap}
use Rattle.std.specs.Prelude.{codes}
use Rattle.td_make.specs.Generated.{chord_after, link_line, next_after}
use Rattle.td_make.proofs.Rows.{two-pieces}
use Rattle.td_make.proofs.generating.put_links.Goals as goal

pub returns : goal.returns
returns c =
    let next = link_line (codes "link next T") in
    let chord = link_line (codes "link chord T") in
    two-pieces c.args.text.now.items (next c.next_after.result) (next (next_after c.args.count c.args.trader))
    (chord c.chord_after.result) (chord (chord_after c.args.count c.args.trader)) _ _ c.put_link-2.result
    (ap next c.next_after.ensures) (ap chord c.chord_after.ensures) c.in_ok-put_link.ensures c.put_link-2.ensures
