use Rattle.std.proofs.Common.{◌≡◌, ◌<◌, ◌+◌, ◌*◌, false, length, get_or, arith, ap, sym, ◌∙◌}
use Rattle.std.proofs.lemmas.List.{get_or_default}
use Rattle.std.proofs.lemmas.Nat.{mul-add-lt}
use Rattle.tc_graph.specs.Pairs.{PairTable}
use Rattle.tc_graph.proofs.PairLists.{marked_more}
use Rattle.tc_graph.proofs.pairs.Pairs.insert.Goals as goal

pub invariant_of-self-then-not-index : goal.invariant_of-self-then-not-index
invariant_of-self-then-not-index c =
    let left : c.args.pair.left < c.self.inside.rows = rw (ap (λ (t : PairTable). t.rows) c.self.view_is) c.requires.left in
    let right : c.args.pair.right < c.self.inside.columns = rw (ap (λ (t : PairTable). t.columns) c.self.view_is) c.requires.right in
    let cells = c.self.inside.cells.items in
    let cell = c.args.pair.left * c.self.inside.columns + c.args.pair.right in
    let fits : cell < length cells =
    rw c.self.invariant.2.size (omega (arith, mul-add-lt c.args.pair.left c.self.inside.columns c.args.pair.right c.self.inside.rows left right)) in
    let free : get_or cells cell false ≡ false =
    get_or_default cells cell false c.index.result.now fits ∙ sym c.index.ensures ∙ c.if-not-index.true in
    (c.self.invariant.0, c.self.invariant.1, rw c.in_ok-push.ensures.items (marked_more _ _ _ _ c.args.pair c.self.invariant.2 left right fits free))
