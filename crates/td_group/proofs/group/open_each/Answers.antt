use Rattle.std.proofs.Common.{arith, rules}
use Rattle.std.proofs.lemmas.List.{nil_from_length}
use Rattle.td_group.proofs.Closed.{opens_done, opens_first, opens_on}
use Rattle.td_group.proofs.group.open_each.Goals as goal

pub loop-trader-init : goal.loop-trader-init
loop-trader-init c =
    opens_first _ _ _ (nil_from_length _ (omega (arith, c.requires.0, c.args.cells.now.ok.0))) (nil_from_length _
    (omega (arith, c.requires.1, c.args.passes.now.ok.0)))

pub loop-trader-preserved : goal.loop-trader-preserved
loop-trader-preserved c =
    opens_on _ _ _ _ _ _ _ _ c.in-Some.ensures.items c.loop-trader.invariant c.in_ok-open_one.ensures

pub returns-clause-opened : goal.returns-clause-opened
returns-clause-opened c =
    let s = c.loop-trader in
    opens_done c.args.traders.now.items c.reverse.new.self.items s.traders.items s.cells.items s.passes.items
    c.reverse.ensures.items (nil_from_length s.traders.items (search rules)) s.invariant
