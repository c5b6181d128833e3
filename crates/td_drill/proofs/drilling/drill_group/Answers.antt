use Rattle.std.proofs.Common.{List, length, ap, ◌∙◌}
use Rattle.td_trader.specs.PlainTraders.{PlainTrader}
use Rattle.td_drill.specs.Drills.{offers_in}
use Rattle.td_drill.proofs.Adding.{drills}
use Rattle.td_drill.proofs.drilling.drill_group.Goals as goal

pub returns : goal.returns
returns g c =
    let all = c.as_slice-group.ensures.value in
    drills (g.W.Words.word c.args.words.now) c.args.home.now c.args.solo.now.traders.items _ _ _ _
    (ap (λ (ts : List PlainTrader). length ts) all)
    (c.in_ok-offers.ensures ∙ ap (λ (ts : List PlainTrader). offers_in ts) all) c.in_ok-tally.ensures
    c.drill_line.ensures
