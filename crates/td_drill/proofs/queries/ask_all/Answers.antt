use Rattle.std.proofs.Common.{ap, ◌∙◌}
use Rattle.td_peers.specs.Scripts.{ScriptState}
use Rattle.td_drill.proofs.Adding.{asks-all}
use Rattle.td_drill.proofs.queries.ask_all.Goals as goal

pub returns : goal.returns
returns g c =
    asks-all (g.W.Words.word c.args.words.now) c.args.home.now c.args.solo.now.traders.items _ _ _ _ _
    (c.in_ok-query.ensures ∙ c.in_ok-drill_query.ensures) (ap (λ (p : ScriptState). p.calls) c.new-peers.ensures)
    c.count-count.ensures.count c.ask_each-tally.ensures
