use Rattle.std.proofs.Common.{◌≡◌, length, map}
use Rattle.td_fed.specs.Visiting.{course}
use Rattle.td_trader.specs.Solos.{solo_view}
use Rattle.td_drill.specs.Drills.{DrillsFirst}
use Rattle.td_drill.proofs.queries.ask_each.Given as goal

-- so far the traders were asked, and they stay as many
abbrev pub invariant-loop-trader : goal.invariant-loop-trader
invariant-loop-trader g l = record {
  so_far : DrillsFirst l.home l.q
      (course (map solo_view l.initial.solo.traders.items) (g.W.Words.word l.initial.words) l.initial.peers.calls)
      l.trader l.all
      (course (map solo_view l.solo.traders.items) (g.W.Words.word l.words) l.peers.calls);
  many : l.count ≡ length (map solo_view l.solo.traders.items);
}
