use Rattle.std.proofs.Common.{◌≡◌, ◌+◌, drop}
use Rattle.td_iter.specs.Desks.{place_of}
use Rattle.td_iter.proofs.desk.place_of.Given as goal

abbrev pub invariant-loop-entry : goal.invariant-loop-entry
invariant-loop-entry g l = record {
  index : l.place ≡ l.entry-index;
  place : l.place + place_of l.trader l.number (drop l.entry-index l.entries) ≡ place_of l.trader l.number l.entries;
}
